-- The three groups of tests, and the set that is placed.
use Rattle.std.proofs.Common.{◌∙◌}
use Rattle.access.proofs.Calling.{access_done}
use Rattle.access.proofs.access.Goals as goal

pub returns : goal.returns
returns c =
    access_done c.args.session c.args.line.now c.number_of-own.result (c.number_of-own.ensures ∙ c.settings.ensures)
    c.read_line-read.result c.read_line-read.ensures c.number_of-mark.result (c.number_of-mark.ensures ∙ c.wrong_mark-marked.ensures)
    c.or_else-late.result c.or_else-late.ensures c.or_else-refusal.result c.or_else-refusal.ensures
    c.place_unless.new.sets c.place_unless.ensures
