-- One coefficient more is written.
use Rattle.std.proofs.Common.{rules}
use Rattle.vanishing.proofs.Turns.{line_more, line_next, line_end_is}
use Rattle.vanishing.proofs.times_line.Goals as goal

pub loop-place-preserved : goal.loop-place-preserved
loop-place-preserved c = ((search rules, search (rules, line_more)), search (rules, line_next))

pub returns : goal.returns
returns c = search (rules, line_end_is)
