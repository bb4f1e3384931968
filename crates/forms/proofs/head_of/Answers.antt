-- A row alone, and a row and a post.
use Rattle.std.proofs.Common.{◌∙◌, sym, arith}
use Rattle.forms.proofs.Scanning.{scan_deal, scan_posted}
use Rattle.forms.proofs.head_of.Goals as goal

pub returns-then-letter-eq68 : goal.returns-then-letter-eq68
returns-then-letter-eq68 c =
    scan_deal c.args.k c.args.line.now c.requires.0 _ c.number_count-count.ensures (omega arith) c.in_ok-row.row (sym c.in_ok-row.was ∙ c.one_field.ensures)
    c.if-letter-eq68.true

pub returns : goal.returns
returns c =
    scan_posted c.args.k c.args.line.now c.requires.0 _ c.number_count-count.ensures (omega arith) c.in_ok-row.row (sym c.in_ok-row.was ∙ c.one_field.ensures)
    c.if-letter-eq68.false c.in_ok-post.post (sym c.in_ok-post.was ∙ c.one_field-2.ensures)
