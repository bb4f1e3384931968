-- The first i numbers of row dest are written, every other number is as it was.
use Prim.Native.Nat.{◌-◌, ◌*◌, ◌≤◌}
use mathlib.Core.Path.{◌≡◌}
use lib.ListN.{length}
use lib.Seq.{paste}
use borrow.Author.Rules.{rules}
use Rattle.session.specs.Rows.{row_at, combined}
use Rattle.sums.proofs.Within.{within_start, within_more, within_end}
use Rattle.sums.proofs.combine_rows.Given as goal

abbrev pub invariant-loop-i : goal.invariant-loop-i
invariant-loop-i l =
    (l.i ≤ l.width) × (length l.rows ≡ length l.fn.rows) × (l.rows ≡ paste l.fn.rows (l.dest * l.width) (combined l.scale (row_at l.width l.fn.rows l.a) (row_at l.width l.fn.rows l.b)) l.i)
