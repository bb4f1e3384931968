-- `mark_all`: of the posts so far the marks go by the h-th point too.
use mathlib.Core.Path.{◌≡◌}
use lib.ListN.{length}
use Rattle.accepting.proofs.Marks.{Marking}
use Rattle.accepting.proofs.mark_all.Given as goal

abbrev pub invariant-loop-i : goal.invariant-loop-i
invariant-loop-i l =
    (length l.mark-items ≡ l.n) × Marking l.opening.party l.opening.row.now l.opening.blocks.now l.h l.i l.mark-items
