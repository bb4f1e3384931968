-- The two halves and the products from i on make the whole sum.
use Rattle.std.proofs.Common.{◌≤◌, ◌-◌, length}
use Rattle.poly.proofs.Halves.{Halves}
use Rattle.poly.proofs.weigh_elements.Given as goal

abbrev pub invariant-loop-i : goal.invariant-loop-i
invariant-loop-i l = (l.i ≤ length l.list) × Halves l.list l.elements l.low l.high l.i

abbrev pub decreases-loop-i : goal.decreases-loop-i
decreases-loop-i l = length l.list - l.i
