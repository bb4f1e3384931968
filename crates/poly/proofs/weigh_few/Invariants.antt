-- The two halves and the products to come make the whole sum.
use Rattle.std.proofs.Common.{◌≤◌, length}
use Rattle.poly.proofs.Halves.{Halves}
use Rattle.poly.proofs.weigh_few.Given as goal

abbrev pub invariant-loop-x : goal.invariant-loop-x
invariant-loop-x l = (length l.yielded ≤ length l.list) × Halves l.list l.weights l.low l.high (length l.yielded)
