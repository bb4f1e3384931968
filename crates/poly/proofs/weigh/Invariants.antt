-- r and the products from i on make the whole sum.
use Rattle.std.proofs.Common.{◌≡◌, ◌≤◌, ◌<◌, ◌-◌, drop}
use Rattle.field.specs.Modulus.{p}
use Rattle.field.specs.Arithmetic.{sum}
use Rattle.poly.specs.Polynomial.{weighted}
use Rattle.poly.proofs.weigh.Given as goal

abbrev pub invariant-loop-i : goal.invariant-loop-i
invariant-loop-i l = (l.i ≤ l.m) × (l.r < p) × (sum l.r (weighted (drop l.i l.list) (drop l.i l.weights)) ≡ weighted l.list l.weights)

abbrev pub decreases-loop-i : goal.decreases-loop-i
decreases-loop-i l = l.m - l.i
