-- `barycentric::inverse_product` meets its contract: r inverts the product over the first i numbers.
use Prim.Native.Nat.{◌≤◌, ◌-◌}
use mathlib.Core.Path.{◌≡◌}
use lib.ListN.{length, take}
use Rattle.field.specs.Arithmetic.{product}
use Rattle.poly.specs.Interpolation.{nodal}
use Rattle.barycentric.proofs.inverse_product.Given as goal

abbrev pub invariant-loop-i : goal.invariant-loop-i
invariant-loop-i l = (l.i ≤ length l.list) × (product l.r (nodal (take l.i l.list) 0) ≡ 1)

abbrev pub decreases-loop-i : goal.decreases-loop-i
decreases-loop-i l = length l.list - l.i
