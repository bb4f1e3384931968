-- `agreement::spread` meets its contract: both lists have the numbers of 0 and of the first i nodes.
use Prim.Native.Nat.{◌-◌}
use mathlib.Core.Path.{◌≡◌}
use lib.ListN.{length}
use Rattle.field.specs.Arithmetic.{product}
use Rattle.poly.specs.Interpolation.{interpolated}
use Rattle.barycentric.specs.Nodes.{last_of, missing}
use Rattle.barycentric.specs.Weights.{node_weight}
use Rattle.agreement.proofs.Scatter.{Scattered}
use Rattle.agreement.proofs.spread.Given as goal

abbrev pub invariant-loop-i : goal.invariant-loop-i
invariant-loop-i l =
    (l.last ≡ last_of 0 l.nodes)
    × Scattered (λ x. product (node_weight (last_of 0 l.nodes) (missing 0 l.nodes) x) (interpolated l.nodes l.values x)) l.nodes l.above l.i
    × Scattered (node_weight (last_of 0 l.nodes) (missing 0 l.nodes)) l.nodes l.below l.i
