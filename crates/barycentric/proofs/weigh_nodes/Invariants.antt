-- `barycentric::weigh_nodes` meets its contract: the weights have their distances to the first k gaps, and whole fours are left.
use Prim.Native.Nat.{◌-◌, ◌%◌, ◌≤◌}
use mathlib.Core.Path.{◌≡◌}
use lib.ListN.{length}
use Rattle.barycentric.specs.Weights.{Weighing}
use Rattle.barycentric.proofs.weigh_nodes.Given as goal

abbrev pub invariant-loop-k : goal.invariant-loop-k
invariant-loop-k l =
    (l.k ≤ length l.gaps) × (l.k % 4 ≡ length l.gaps % 4) × (length l.list ≡ length l.fn.list) × Weighing l.nodes l.gaps l.k l.list

abbrev pub decreases-loop-k : goal.decreases-loop-k
decreases-loop-k l = length l.gaps - l.k
