-- `barycentric::lower_half` meets its contract: the first x weights are there, and b is the last of them.
use Prim.Native.Nat.{◌-◌, ◌≤◌}
use mathlib.Core.Path.{◌≡◌}
use lib.ListN.{length, take}
use Rattle.barycentric.specs.Weights.{alternating, firsts}
use Rattle.barycentric.proofs.lower_half.Given as goal

abbrev pub invariant-loop-x : goal.invariant-loop-x
invariant-loop-x l =
    (1 ≤ l.x) × (l.x ≤ l.half) × (length l.list ≡ l.n) × (l.b ≡ alternating (l.n - 1) (l.x - 1))
    × (take l.x l.list ≡ firsts (alternating (l.n - 1)) l.x)
