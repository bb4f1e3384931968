-- `barycentric::upper_half` meets its contract: the first x weights are there, the later ones mirrored.
use Prim.Native.Nat.{◌-◌, ◌≤◌}
use mathlib.Core.Path.{◌≡◌}
use lib.ListN.{length, take}
use Rattle.barycentric.specs.Weights.{alternating, firsts}
use Rattle.barycentric.proofs.upper_half.Given as goal

abbrev pub invariant-loop-x : goal.invariant-loop-x
invariant-loop-x l =
    (l.half ≤ l.x) × (l.x ≤ length l.fn.list) × (length l.list ≡ length l.fn.list) × (take l.x l.list ≡ firsts (alternating (length l.fn.list - 1)) l.x)
