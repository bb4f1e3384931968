-- What is written, and the values of the posts to come, make them all.
use Rattle.std.proofs.Common.{◌≡◌, ◌-◌, ◌++◌, length, take}
use Rattle.parts.specs.Draw.{each_from}
use Rattle.parts.specs.Between.{value_of}
use Rattle.parts.proofs.evaluate_each.Given as goal

abbrev pub invariant-loop-i : goal.invariant-loop-i
invariant-loop-i l =
    (length l.out ≡ l.shape.n)
    × (take l.i l.out ++ each_from l.i (l.shape.n - l.i) (value_of l.shape l.w l.vs) ≡ each_from 0 l.shape.n (value_of l.shape l.w l.vs))
