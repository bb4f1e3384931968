-- The powers from y on complete the list's first i numbers.
use Rattle.std.proofs.Common.{◌≡◌, ◌≤◌, ◌-◌, ◌++◌, length, take}
use Rattle.field.specs.Arithmetic.{product}
use Rattle.poly.specs.Polynomial.{powers_from}
use Rattle.poly.proofs.powers.Given as goal

abbrev pub invariant-loop-i : goal.invariant-loop-i
invariant-loop-i l =
    (l.i ≤ length l.fn.list) × (length l.list ≡ length l.fn.list) × (l.z ≡ product l.y l.x)
    × (take l.i l.list ++ powers_from l.y l.x (length l.fn.list - l.i) ≡ powers_from 1 l.x (length l.fn.list))

abbrev pub decreases-loop-i : goal.decreases-loop-i
decreases-loop-i l = length l.fn.list - l.i
