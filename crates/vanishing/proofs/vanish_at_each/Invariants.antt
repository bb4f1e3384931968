-- The factors of the numbers left, each once, times the list, make the whole product.
use Rattle.std.proofs.Common.{◌≡◌, ◌+◌, length, drop}
use Rattle.vanishing.specs.Vanishing.{distinct}
use Rattle.vanishing.specs.Between.{Ends, Low, times_factors}
use Rattle.vanishing.proofs.vanish_at_each.Given as goal

abbrev pub invariant-loop-i : goal.invariant-loop-i
invariant-loop-i l =
    (length l.list ≡ length l.initial.list) × Ends (l.i + 1) l.list × Low l.list
    × (times_factors (distinct (drop l.i l.numbers)) l.list ≡ times_factors (distinct l.numbers) l.initial.list)
