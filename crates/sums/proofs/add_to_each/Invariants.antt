-- c is added to the numbers before this one.
use Rattle.std.proofs.Common.{map}
use Rattle.field.specs.Arithmetic.{sum}
use Rattle.lists.proofs.Filled.{Filled}
use Rattle.sums.proofs.add_to_each.Given as goal

abbrev pub invariant-loop-place : goal.invariant-loop-place
invariant-loop-place l = Filled (map (λ m. sum m l.c) l.fn.sums) l.fn.sums l.place-index l.sums
