-- What is written, and the sums from post i on, make them all.
use Prim.Native.Nat.{◌≤◌, ◌-◌}
use mathlib.Core.Path.{sym}
use mathlib.Core.List.{◌∷◌}
use borrow.Author.Rules.{rules}
use Rattle.parts.proofs.Row.{Summing, summing_start, summing_lent, summing_powers, summing_length, summing_room, summing_turn, summing_end}
use Rattle.parts.proofs.write_sums.Statement.{statement}
use Rattle.parts.proofs.write_sums.Tie as tie

abbrev invariant-loop-i : tie.invariant-loop-i
invariant-loop-i shape constant higher vs out₀ n k sums i₀ out i = (i ≤ shape.n) × Summing shape (constant ∷ higher) vs out i

abbrev decreases-loop-i : tie.decreases-loop-i
decreases-loop-i shape constant higher vs out₀ n k sums i₀ out i = shape.n - i

ruleset turns = (rules, summing_start, summing_lent, summing_powers, summing_length, summing_room, summing_turn, summing_end)

lent : tie.Need-slice_bounds-public_sum-end-in-loop-i invariant-loop-i decreases-loop-i
lent c = sym (search turns)

pub write_sums_spec : {M : Type 1} → statement M
write_sums_spec =
    tie.close
    (tie.spec invariant-loop-i decreases-loop-i (λ c κs. search rules) (λ c κs. search rules) (λ c. search turns) (λ c. search turns) lent
    (λ c κs. search turns) (λ c. search turns) (λ c. search turns) (λ c. search turns) (λ c. search turns) (λ c. search turns)
    (λ c. search turns) (λ c. search turns) (λ c. search turns))
