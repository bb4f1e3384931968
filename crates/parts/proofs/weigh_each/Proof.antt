-- What is written, and the sums of products from post i on, make them all.
use Prim.Native.Nat.{◌≤◌, ◌-◌}
use mathlib.Core.Path.{sym}
use borrow.Author.Rules.{rules}
use Rattle.parts.proofs.Row.{Weighing, weighing_start, weighing_in, weighing_fits, weighing_place, weighing_at, weighing_bytes, weighing_room, weighing_lent, weighing_powers, weighing_elements, weighing_turn, weighing_end}
use Rattle.parts.proofs.weigh_each.Statement.{statement}
use Rattle.parts.proofs.weigh_each.Tie as tie

abbrev invariant-loop-i : tie.invariant-loop-i
invariant-loop-i shape h vs out₀ n points k i₀ out i = (i ≤ shape.n) × Weighing shape h vs out₀ out i

abbrev decreases-loop-i : tie.decreases-loop-i
decreases-loop-i shape h vs out₀ n points k i₀ out i = shape.n - i

ruleset turns = (rules, weighing_start, weighing_in, weighing_room, weighing_powers, weighing_elements, weighing_turn, weighing_end)

lent : tie.Need-slice_bounds-weigh_elements-end-in-loop-i invariant-loop-i decreases-loop-i
lent c = sym (search (rules, weighing_lent))

pub weigh_each_spec : {M : Type 1} → statement M
weigh_each_spec =
    tie.close
    (tie.spec invariant-loop-i decreases-loop-i (λ c κs. search rules) (λ c. search (rules, weighing_start)) (λ c κs. search rules) (λ c. search (rules, weighing_in)) lent
    (λ c κs. search (rules, weighing_powers, weighing_elements)) (λ c. search (rules, weighing_fits)) (λ c. search (rules, weighing_place))
    (λ c. search (rules, weighing_at)) (λ c. search (rules, weighing_bytes)) (λ c. search (rules, weighing_room)) (λ c. search rules) (λ c. search rules)
    (λ c. search (rules, weighing_turn)) (λ c. search rules) (λ c. search (rules, weighing_end)))
