-- What stands in the row is the list as it came, with the first i sums in their place.
use Prim.Native.Nat.{◌+◌, ◌-◌, ◌≤◌}
use mathlib.Core.Path.{◌≡◌}
use lib.ListN.{drop}
use lib.Seq.{paste}
use borrow.Author.Rules.{rules}
use Rattle.packs.proofs.Passed.{passing_start, passing_from, passing_to, passing_turn, passing_end, passing_kept}
use Rattle.packs.proofs.pass_sums_on.Statement.{statement}
use Rattle.packs.proofs.pass_sums_on.Tie as tie

abbrev invariant-loop-i : tie.invariant-loop-i
invariant-loop-i at out₀ n first sums i₀ out i = (i ≤ n) × (out ≡ paste out₀ (at + first) (drop first out₀) i)

abbrev decreases-loop-i : tie.decreases-loop-i
decreases-loop-i at out₀ n first sums i₀ out i = n - i

ruleset turns = (rules, passing_start, passing_from, passing_to, passing_turn, passing_end, passing_kept)

pub pass_sums_on_spec : {M : Type 1} → statement M
pass_sums_on_spec =
    tie.close
    (tie.spec invariant-loop-i decreases-loop-i (λ c κs. search rules) (λ c. search turns) (λ c. search turns) (λ c. search turns) (λ c. search turns)
    (λ c. search turns) (λ c. search turns) (λ c. search turns) (λ c. search turns) (λ c. search turns) (λ c. search turns)
    (λ c. search turns) (λ c. search turns) (λ c. search turns))
