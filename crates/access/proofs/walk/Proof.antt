-- `walk` meets its contract.
use Prim.Native.Nat.{◌-◌, ◌≤◌}
use mathlib.Core.Path.{◌≡◌}
use Rattle.access.specs.Between.{walked}
use borrow.Author.Rules.{rules}
use Rattle.access.proofs.Walking.{walked_start, walked_more, walked_end}
use Rattle.access.proofs.walk.Statement.{statement}
use Rattle.access.proofs.walk.Tie as tie

abbrev invariant-loop-i : tie.invariant-loop-i
invariant-loop-i line n at count posts₀ i₀ posts i = (i ≤ count) × (walked (count - i) n line posts ≡ walked count n line posts₀)

abbrev decreases-loop-i : tie.decreases-loop-i
decreases-loop-i line n at count posts₀ i₀ posts i = count - i

ruleset steps = (rules, walked_start, walked_more, walked_end)

pub walk_spec : {M : Type 1} → statement M
walk_spec =
    tie.close
    (tie.spec invariant-loop-i decreases-loop-i (λ c. search steps) (λ c κs. search steps) (λ c κs. search steps) (λ c. search steps) (λ c. search steps) (λ c. search steps) (λ c. search steps))
