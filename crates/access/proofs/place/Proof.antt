-- `place` meets its contract.
use Prim.Native.Nat.{◌-◌, ◌≤◌}
use mathlib.Core.Path.{◌≡◌}
use lib.ListN.{length}
use Rattle.access.specs.Access.{placed}
use borrow.Author.Rules.{rules}
use Rattle.access.proofs.Walking.{placed_start, placed_more, placed_end}
use Rattle.access.proofs.place.Statement.{statement}
use Rattle.access.proofs.place.Tie as tie

abbrev invariant-loop-k : tie.invariant-loop-k
invariant-loop-k sets₀ row words k₀ sets k = (k ≤ 8) × (length sets ≡ length sets₀) × (sets ≡ placed k sets₀ row words)

abbrev decreases-loop-k : tie.decreases-loop-k
decreases-loop-k sets₀ row words k₀ sets k = 8 - k

ruleset steps = (rules, placed_start, placed_more, placed_end)

pub place_spec : {M : Type 1} → statement M
place_spec =
    tie.close
    (tie.spec invariant-loop-k decreases-loop-k (λ c. search steps) (λ c. search steps) (λ c. search steps) (λ c. search steps) (λ c. search steps) (λ c. search steps) (λ c. search steps) (λ c. search steps) (λ c. search steps) (λ c. search steps) (λ c. search steps) (λ c. search steps))
