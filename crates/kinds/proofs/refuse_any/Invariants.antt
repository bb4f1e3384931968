-- The answer for the rows from this one on is the answer for all.
use Rattle.std.proofs.Common.{◌≡◌, ℕ, Bool, List, drop}
use Rattle.kinds.specs.Kinds.{Tells, any_row}
use Rattle.kinds.proofs.refuse_any.Given as goal

abbrev pub invariant-loop-row : goal.invariant-loop-row
invariant-loop-row g l =
    (spec : ℕ → ℕ → List ℕ → Bool) → Tells (goal.F-post g l.test) spec → any_row spec l.row (drop l.row l.kinds) ≡ any_row spec 0 l.kinds
