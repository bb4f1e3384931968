-- Demand 1, for every call on a session: it either does its one job and ends, or returns the first refusal in document 01's
-- order, with 0 for a value, the session as it came and every lent list untouched. Each call is an instance, in its crate's
-- specs/Claims.antt.
use Rattle.std.specs.Prelude.{ℕ, ◌≡◌, List}
use Rattle.refusal.specs.Refusal.{Test, first, Decides}
use Rattle.session.specs.declared.Session.{Session}
use Rattle.session.specs.declared.Answer.{Answer}

-- A call with these tests, which came with the session `old` and the list `before`, gave `given` and left `after`.
pub record Lawful (tests : List Test) (value : ℕ) (new old : Session) (written before : List ℕ) (given : Answer) (after : List ℕ) : Type 0 where
  pub refusal : Decides tests
  -- refused: the number, 0 for a value, session and list as they came
  pub untouched : (first tests ≡ 0 → ⊥) → (given ≡ record { refusal = first tests; value = 0; session = old }) × (after ≡ before)
  pub done : first tests ≡ 0 → (given ≡ record { refusal = 0; value = value; session = new }) × (after ≡ written)
