-- Document 02, (v): "It refuses with 14, after 5". The order of checks is that of the numbers but for 14, which stands right behind 5;
-- here is document 01's law of every call (session's Law) with that order.
use Rattle.std.specs.Prelude.{ℕ, ◌*◌, ◌≤◌, ◌<◌, ◌≡◌, cond, List, [], ◌∷◌, eqb}
use Rattle.refusal.specs.Refusal.{Test, ◌when◌, first, Applies, AllFail}
use Rattle.session.specs.declared.Session.{Session}
use Rattle.session.specs.declared.Answer.{Answer}

-- where a number stands: 5 at 10, 14 at 11, 6 at 12
abbrev pub rank : ℕ → ℕ
rank k = cond (eqb k 14) 11 (2 * k)

-- "the first refusal in order": 0 exactly when every test fails; otherwise the number that stands first of those whose test applies.
pub record Settles (ts : List Test) : Type 0 where
  pub accepts : first ts ≡ 0 → AllFail ts
  pub only : AllFail ts → first ts ≡ 0
  pub applies : (first ts ≡ 0 → ⊥) → Applies (first ts) ts
  pub least : (j : ℕ) → Applies j ts → (0 < first ts) × (rank (first ts) ≤ rank j)

-- The numbers stand in that order, from the place k on.
abbrev pub Ranked : ℕ → List Test → Type 0
Ranked k [] = Unit {0}
Ranked k (j when b ∷ ts) = (k ≤ rank j) × (0 < j) × Ranked (rank j) ts

-- A call with these tests, which came with the session `old` and the list `before`, gave `given` and left `after`.
pub record LawfulAfterFive (tests : List Test) (new old : Session) (written before : List ℕ) (given : Answer) (after : List ℕ) : Type 0 where
  pub refusal : Settles tests
  pub untouched : (first tests ≡ 0 → ⊥) → (given ≡ record { refusal = first tests; value = 0; session = old }) × (after ≡ before)
  pub done : first tests ≡ 0 → (given ≡ record { refusal = 0; value = 0; session = new }) × (after ≡ written)
