-- Document 01, "Where each refusal is checked": numbered tests, and the first that holds.
use Rattle.std.specs.Prelude.{ℕ, zero, suc, ◌≤◌, ◌<◌, ◌≡◌, Bool, true, false, List, [], ◌∷◌}

-- A refusal's number, and whether its condition holds.
pub data Test : Type 0 where
  ◌when◌ : ℕ → Bool → Test

infix 80 ◌when◌
-- "Order of checks is the order of numbers": the number of the first test that holds, 0 where none does.
abbrev pub first : List Test → ℕ
first [] = 0
first (k when true ∷ ts) = k
first (k when false ∷ ts) = first ts

-- The refusal of two groups of tests, one after the other.
abbrev pub or_else : ℕ → ℕ → ℕ
or_else zero b = b
or_else (suc k) b = suc k

-- What a call with this refusal leaves: `new` where it is 0, else `old`, as it came.
unfoldable pub outcome : {A : Type 0} → ℕ → A → A → A
outcome zero new old = new
outcome (suc k) new old = old

-- A test with this number stands in the list, and its condition holds.
pub data Applies (k : ℕ) : List Test → Type 0 where
  here : {ts : List Test} → Applies k (k when true ∷ ts)
  later : {t : Test} {ts : List Test} → Applies k ts → Applies k (t ∷ ts)

-- Every test of the list fails.
abbrev pub AllFail : List Test → Type 0
AllFail [] = Unit {0}
AllFail (k when b ∷ ts) = (b ≡ false) × AllFail ts

-- What "the first refusal in order" says: 0 exactly when every test fails; otherwise the smallest number whose test applies.
pub record Decides (ts : List Test) : Type 0 where
  pub accepts : first ts ≡ 0 → AllFail ts
  pub only : AllFail ts → first ts ≡ 0
  pub applies : (first ts ≡ 0 → ⊥) → Applies (first ts) ts
  pub least : (j : ℕ) → Applies j ts → (0 < first ts) × (first ts ≤ j)

-- The numbers are at least k, at least 1, and in order: as document 01's table has them.
abbrev pub Ordered : ℕ → List Test → Type 0
Ordered k [] = Unit {0}
Ordered k (j when b ∷ ts) = (k ≤ j) × (0 < j) × Ordered j ts

-- No number is 0.
abbrev pub Numbered : List Test → Type 0
Numbered [] = Unit {0}
Numbered (zero when b ∷ ts) = ⊥
Numbered (suc k when b ∷ ts) = Numbered ts

-- Demand 1 in one record: a call with these tests, which is to give `new`, or `old` where it is refused, gave `given`.
pub record Keeps {A : Type 0} (tests : List Test) (new old given : A) : Type 0 where
  pub decided : Decides tests
  pub untouched : (first tests ≡ 0 → ⊥) → given ≡ old
  pub done : first tests ≡ 0 → given ≡ new
