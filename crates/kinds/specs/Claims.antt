-- What the search among all rows says, which document 02's table (crate packfile) cites by name. Proved in proofs/Searched.antt.
use Rattle.std.specs.Prelude.{ℕ, suc, ◌+◌, ◌<◌, ◌≡◌, Bool, true, List, length, drop, get_or}
use Rattle.kinds.specs.Kinds.{any_row}

-- A row of the list, told by its place i, passes the test: with its number, which is row + i, its kind, and the kinds behind it.
pub record Passes (test : ℕ → ℕ → List ℕ → Bool) (row : ℕ) (kinds : List ℕ) : Type 0 where
  pub place : ℕ
  pub within : place < length kinds
  pub passed : test (row + place) (get_or kinds place 0) (drop (suc place) kinds) ≡ true

-- The test holds for some row exactly where one passes it.
abbrev pub AnyRowMeans : Type 0
AnyRowMeans =
    (test : ℕ → ℕ → List ℕ → Bool) (row : ℕ) (kinds : List ℕ)
    → (any_row test row kinds ≡ true → Passes test row kinds) × (Passes test row kinds → any_row test row kinds ≡ true)
