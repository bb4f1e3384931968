-- What is claimed of `vanishing` and `distinct`, not by how they are made; proved in proofs/Theorems.antt.
use Rattle.std.specs.Prelude.{ℕ, ◌≤◌, ◌<◌, ◌≡◌, List, length, get_or}
use Rattle.poly.specs.Polynomial.{value}
use Rattle.poly.specs.Counting.{Distinct}
use Rattle.vanishing.specs.Vanishing.{vanishing, distinct}

-- m coefficients, those behind as many as there are numbers 0: so the degree is at most their number, and where they are distinct no
-- polynomial of a smaller one has these values, and no other of this one.
pub record Vanishes : Type 0 where
  pub long : (m : ℕ) (xs : List ℕ) → length (vanishing m xs) ≡ m
  pub ends : (m : ℕ) (xs : List ℕ) (i : ℕ) → length xs < i → get_or (vanishing m xs) i 0 ≡ 0
  -- each is an element
  pub elements : (m : ℕ) (xs : List ℕ) (i : ℕ) → get_or (vanishing m xs) i 0 ≤ 2147483646
  -- 1 at 0, and 0 at each of fewer than m numbers from 1 to p - 1
  pub at_zero : (m : ℕ) (xs : List ℕ) → length xs < m → value (vanishing m xs) 0 ≡ 1
  pub at_each : (m : ℕ) (xs : List ℕ) → length xs < m
      → ((i : ℕ) → i < length xs → (1 ≤ get_or xs i 0) × (get_or xs i 0 ≤ 2147483646)) → (i : ℕ) → i < length xs
      → value (vanishing m xs) (get_or xs i 0) ≡ 0

-- Each number of the list once: no two are equal, each is one of the list, and each of the list is among them.
pub record EachOnce : Type 0 where
  pub once : (xs : List ℕ) → Distinct (distinct xs)
  pub one_of : (xs : List ℕ) (i : ℕ) → i < length (distinct xs) → (j : ℕ) × (j < length xs) × (get_or xs j 0 ≡ get_or (distinct xs) i 0)
  pub among : (xs : List ℕ) (i : ℕ) → i < length xs → (j : ℕ) × (j < length (distinct xs)) × (get_or (distinct xs) j 0 ≡ get_or xs i 0)
