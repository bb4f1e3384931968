-- Numbers of a list, and how many points pass a test: what the theorems speak of.
use Rattle.std.specs.Prelude.{ℕ, zero, suc, ◌-◌, ◌<◌, ◌≢◌, Bool, true, false, List, [], ◌∷◌, eqb}
use Rattle.field.specs.Modulus.{p}
use Rattle.poly.specs.Polynomial.{value}

abbrev pub All : {R : Type 0} → (R → Type 0) → List R → Type 0
All P [] = Unit {0}
All P (r ∷ rs) = P r × All P rs

-- no two of the list are equal
abbrev pub Distinct : {R : Type 0} → List R → Type 0
Distinct [] = Unit {0}
Distinct (r ∷ rs) = All (λ s. s ≢ r) rs × Distinct rs

-- every number is an element
abbrev pub Elements : List ℕ → Type 0
Elements xs = All (λ x. x < p) xs

-- how many of the k numbers from `from` on pass a test
unfoldable pub count_from : (ℕ → Bool) → ℕ → ℕ → ℕ
count_from test from zero = 0
count_from test from (suc k) = elim (test from) [ true ↦ suc (count_from test (suc from) k) | false ↦ count_from test (suc from) k ]

-- At how many of the p - 1 check points, 1 to p - 1, two polynomials have one value.
unfoldable pub agreements : List ℕ → List ℕ → ℕ
agreements f g = count_from (λ w. eqb (value f w) (value g w)) 1 (p - 1)
