-- What is claimed of polynomials over the p elements, for any number of coefficients and any nodes; proved in
-- proofs/Theorems.antt and proofs/Numbers.antt. Demand 2 stands on these.
use Rattle.std.specs.Prelude.{ℕ, ◌+◌, ◌≤◌, ◌<◌, ◌≡◌, ◌≢◌, List, map, length}
use Rattle.field.specs.Element.{element}
use Rattle.poly.specs.Polynomial.{value, element_value, powers, weighted}
use Rattle.poly.specs.Interpolation.{interpolated}
use Rattle.poly.specs.Counting.{All, Distinct, Elements, agreements}

-- The value of numbers is the value of the elements that they stand for.
abbrev pub ElementsValue : Type 0
ElementsValue = (cs : List ℕ) (x : ℕ) → element (value cs x) ≡ element_value (map element cs) (element x)

-- The value from the powers of the point, at least as many as there are coefficients.
abbrev pub WeightedPowers : Type 0
WeightedPowers = (cs : List ℕ) (x k : ℕ) → length cs ≤ k → weighted cs (powers x k) ≡ value cs x

-- At most m - 1 distinct roots, unless all m coefficients are 0.
abbrev pub FewRoots : Type 0
FewRoots =
    (xs : List ℕ) → Elements xs → Distinct xs → (f : List ℕ) → Elements f → All (λ x. value f x ≡ 0) xs
    → (All (λ c. c ≡ 0) f → ⊥) → length xs < length f

-- Two lists of m coefficients that agree at m distinct points are equal.
abbrev pub CoefficientsDetermined : Type 0
CoefficientsDetermined =
    (xs : List ℕ) → Elements xs → Distinct xs → (f g : List ℕ) → Elements f → Elements g → length f ≡ length g
    → length f ≤ length xs → All (λ x. value f x ≡ value g x) xs → f ≡ g

-- Interpolation from m distinct nodes is exact for m coefficients, at any point.
abbrev pub InterpolationExact : Type 0
InterpolationExact =
    (xs : List ℕ) → Elements xs → Distinct xs → (f : List ℕ) → length f ≤ length xs → (z : ℕ)
    → interpolated xs (map (value f) xs) z ≡ value f z

-- Demand 2, "false polynomials pass at no more than t of the p − 1 check points".
abbrev pub FalsePolynomialsPass : Type 0
FalsePolynomialsPass =
    (t : ℕ) (f g : List ℕ) → Elements f → Elements g → length f ≡ t + 1 → length g ≡ t + 1 → f ≢ g → agreements f g ≤ t
