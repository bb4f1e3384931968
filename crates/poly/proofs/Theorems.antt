-- The claims of specs/Claims.antt, from the laws of polynomials over any field.
use mathlib.Core.Path.{◌≡◌, refl, sym, ◌∙◌, ap, ap₂}
use mathlib.Core.Bool.{Bool, true, false}
use mathlib.Core.List.{List, [], ◌∷◌, map}
use Prim.Native.Nat.{ℕ, zero, suc, ◌+◌, ◌-◌, ◌≤◌, ◌<◌}
use native.Mathlib.Decide.{dec_le}
use native.Mathlib.Omega.{arith}
use borrow.Author.Tests.{eqb-true}
use lib.Dec.{eqb, lit<}
use lib.ListN.{length, length-map}
use Rattle.field.specs.Modulus.{p}
use Rattle.field.specs.Element.{element}
use Rattle.field.proofs.Elements.{elements, 𝓡, element_zero, element_injective}
use Rattle.poly.specs.Polynomial.{value}
use Rattle.poly.specs.Interpolation.{interpolated}
use Rattle.poly.specs.Counting.{All, Distinct, Elements, count_from, agreements}
use Rattle.poly.specs.Claims.{FewRoots, CoefficientsDetermined, InterpolationExact, FalsePolynomialsPass}
use Rattle.poly.proofs.Bounds.{value_below, interpolated_below}
use Rattle.poly.proofs.Lists.{all_map}
use Rattle.poly.proofs.Coefficients.{ev}
use Rattle.poly.proofs.Roots.{roots_few, equal_of_agreement}
use Rattle.poly.proofs.Lagrange.{terms_at, interpolation_exact}
use Rattle.poly.proofs.Numbers.{to_elements, element_value_lem, element_interpolated, distinct_elements, to_elements_injective}

pub few_roots : FewRoots
few_roots xs b d f bf z n =
    let h = roots_few elements (to_elements xs) (distinct_elements xs b d) (to_elements f) (roots xs z) (λ a. n (zeros f bf a)) in
    omega (arith, length-map f element, length-map xs element)
  where
    roots : (l : List ℕ) → All (λ x. value f x ≡ 0) l → All (λ r. ev 𝓡 (to_elements f) r ≡ 𝓡.zero) (to_elements l)
    roots [] a = tt
    roots (x ∷ l) a = (sym (element_value_lem f x) ∙ ap element a.0 ∙ element_zero, roots l a.1)

    zeros : (l : List ℕ) → Elements l → All (λ c. c ≡ 𝓡.zero) (to_elements l) → All (λ c. c ≡ 0) l
    zeros [] c a = tt
    zeros (x ∷ l) c a = (element_injective x 0 c.0 (lit< tt) (a.0 ∙ sym element_zero), zeros l c.1 a.1)

pub coefficients_determined : CoefficientsDetermined
coefficients_determined xs b d f g bf bg e l h =
    to_elements_injective f g bf bg
    (equal_of_agreement elements (to_elements xs) (distinct_elements xs b d) (to_elements f) (to_elements g)
    (length-map f element ∙ e ∙ sym (length-map g element))
    (omega (arith, length-map f element, length-map xs element)) (agreed xs h))
  where
    agreed : (l : List ℕ) → All (λ x. value f x ≡ value g x) l → All (λ r. ev 𝓡 (to_elements f) r ≡ ev 𝓡 (to_elements g) r) (to_elements l)
    agreed [] a = tt
    agreed (x ∷ l) a = (sym (element_value_lem f x) ∙ ap element a.0 ∙ element_value_lem g x, agreed l a.1)

pub interpolation_is_exact : InterpolationExact
interpolation_is_exact xs b d f l z =
    element_injective (interpolated xs (map (value f) xs) z) (value f z) (interpolated_below xs (map (value f) xs) z) (value_below f z)
    (element_interpolated xs (map (value f) xs) z
    ∙ ap (terms_at elements (element z) [] (to_elements xs)) (values xs)
    ∙ interpolation_exact elements (to_elements xs) (distinct_elements xs b d) (to_elements f)
    (omega (arith, length-map f element, length-map xs element)) (element z)
    ∙ sym (element_value_lem f z))
  where
    values : (l : List ℕ) → to_elements (map (value f) l) ≡ map (ev 𝓡 (to_elements f)) (to_elements l)
    values [] = refl
    values (x ∷ l) = ap₂ ◌∷◌ (element_value_lem f x) (values l)

-- the numbers that a count counts
passing : (ℕ → Bool) → ℕ → ℕ → List ℕ
passing test from zero = []
passing test from (suc k) = elim (test from) [ true ↦ from ∷ passing test (suc from) k | false ↦ passing test (suc from) k ]

module _ (test : ℕ → Bool) where
  length_passing : (from k : ℕ) → length (passing test from k) ≡ count_from test from k
  unfolding passing count_from
  length_passing from zero = refl
  length_passing from (suc k) = go (test from) (length_passing (suc from) k)
    where
      go : (b : Bool) → length (passing test (suc from) k) ≡ count_from test (suc from) k
          → length {A = ℕ} (elim b as (λ z. List ℕ) [ true ↦ from ∷ passing test (suc from) k | false ↦ passing test (suc from) k ])
          ≡ elim b as (λ z. ℕ) [ true ↦ suc (count_from test (suc from) k) | false ↦ count_from test (suc from) k ]
      go true e = ap suc e
      go false e = e

  record Passed (from k x : ℕ) : Type 0 where
    passes : test x ≡ true
    from_on : from ≤ x
    before : x < from + k

  all_passed : (from k : ℕ) → All (Passed from k) (passing test from k)
  unfolding passing
  all_passed from zero = tt
  all_passed from (suc k) =
      go (test from) refl
      (all_map (λ x h. record { passes = h.passes; from_on = omega (arith, h.from_on); before = omega (arith, h.before) })
      (passing test (suc from) k) (all_passed (suc from) k))
    where
      go : (b : Bool) → test from ≡ b → All (Passed from (suc k)) (passing test (suc from) k)
          → All (Passed from (suc k)) (elim b as (λ z. List ℕ) [ true ↦ from ∷ passing test (suc from) k | false ↦ passing test (suc from) k ])
      go true e a = (record { passes = e; from_on = omega arith; before = omega arith }, a)
      go false e a = a

  distinct_passing : (from k : ℕ) → Distinct (passing test from k)
  unfolding passing
  distinct_passing from zero = tt
  distinct_passing from (suc k) = go (test from) (distinct_passing (suc from) k)
    where
      go : (b : Bool) → Distinct (passing test (suc from) k)
          → Distinct {R = ℕ} (elim b as (λ z. List ℕ) [ true ↦ from ∷ passing test (suc from) k | false ↦ passing test (suc from) k ])
      go true d = (all_map (λ x h e. omega (arith, h.from_on)) (passing test (suc from) k) (all_passed (suc from) k), d)
      go false d = d

pub false_polynomials_pass : FalsePolynomialsPass
unfolding agreements
false_polynomials_pass t f g bf bg lf lg ne = go (dec_le (agreements f g) t)
  where
    test : ℕ → Bool
    test w = eqb (value f w) (value g w)

    points : List ℕ
    points = passing test 1 (p - 1)

    found : All (Passed test 1 (p - 1)) points
    found = all_passed test 1 (p - 1)

    equal : t < count_from test 1 (p - 1) → f ≡ g
    equal h =
        coefficients_determined points (all_map (λ x a. omega (arith, a.before)) points found) (distinct_passing test 1 (p - 1))
        f g bf bg (lf ∙ sym lg) (omega (arith, length_passing test 1 (p - 1)))
        (all_map (λ x a. eqb-true (value f x) (value g x) a.passes) points found)

    go : Dec (count_from test 1 (p - 1) ≤ t) → count_from test 1 (p - 1) ≤ t
    go (yes h) = h
    go (no h) = absurd (ne (equal (omega arith)))
