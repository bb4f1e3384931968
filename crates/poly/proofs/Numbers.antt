-- From numbers to elements: the value and the interpolation of numbers are those of the elements that they stand for.
use mathlib.Core.Path.{◌≡◌, refl, sym, ◌∙◌, ap, ap₂}
use mathlib.Core.Logic.{◌≢◌}
use mathlib.Core.List.{List, [], ◌∷◌, ◌++◌, map, map-append}
use Prim.Native.Nat.{ℕ, suc, ◌≤◌}
use native.Mathlib.Nat.{le_of_suc-le-suc, not-suc-le-zero}
use lib.ListN.{length}
use Rattle.field.specs.Arithmetic.{difference, product, inverse}
use Rattle.field.specs.Element.{Element, element}
use Rattle.field.proofs.Expression.{A, B, C, D, 𝟘, ◌:+◌, ◌:*◌, Same}
use Rattle.field.proofs.Solver.{solve}
use Rattle.field.proofs.Elements.{elements, 𝓡, element_zero, element_one, element_sum, element_product, element_difference, element_inverse, element_injective}
use Rattle.poly.specs.Polynomial.{value, element_value, powers_from, powers, weighted}
use Rattle.poly.specs.Interpolation.{nodal, weight, terms, interpolated}
use Rattle.poly.specs.Counting.{All, Distinct, Elements}
use Rattle.poly.specs.Claims.{ElementsValue, WeightedPowers}
use Rattle.poly.proofs.Bounds.{value_below, weighted_below}
use Rattle.poly.proofs.Coefficients.{ev, nodal_at}
use Rattle.poly.proofs.Lagrange.{terms_at}
open 𝓡 use {add as ◌⊕◌, mul as ◌⊗◌, mul_one}

infixl 65 ◌⊕◌
infixl 70 ◌⊗◌
abbrev pub to_elements : List ℕ → List Element
to_elements = map element

pub element_value_lem : (cs : List ℕ) (x : ℕ) → element (value cs x) ≡ ev 𝓡 (to_elements cs) (element x)
unfolding value ev
element_value_lem [] x = element_zero
element_value_lem (c ∷ cs) x =
    element_sum c (product x (value cs x))
    ∙ ap (λ (z : Element). element c ⊕ z)
    (element_product x (value cs x) ∙ ap (λ (z : Element). element x ⊗ z) (element_value_lem cs x))

-- the value over any ring, at the elements' ring
pub value_elements : (cs : List Element) (x : Element) → ev 𝓡 cs x ≡ element_value cs x
unfolding ev
value_elements [] x = refl
value_elements (c ∷ cs) x = ap (λ (z : Element). c ⊕ x ⊗ z) (value_elements cs x)

pub elements_value : ElementsValue
elements_value cs x = element_value_lem cs x ∙ value_elements (to_elements cs) (element x)

-- the sum of products with the powers of x is the value at x
element_weighted : (cs : List ℕ) (y x k : ℕ) → length cs ≤ k
    → element (weighted cs (powers_from y x k)) ≡ element y ⊗ ev 𝓡 (to_elements cs) (element x)
unfolding weighted powers_from ev Same
element_weighted [] y x k h = element_zero ∙ solve 𝓡 (element y ∷ []) 𝟘 (A :* 𝟘) refl
element_weighted (c ∷ cs) y x ℕ.zero h = absurd (not-suc-le-zero h)
element_weighted (c ∷ cs) y x (suc k) h =
    element_sum (product c y) (weighted cs (powers_from (product y x) x k))
    ∙ ap₂ ◌⊕◌ (element_product c y)
    (element_weighted cs (product y x) x k (le_of_suc-le-suc h) ∙ ap (λ (z : Element). z ⊗ rest) (element_product y x))
    ∙ solve 𝓡 (element c ∷ element y ∷ element x ∷ rest ∷ []) (A :* B :+ B :* C :* D) (B :* (A :+ C :* D)) refl
  where
    rest : Element
    rest = ev 𝓡 (to_elements cs) (element x)

pub weighted_powers : WeightedPowers
unfolding Same
weighted_powers cs x k h =
    element_injective (weighted cs (powers x k)) (value cs x) (weighted_below cs (powers x k)) (value_below cs x)
    (element_weighted cs 1 x k h ∙ ap (λ (z : Element). z ⊗ v) element_one ∙ 𝓡.mul_comm 𝓡.one v ∙ mul_one v
    ∙ sym (element_value_lem cs x))
  where
    v : Element
    v = ev 𝓡 (to_elements cs) (element x)

pub element_nodal : (xs : List ℕ) (z : ℕ) → element (nodal xs z) ≡ nodal_at 𝓡 (element z) (to_elements xs)
unfolding nodal nodal_at
element_nodal [] z = element_one
element_nodal (x ∷ xs) z =
    element_product (difference z x) (nodal xs z) ∙ ap₂ ◌⊗◌ (element_difference z x) (element_nodal xs z)

element_terms : (z : ℕ) (passed xs ys : List ℕ)
    → element (terms z passed xs ys) ≡ terms_at elements (element z) (to_elements passed) (to_elements xs) (to_elements ys)
unfolding terms terms_at weight
element_terms z passed [] ys = element_zero
element_terms z passed (x ∷ xs) [] = element_zero
element_terms z passed (x ∷ xs) (y ∷ ys) =
    element_sum (product y (weight rest x z)) (terms z (passed ++ (x ∷ [])) xs ys)
    ∙ ap₂ ◌⊕◌
    (element_product y (weight rest x z)
    ∙ ap (λ (u : Element). element y ⊗ u)
    (element_product (nodal rest z) (inverse (nodal rest x))
    ∙ ap₂ ◌⊗◌ (at z) (element_inverse (nodal rest x) ∙ ap elements.inv (at x))))
    (element_terms z (passed ++ (x ∷ [])) xs ys
    ∙ ap (λ (l : List Element). terms_at elements (element z) l (to_elements xs) (to_elements ys)) (map-append element passed (x ∷ [])))
  where
    rest : List ℕ
    rest = passed ++ xs

    at : (w : ℕ) → element (nodal rest w) ≡ nodal_at 𝓡 (element w) (to_elements passed ++ to_elements xs)
    at w = element_nodal rest w ∙ ap (nodal_at 𝓡 (element w)) (map-append element passed xs)

pub element_interpolated : (xs ys : List ℕ) (z : ℕ)
    → element (interpolated xs ys z) ≡ terms_at elements (element z) [] (to_elements xs) (to_elements ys)
unfolding interpolated
element_interpolated xs ys z = element_terms z [] xs ys

-- distinct numbers below p are distinct elements
pub distinct_elements : (xs : List ℕ) → Elements xs → Distinct xs → Distinct (to_elements xs)
distinct_elements [] b d = tt
distinct_elements (x ∷ xs) b d = (apart xs b.1 d.0, distinct_elements xs b.1 d.1)
  where
    apart : (l : List ℕ) → Elements l → All (λ s. s ≢ x) l → All (λ s. s ≢ element x) (to_elements l)
    apart [] b' a = tt
    apart (s ∷ l) b' a = ((λ e. a.0 (element_injective s x b'.0 b.0 e)), apart l b'.1 a.1)

pub to_elements_injective : (f g : List ℕ) → Elements f → Elements g → to_elements f ≡ to_elements g → f ≡ g
to_elements_injective [] [] b c e = refl
to_elements_injective [] (d ∷ ds) b c e = let q : ◌≡◌ {A = List Element} [] (element d ∷ to_elements ds) = e in cc
to_elements_injective (a ∷ as') [] b c e = let q : ◌≡◌ {A = List Element} (element a ∷ to_elements as') [] = e in cc
to_elements_injective (a ∷ as') (d ∷ ds) b c e =
    let h : element a ≡ element d = cc in
    let t : to_elements as' ≡ to_elements ds = cc in
    ap₂ ◌∷◌ (element_injective a d b.0 c.0 h) (to_elements_injective as' ds b.1 c.1 t)
