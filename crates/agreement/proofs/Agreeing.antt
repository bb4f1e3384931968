-- The claims about agreement: further values that lie on the polynomial through the first ones.
use Prim.Native.Nat.{ℕ}
use mathlib.Core.Path.{◌≡◌, refl, sym, ◌∙◌, ap}
use mathlib.Core.Logic.{◌⊎◌, inl, inr}
use mathlib.Core.Bool.{Bool, true, false}
use mathlib.Core.List.{List, [], ◌∷◌, ◌++◌, map}
use native.Mathlib.Nat.{suc_inj}
use native.Mathlib.Omega.{arith}
use borrow.Author.Tests.{eqb-true, eq-eqb}
use lib.ListN.{length, length-map}
use Rattle.field.specs.Element.{Element, element}
use Rattle.field.proofs.Elements.{𝓡, elements, element_injective}
use Rattle.poly.specs.Polynomial.{value}
use Rattle.poly.specs.Interpolation.{interpolated}
use Rattle.agreement.specs.Agreement.{agrees, all_pairs, all_agree, Given}
use Rattle.agreement.specs.Claims.{AgreementExact, TrueValuesAgree}
use Rattle.poly.proofs.Bounds.{value_below, interpolated_below}
use Rattle.poly.proofs.Lists.{all_map, all_under}
use Rattle.poly.proofs.Coefficients.{ev}
use Rattle.poly.proofs.Roots.{agree}
use Rattle.poly.proofs.Lagrange.{Passes, through, through_passes}
use Rattle.poly.proofs.Numbers.{to_elements, element_value_lem, element_interpolated, distinct_elements}
use Rattle.poly.proofs.Theorems.{interpolation_is_exact}

none : {T : Type 0} → false ≡ true → T
none q = let z : ◌≡◌ {A = ℕ} 0 1 = cc in absurd (omega arith)

-- the first of a list that agrees, and the rest
pub both_agree : (a b : Bool) → elim a as (λ z. Bool) [ true ↦ b | false ↦ false ] ≡ true → (a ≡ true) × (b ≡ true)
both_agree true b e = (refl, e)
both_agree false b e = none e

-- a polynomial that the given values lie on
module _ (f : List Element) where
  given_first : (x y : ℕ) (xs ys : List ℕ) → map (ev 𝓡 f) (to_elements xs) ≡ to_elements ys → Given x y xs ys → ev 𝓡 f (element x) ≡ element y
  given_first x y [] ys e g = absurd g
  given_first x y (n ∷ ns) [] e g = absurd g
  given_first x y (n ∷ ns) (v ∷ vs) e (inl q) =
      let h : ev 𝓡 f (element n) ≡ element v = cc in ap (λ (k : ℕ). ev 𝓡 f (element k)) (sym q.0) ∙ h ∙ ap element q.1
  given_first x y (n ∷ ns) (v ∷ vs) e (inr g) =
      let t : map (ev 𝓡 f) (to_elements ns) ≡ to_elements vs = cc in given_first x y ns vs t g

  module _ (xs ys : List ℕ) (is : (z : ℕ) → element (interpolated xs ys z) ≡ ev 𝓡 f (element z)) where
    given_further : (x y : ℕ) (zs ws : List ℕ) → all_agree xs ys zs ws ≡ true → Given x y zs ws → ev 𝓡 f (element x) ≡ element y
    unfolding all_pairs
    given_further x y [] ws a g = absurd g
    given_further x y (z ∷ zs) [] a g = absurd g
    given_further x y (z ∷ zs) (w ∷ ws) a (inl q) =
        let h = (both_agree (agrees xs ys z w) (all_agree xs ys zs ws) a).0 in
        ap (λ (k : ℕ). ev 𝓡 f (element k)) (sym q.0) ∙ sym (is z) ∙ ap element (sym (eqb-true w (interpolated xs ys z) h) ∙ q.1)
    given_further x y (z ∷ zs) (w ∷ ws) a (inr g) =
        given_further x y zs ws (both_agree (agrees xs ys z w) (all_agree xs ys zs ws) a).1 g

-- a value among the first or among the further ones
given_split : (x y : ℕ) (xs ys zs ws : List ℕ) → length xs ≡ length ys → Given x y (xs ++ zs) (ys ++ ws) → Given x y xs ys ⊎ Given x y zs ws
given_split x y [] [] zs ws l g = inr g
given_split x y [] (v ∷ vs) zs ws l g = absurd (omega arith)
given_split x y (n ∷ ns) [] zs ws l g = absurd (omega arith)
given_split x y (n ∷ ns) (v ∷ vs) zs ws l (inl q) = inl (inl q)
given_split x y (n ∷ ns) (v ∷ vs) zs ws l (inr g) =
    elim (given_split x y ns vs zs ws (suc_inj l) g) [ inl h ↦ inl (inr h) | inr h ↦ inr h ]

pub agreement_exact : AgreementExact
agreement_exact xs ys zs ws b d l l' a g good few enough bg dg given z =
    element_injective (interpolated xs ys z) (value g z) (interpolated_below xs ys z) (value_below g z)
    (is z
    ∙ agree elements (to_elements good) (distinct_elements good bg dg) f (to_elements g)
    (omega (arith, passes.few, length-map xs element, length-map good element))
    (omega (arith, length-map g element, length-map good element))
    (all_under (λ r. ev 𝓡 f r ≡ ev 𝓡 (to_elements g) r) element good (all_map same good given)) (element z)
    ∙ sym (element_value_lem g z))
  where
    f : List Element
    f = through elements (to_elements xs) (to_elements ys)

    passes : Passes elements (to_elements xs) (to_elements ys) f
    passes =
        through_passes elements (to_elements xs) (to_elements ys) (length-map xs element ∙ l ∙ sym (length-map ys element)) (distinct_elements xs b d)

    is : (z : ℕ) → element (interpolated xs ys z) ≡ ev 𝓡 f (element z)
    is z = element_interpolated xs ys z ∙ passes.is (element z)

    same : (x : ℕ) → Given x (value g x) (xs ++ zs) (ys ++ ws) → ev 𝓡 f (element x) ≡ ev 𝓡 (to_elements g) (element x)
    same x q =
        elim (given_split x (value g x) xs ys zs ws l q) [
          | inl h ↦ given_first f x (value g x) xs ys passes.meets h ∙ element_value_lem g x
          | inr h ↦ given_further f xs ys is x (value g x) zs ws a h ∙ element_value_lem g x
        ]

pub true_values_agree : TrueValuesAgree
unfolding all_pairs
true_values_agree xs zs b d g few = go zs
  where
    go : (l : List ℕ) → all_agree xs (map (value g) xs) l (map (value g) l) ≡ true
    go [] = refl
    go (z ∷ l) =
        ap (λ (t : Bool). elim t as (λ u. Bool) [ true ↦ all_agree xs (map (value g) xs) l (map (value g) l) | false ↦ false ])
        (eq-eqb (value g z) (interpolated xs (map (value g) xs) z) (sym (interpolation_is_exact xs b d g few z)))
        ∙ go l
