-- What agreement means: all values lie on one polynomial with as many coefficients as there are first nodes.
use Prim.Native.Nat.{ℕ, zero, suc, ◌+◌, ◌%◌, ◌≤◌, ◌<◌}
use mathlib.Core.Path.{◌≡◌, refl, sym, ◌∙◌, ap, ap₂}
use mathlib.Core.Bool.{true}
use mathlib.Core.List.{List, [], ◌∷◌, ◌++◌, map, map-append}
use native.Mathlib.Nat.{mul-zero, suc_inj}
use native.Mathlib.Omega.{arith}
use borrow.Author.Tests.{eqb-true}
use lib.ListN.{length, length-map}
use Rattle.field.specs.Modulus.{p}
use Rattle.field.specs.Arithmetic.{sum, product}
use Rattle.field.specs.Element.{Element, element}
use Rattle.field.proofs.Elements.{𝓡, elements, element_injective, element_of_number}
use Rattle.poly.specs.Polynomial.{value}
use Rattle.poly.specs.Interpolation.{interpolated}
use Rattle.poly.specs.Counting.{Distinct, Elements}
use Rattle.poly.proofs.Bounds.{value_below, interpolated_below}
use Rattle.poly.proofs.Lists.{all_of, all_under}
use Rattle.poly.proofs.Coefficients.{ev}
use Rattle.poly.proofs.Lagrange.{Passes, through, through_passes}
use Rattle.poly.proofs.Numbers.{to_elements, element_value_lem, element_interpolated, distinct_elements, to_elements_injective}
use Rattle.agreement.specs.Agreement.{agrees, all_pairs, all_agree}
use Rattle.agreement.specs.Claims.{OnOne, AgreementMeans}
use Rattle.agreement.proofs.Agreeing.{both_agree, true_values_agree}

-- k coefficients: those of a list, and zeros behind them
padded : ℕ → List ℕ → List ℕ
padded zero cs = []
padded (suc k) [] = 0 ∷ padded k []
padded (suc k) (c ∷ cs) = c ∷ padded k cs

length_padded : (k : ℕ) (cs : List ℕ) → length (padded k cs) ≡ k
unfolding padded
length_padded zero cs = refl
length_padded (suc k) [] = ap suc (length_padded k [])
length_padded (suc k) (c ∷ cs) = ap suc (length_padded k cs)

value_padded : (k : ℕ) (cs : List ℕ) (x : ℕ) → length cs ≤ k → value (padded k cs) x ≡ value cs x
unfolding padded value sum product
value_padded zero [] x h = refl
value_padded zero (c ∷ cs) x h = absurd (omega arith)
value_padded (suc k) [] x h =
    ap (λ (v : ℕ). sum 0 (product x v)) (value_padded k [] x (omega arith)) ∙ ap (λ (v : ℕ). (0 + v % p) % p) (mul-zero x)
value_padded (suc k) (c ∷ cs) x h = ap (λ (v : ℕ). sum c (product x v)) (value_padded k cs x (omega arith))

-- the numbers of elements, and back
numbers_of_of : List Element → List ℕ
numbers_of_of = map (λ e. e.0)

numbers_back : (f : List Element) → to_elements (numbers_of_of f) ≡ f
unfolding numbers_of_of
numbers_back [] = refl
numbers_back (e ∷ f) = ap₂ ◌∷◌ (element_of_number e) (numbers_back f)

length_numbers_of : (f : List Element) → length (numbers_of_of f) ≡ length f
unfolding numbers_of_of
length_numbers_of f = length-map f (λ e. e.0)

-- values at two lists of nodes, the first as long as its values
split_values : (h : ℕ → ℕ) (xs ys zs ws : List ℕ) → length xs ≡ length ys → map h (xs ++ zs) ≡ ys ++ ws → (map h xs ≡ ys) × (map h zs ≡ ws)
split_values h [] [] zs ws l e = (refl, e)
split_values h [] (y ∷ ys) zs ws l e = absurd (omega arith)
split_values h (x ∷ xs) [] zs ws l e = absurd (omega arith)
split_values h (x ∷ xs) (y ∷ ys) zs ws l e =
    let one : h x ≡ y = cc in
    let rest : map h (xs ++ zs) ≡ ys ++ ws = cc in
    let (first, second) = split_values h xs ys zs ws (suc_inj l) rest in (ap₂ ◌∷◌ one first, second)

module _ (xs ys zs ws : List ℕ) (b : Elements xs) (d : Distinct xs) (b' : Elements ys) (l : length xs ≡ length ys) where
  -- the polynomial through the first values
  f : List Element
  f = through elements (to_elements xs) (to_elements ys)

  passes : Passes elements (to_elements xs) (to_elements ys) f
  unfolding f
  passes =
      through_passes elements (to_elements xs) (to_elements ys) (length-map xs element ∙ l ∙ sym (length-map ys element)) (distinct_elements xs b d)

  g : List ℕ
  g = padded (length xs) (numbers_of_of f)

  value_g : (x : ℕ) → element (value g x) ≡ ev 𝓡 f (element x)
  unfolding g
  value_g x =
      ap element (value_padded (length xs) (numbers_of_of f) x (omega (arith, length_numbers_of f, passes.few, length-map xs element)))
      ∙ element_value_lem (numbers_of_of f) x ∙ ap (λ (h : List Element). ev 𝓡 h (element x)) (numbers_back f)

  on_g : (z : ℕ) → interpolated xs ys z ≡ value g z
  on_g z =
      element_injective (interpolated xs ys z) (value g z) (interpolated_below xs ys z) (value_below g z)
      (element_interpolated xs ys z ∙ passes.is (element z) ∙ sym (value_g z))

  as_elements : (ns : List ℕ) → to_elements (map (value g) ns) ≡ map (ev 𝓡 f) (to_elements ns)
  as_elements [] = refl
  as_elements (n ∷ ns) = ap₂ ◌∷◌ (value_g n) (as_elements ns)

  first_values : map (value g) xs ≡ ys
  first_values =
      to_elements_injective (map (value g) xs) ys (all_under (λ v. v < p) (value g) xs (all_of (λ x. value_below g x) xs)) b' (as_elements xs ∙ passes.meets)

  further_values : (ns vs : List ℕ) → length ns ≡ length vs → all_agree xs ys ns vs ≡ true → map (value g) ns ≡ vs
  unfolding all_pairs
  further_values [] [] e a = refl
  further_values [] (v ∷ vs) e a = absurd (omega arith)
  further_values (n ∷ ns) [] e a = absurd (omega arith)
  further_values (n ∷ ns) (v ∷ vs) e a =
      let (here, rest) = both_agree (agrees xs ys n v) (all_agree xs ys ns vs) a in
      ap₂ ◌∷◌ (sym (on_g n) ∙ sym (eqb-true v (interpolated xs ys n) here)) (further_values ns vs (suc_inj e) rest)

  agreed_on_one : length zs ≡ length ws → all_agree xs ys zs ws ≡ true → OnOne xs ys zs ws
  unfolding g
  agreed_on_one l' a =
      (g, length_padded (length xs) (numbers_of_of f), map-append (value g) xs zs ∙ ap₂ ◌++◌ first_values (further_values zs ws l' a))

  one_agreed : OnOne xs ys zs ws → all_agree xs ys zs ws ≡ true
  one_agreed (h, few, e) =
      let (first, second) = split_values (value h) xs ys zs ws l e in
      sym (ap₂ (λ (vs us : List ℕ). all_agree xs vs zs us) first second) ∙ true_values_agree xs zs b d h (omega (arith, few))

pub agreement_means : AgreementMeans
agreement_means xs ys zs ws b d b' l l' = (agreed_on_one xs ys zs ws b d b' l l', one_agreed xs ys zs ws b d b' l)
