-- The product of z − x over numbers, divided by its constant, is that of 1 − z/x: with each factor both are multiplied by −x.
use Prim.Native.Nat.{ℕ, zero, suc, ◌≤◌, ◌<◌}
use mathlib.Core.Path.{◌≡◌, refl, sym, ◌∙◌, ap, ap₂, subst}
use mathlib.Core.Logic.{◌≢◌}
use mathlib.Core.List.{List, [], ◌∷◌, ◌++◌, map}
use native.Mathlib.Omega.{arith}
use lib.Dec.{lit<, lit≤}
use lib.ListN.{length, get_or, take, drop, replicate}
use Rattle.field.specs.Modulus.{p}
use Rattle.field.specs.Arithmetic.{difference, product, inverse}
use Rattle.field.specs.Element.{Element, element}
use Rattle.field.proofs.Modular.{difference_below, product_below}
use Rattle.field.proofs.Expression.{A, B, C, D, E, 𝟘, 𝟙, ◌:+◌, ◌:*◌, ◌:-◌, :-◌, Same}
use Rattle.field.proofs.Solver.{solve}
use Rattle.field.proofs.Elements.{elements, 𝓡, element_zero, element_one, element_product, element_difference, element_negative, element_inverse, element_injective, one_ne_zero}
use Rattle.poly.specs.Counting.{All, Elements}
use Rattle.vanishing.specs.Vanishing.{less_before, times_root, times_roots, one, vanishing}
use Rattle.vanishing.specs.Between.{Ends, Low, Nonzero, line_at, times_line_of, times_factor_of, times_factors}
use Rattle.vanishing.proofs.Folded.{element_line, line_low, line_nothing}
use Rattle.vanishing.proofs.Vanish.{length_roots, length_one}
open 𝓡 use {add as ◌⊕◌, mul as ◌⊗◌, neg, zero as 0ᴱ, one as 1ᴱ}

infixl 65 ◌⊕◌
infixl 70 ◌⊗◌
-- ---- nothing behind the first m coefficients

zeros_stay : (k b : ℕ) (cs : List ℕ) → b ≡ 0 → All (λ c. c ≡ 0) cs → times_line_of k b cs ≡ cs
unfolding times_line_of
zeros_stay k b [] e a = refl
zeros_stay k b (c ∷ cs) e a = ap₂ ◌∷◌ (line_nothing k c b a.0 e ∙ sym a.0) (zeros_stay k c cs a.0 a.1)

-- a coefficient more than there are is enough
pub line_short : (m k b : ℕ) (cs : List ℕ) → Ends m cs → times_line_of k b (take (suc m) cs) ++ drop (suc m) cs ≡ times_line_of k b cs
unfolding times_line_of
line_short m k b [] h = refl
line_short zero k b (c ∷ cs) h = ap (λ (l : List ℕ). line_at k c b ∷ l) (sym (zeros_stay k c cs h.0 h.1))
line_short (suc m) k b (c ∷ cs) h = ap (λ (l : List ℕ). line_at k c b ∷ l) (line_short m k c cs h)

line_ends : (m k b : ℕ) (cs : List ℕ) → Ends m cs → Ends (suc m) (times_line_of k b cs)
unfolding times_line_of
line_ends m k b [] h = tt
line_ends zero k b (c ∷ cs) h = subst (λ (l : List ℕ). All (λ c. c ≡ 0) l) (sym (zeros_stay k c cs h.0 h.1)) h.1
line_ends (suc m) k b (c ∷ cs) h = line_ends m k c cs h

pub factor_ends : (m x : ℕ) (cs : List ℕ) → Ends (suc m) cs → Ends (suc (suc m)) (times_factor_of x cs)
factor_ends m x cs h = line_ends (suc m) (difference 0 x) 0 cs h

-- ---- at most p

line_low_all : (k b : ℕ) (cs : List ℕ) → k < p → b ≤ p → Low cs → Low (times_line_of k b cs)
unfolding times_line_of
line_low_all k b [] hk hb a = tt
line_low_all k b (c ∷ cs) hk hb a = (line_low k c b hk a.0 hb, line_low_all k c cs hk a.0 a.1)

pub factor_low : (x : ℕ) (cs : List ℕ) → Low cs → Low (times_factor_of x cs)
factor_low x cs a = line_low_all (difference 0 x) 0 cs (difference_below 0 x) (lit≤ tt) a

pub one_low : (m : ℕ) → Low (one m)
unfolding one
one_low zero = tt
one_low (suc m) = (lit≤ tt, zeros m)
  where
    zeros : (m : ℕ) → Low (replicate m 0)
    zeros zero = tt
    zeros (suc m) = (lit≤ tt, zeros m)

-- ---- one list is K times the other

abbrev Scaled : Element → List ℕ → List ℕ → Type 0
Scaled K [] [] = Unit {0}
Scaled K [] (v ∷ vs) = ⊥
Scaled K (c ∷ cs) [] = ⊥
Scaled K (c ∷ cs) (v ∷ vs) = (element c ≡ K ⊗ element v) × Scaled K cs vs

scaled_one : (cs : List ℕ) → Scaled 1ᴱ cs cs
unfolding Same
scaled_one [] = tt
scaled_one (c ∷ cs) = (solve 𝓡 (element c ∷ []) A (𝟙 :* A) refl, scaled_one cs)

module _ (x : ℕ) (nz : element x ≢ 0ᴱ) (K : Element) where
  X : Element
  X = element x

  line_scaled : (c v d w : ℕ) → element c ≡ K ⊗ element v → element d ≡ K ⊗ element w
      → element (line_at (difference 0 x) d c) ≡ neg (element x) ⊗ K ⊗ element (difference w (product (inverse x) v))
  unfolding Same
  line_scaled c v d w ec ed =
      element_line (difference 0 x) d c
      ∙ ap₂ (λ (u y : Element). u ⊗ y ⊕ element c) (element_negative x) ed
      ∙ ap (λ (u : Element). neg (element x) ⊗ (K ⊗ element w) ⊕ u)
      (ec ∙ solve 𝓡 (K ⊗ element v ∷ []) A (𝟙 :* A) refl ∙ ap (λ (u : Element). u ⊗ (K ⊗ element v)) (sym (elements.mul_inv (element x) nz)))
      ∙ solve 𝓡 (element x ∷ K ∷ element w ∷ elements.inv (element x) ∷ element v ∷ []) (:- A :* (B :* C) :+ A :* D :* (B :* E))
      (:- A :* B :* (C :- D :* E)) refl
      ∙ ap (λ (u : Element). neg (element x) ⊗ K ⊗ u)
      (sym
      (element_difference w (product (inverse x) v)
      ∙ ap (λ (u : Element). element w ⊕ neg u) (element_product (inverse x) v ∙ ap (λ (u : Element). u ⊗ element v) (element_inverse x))))

  less_scaled : (c v : ℕ) (cs vs : List ℕ) → element c ≡ K ⊗ element v → Scaled K cs vs
      → Scaled (neg (element x) ⊗ K) (times_line_of (difference 0 x) c cs) (less_before (inverse x) v vs)
  unfolding times_line_of less_before
  less_scaled c v [] [] e s = tt
  less_scaled c v [] (w ∷ vs) e s = absurd s
  less_scaled c v (d ∷ cs) [] e s = absurd s
  less_scaled c v (d ∷ cs) (w ∷ vs) e s = (line_scaled c v d w e s.0, less_scaled d w cs vs s.0 s.1)

  factor_scaled : (cs vs : List ℕ) → Scaled K cs vs → Scaled (neg (element x) ⊗ K) (times_factor_of x cs) (times_root x vs)
  unfolding times_line_of times_root Same
  factor_scaled [] [] s = tt
  factor_scaled [] (v ∷ vs) s = absurd s
  factor_scaled (c ∷ cs) [] s = absurd s
  factor_scaled (c ∷ cs) (v ∷ vs) s = (
    element_line (difference 0 x) c 0 ∙ ap₂ (λ (u y : Element). u ⊗ element c ⊕ y) (element_negative x) element_zero
        ∙ ap (λ (u : Element). neg (element x) ⊗ u ⊕ 0ᴱ) s.0
        ∙ solve 𝓡 (element x ∷ K ∷ element v ∷ []) (:- A :* (B :* C) :+ 𝟘) (:- A :* B :* C) refl,
    less_scaled c v cs vs s.0 s.1,
  )

  -- and it is not 0 times
  still_nonzero : K ≢ 0ᴱ → neg (element x) ⊗ K ≢ 0ᴱ
  unfolding Same
  still_nonzero k e =
      nz
      (solve 𝓡 (element x ∷ []) A (A :* 𝟙) refl ∙ ap (λ (u : Element). element x ⊗ u) (sym (elements.mul_inv K k))
      ∙ solve 𝓡 (element x ∷ K ∷ elements.inv K ∷ []) (A :* (B :* C)) (:- (:- A :* B :* C)) refl
      ∙ ap (λ (u : Element). neg (u ⊗ elements.inv K)) e ∙ solve 𝓡 (elements.inv K ∷ []) (:- (𝟘 :* A)) 𝟘 refl)

not_zero : (x : ℕ) → (1 ≤ x) × (x < p) → element x ≢ 0ᴱ
not_zero x h e = omega (arith, h.0, element_injective x 0 h.1 (lit< tt) (e ∙ sym element_zero))

factors_scaled : (xs : List ℕ) (K : Element) (cs vs : List ℕ) → Nonzero xs → K ≢ 0ᴱ → Scaled K cs vs
    → (L : Element) × (L ≢ 0ᴱ) × Scaled L (times_factors xs cs) (times_roots xs vs)
unfolding times_factors times_roots
factors_scaled [] K cs vs a k s = (K, k, s)
factors_scaled (x ∷ xs) K cs vs a k s =
    let nz = not_zero x a.0 in
    factors_scaled xs (neg (element x) ⊗ K) (times_factor_of x cs) (times_root x vs) a.1 (still_nonzero x nz K k) (factor_scaled x nz K cs vs s)

-- ---- the coefficients are elements, and the constant is 1

less_elements : (k b : ℕ) (cs : List ℕ) → Elements (less_before k b cs)
unfolding less_before
less_elements k b [] = tt
less_elements k b (c ∷ cs) = (difference_below c (product k b), less_elements k c cs)

roots_elements : (xs cs : List ℕ) → Elements cs → Elements (times_roots xs cs)
unfolding times_roots times_root
roots_elements [] cs a = a
roots_elements (x ∷ xs) [] a = roots_elements xs [] tt
roots_elements (x ∷ xs) (c ∷ cs) a = roots_elements xs (times_root x (c ∷ cs)) (a.0, less_elements (inverse x) c cs)

pub vanishing_elements : (m : ℕ) (xs : List ℕ) → Elements (vanishing m xs)
unfolding one
vanishing_elements zero xs = roots_elements xs [] tt
vanishing_elements (suc m) xs = roots_elements xs (1 ∷ replicate m 0) (lit< tt, zeros m)
  where
    zeros : (m : ℕ) → Elements (replicate m 0)
    zeros zero = tt
    zeros (suc m) = (lit< tt, zeros m)

same_constant : (xs cs : List ℕ) → get_or (times_roots xs cs) 0 0 ≡ get_or cs 0 0
unfolding times_roots times_root
same_constant [] cs = refl
same_constant (x ∷ xs) [] = same_constant xs []
same_constant (x ∷ xs) (c ∷ cs) = same_constant xs (times_root x (c ∷ cs))

constant_one : (m : ℕ) (xs : List ℕ) → 1 ≤ m → get_or (vanishing m xs) 0 0 ≡ 1
unfolding one
constant_one zero xs h = absurd (omega arith)
constant_one (suc m) xs h = same_constant xs (1 ∷ replicate m 0)

-- ---- divided

module _ (K : Element) (k : K ≢ 0ᴱ) where
  first_scaled : (cs vs : List ℕ) → 1 ≤ length vs → Scaled K cs vs → element (get_or cs 0 0) ≡ K ⊗ element (get_or vs 0 0)
  first_scaled [] [] h s = absurd (omega arith)
  first_scaled [] (v ∷ vs) h s = absurd s
  first_scaled (c ∷ cs) [] h s = absurd s
  first_scaled (c ∷ cs) (v ∷ vs) h s = s.0

  all_divided : (i : ℕ) (cs vs : List ℕ) → element i ≡ elements.inv K → Scaled K cs vs → Elements vs → map (product i) cs ≡ vs
  unfolding Same
  all_divided i [] [] e s a = refl
  all_divided i [] (v ∷ vs) e s a = absurd s
  all_divided i (c ∷ cs) [] e s a = absurd s
  all_divided i (c ∷ cs) (v ∷ vs) e s a =
      ap₂ ◌∷◌
      (element_injective (product i c) v (product_below i c) a.0
      (element_product i c ∙ ap₂ ◌⊗◌ e s.0 ∙ solve 𝓡 (elements.inv K ∷ K ∷ element v ∷ []) (A :* (B :* C)) (B :* A :* C) refl
      ∙ ap (λ (u : Element). u ⊗ element v) (elements.mul_inv K k) ∙ solve 𝓡 (element v ∷ []) (𝟙 :* A) A refl))
      (all_divided i cs vs e s.1 a.1)

pub divided : (m : ℕ) (xs : List ℕ) → 1 ≤ m → Nonzero xs
    → map (product (inverse (get_or (times_factors xs (one m)) 0 0))) (times_factors xs (one m)) ≡ vanishing m xs
unfolding Same
divided m xs h a =
    let (K, k, s) = factors_scaled xs 1ᴱ (one m) (one m) a one_ne_zero (scaled_one (one m)) in
    let some : 1 ≤ length (vanishing m xs) = omega (arith, length_roots xs (one m), length_one m) in
    all_divided K k (inverse (get_or (times_factors xs (one m)) 0 0)) (times_factors xs (one m)) (vanishing m xs)
    (element_inverse (get_or (times_factors xs (one m)) 0 0)
    ∙ ap elements.inv
    (first_scaled K k (times_factors xs (one m)) (vanishing m xs) some s
    ∙ ap (λ (u : ℕ). K ⊗ element u) (constant_one m xs h) ∙ ap (λ (u : Element). K ⊗ u) element_one ∙ solve 𝓡 (K ∷ []) (A :* 𝟙) A refl))
    s (vanishing_elements m xs)
