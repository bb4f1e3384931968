-- The value of a product of 1 − z/x: one at 0, and zero at each x. The coefficients behind as many as there are factors are zero.
use Prim.Native.Nat.{ℕ, zero, suc, ◌+◌, ◌-◌, ◌%◌, ◌≤◌, ◌<◌}
use mathlib.Core.Path.{◌≡◌, refl, ◌∙◌, ap, ap₂, subst}
use mathlib.Core.Logic.{◌≢◌}
use mathlib.Core.List.{List, [], ◌∷◌}
use native.Mathlib.Nat.{mul-zero as mul-zero-nat}
use native.Mathlib.Omega.{arith}
use lib.ListN.{length, replicate, length-replicate}
use Rattle.field.specs.Modulus.{p}
use Rattle.field.specs.Arithmetic.{difference, product, inverse}
use Rattle.field.specs.Element.{Element, element}
use Rattle.field.proofs.Ring.{mul_zero}
use Rattle.field.proofs.Expression.{A, B, C, D, E, F, 𝟘, 𝟙, ◌:+◌, ◌:*◌, ◌:-◌, :-◌, Same}
use Rattle.field.proofs.Solver.{solve}
use Rattle.field.proofs.Elements.{elements, 𝓡, element_zero, element_one, element_product, element_difference, element_inverse}
use Rattle.poly.specs.Counting.{All}
use Rattle.poly.proofs.Lists.{all_map}
use Rattle.poly.proofs.Coefficients.{ev}
use Rattle.poly.proofs.Numbers.{to_elements}
pub use Rattle.vanishing.specs.Between.{Ends}
use Rattle.vanishing.specs.Vanishing.{less_before, times_root, times_roots, one, vanishing}
open 𝓡 use {add as ◌⊕◌, mul as ◌⊗◌, neg, zero as 0ᴱ, one as 1ᴱ}

infixl 65 ◌⊕◌
infixl 70 ◌⊗◌
-- ---- nothing behind the first k coefficients

nothing_left : (c b k : ℕ) → c ≡ 0 → b ≡ 0 → difference c (product k b) ≡ 0
unfolding difference product
nothing_left c b k ec eb =
    ap₂ (λ (x y : ℕ). difference x (product k y)) ec eb ∙ ap (λ (y : ℕ). (0 + (p - y % p % p)) % p) (mul-zero-nat k)

zeros_stay : (k b : ℕ) (cs : List ℕ) → b ≡ 0 → All (λ c. c ≡ 0) cs → All (λ c. c ≡ 0) (less_before k b cs)
unfolding less_before
zeros_stay k b [] e a = tt
zeros_stay k b (c ∷ cs) e a = (nothing_left c b k a.0 e, zeros_stay k c cs a.0 a.1)

less_ends : (m k b : ℕ) (cs : List ℕ) → Ends m cs → Ends (suc m) (less_before k b cs)
unfolding less_before
less_ends m k b [] h = tt
less_ends zero k b (c ∷ cs) h = zeros_stay k c cs h.0 h.1
less_ends (suc m) k b (c ∷ cs) h = less_ends m k c cs h

pub ends_more : (m : ℕ) (cs : List ℕ) → Ends m cs → Ends (suc m) cs
ends_more m [] h = tt
ends_more zero (c ∷ cs) h = h.1
ends_more (suc m) (c ∷ cs) h = ends_more m cs h

pub root_ends : (m x : ℕ) (cs : List ℕ) → Ends (suc m) cs → Ends (suc (suc m)) (times_root x cs)
unfolding times_root
root_ends m x [] h = tt
root_ends m x (c ∷ cs) h = less_ends m (inverse x) c cs h

pub roots_ends : (m : ℕ) (xs cs : List ℕ) → Ends (suc m) cs → Ends (suc (length xs + m)) (times_roots xs cs)
unfolding times_roots
roots_ends m [] cs h = let e : suc m ≡ suc (0 + m) = omega arith in subst (λ (n : ℕ). Ends n cs) e h
roots_ends m (x ∷ xs) cs h =
    let e : suc (length xs + suc m) ≡ suc (suc (length xs) + m) = omega arith in
    subst (λ (n : ℕ). Ends n (times_roots xs (times_root x cs))) e (roots_ends (suc m) xs (times_root x cs) (root_ends m x cs h))

pub length_root : (x : ℕ) (cs : List ℕ) → length (times_root x cs) ≡ length cs
unfolding times_root less_before
length_root x [] = refl
length_root x (c ∷ cs) = ap suc (go (inverse x) c cs)
  where
    go : (k b : ℕ) (cs : List ℕ) → length (less_before k b cs) ≡ length cs
    go k b [] = refl
    go k b (c ∷ cs) = ap suc (go k c cs)

pub length_roots : (xs cs : List ℕ) → length (times_roots xs cs) ≡ length cs
unfolding times_roots
length_roots [] cs = refl
length_roots (x ∷ xs) cs = length_roots xs (times_root x cs) ∙ length_root x cs

-- ---- the value

-- what a product with as many coefficients loses: the last coefficient's part
lost : Element → ℕ → List ℕ → Element → Element
lost k b [] z = k ⊗ element b
lost k b (c ∷ cs) z = z ⊗ lost k c cs z

less_value : (k b : ℕ) (cs : List ℕ) (z : Element)
    → ev 𝓡 (to_elements (less_before k b cs)) z
    ≡ ev 𝓡 (to_elements cs) z ⊕ neg (element k ⊗ (element b ⊕ z ⊗ ev 𝓡 (to_elements cs) z)) ⊕ lost (element k) b cs z
unfolding less_before ev lost Same
less_value k b [] z = solve 𝓡 (element k ∷ element b ∷ z ∷ []) 𝟘 (𝟘 :- A :* (B :+ C :* 𝟘) :+ A :* B) refl
less_value k b (c ∷ cs) z =
    ap₂ (λ (x y : Element). x ⊕ z ⊗ y) (element_difference c (product k b) ∙ ap (λ (y : Element). element c ⊕ neg y) (element_product k b)) (less_value k c cs z)
    ∙ solve 𝓡 (element c ∷ element k ∷ element b ∷ z ∷ ev 𝓡 (to_elements cs) z ∷ lost (element k) c cs z ∷ [])
    (A :- B :* C :+ D :* (E :- B :* (A :+ D :* E) :+ F)) (A :+ D :* E :- B :* (C :+ D :* (A :+ D :* E)) :+ D :* F) refl

-- nothing is lost where the last coefficient is zero
lost_nothing : (m : ℕ) (k : Element) (b : ℕ) (cs : List ℕ) (z : Element) → Ends m cs → m < length cs → lost k b cs z ≡ 0ᴱ
unfolding lost
lost_nothing m k b [] z h l = absurd (omega arith)
lost_nothing zero k b (c ∷ []) z h l = ap (λ (y : ℕ). z ⊗ (k ⊗ element y)) h.0 ∙ ap (λ (y : Element). z ⊗ (k ⊗ y)) element_zero ∙ ap (λ (y : Element). z ⊗ y) (mul_zero 𝓡 k) ∙ mul_zero 𝓡 z
lost_nothing zero k b (c ∷ (e ∷ cs)) z h l = ap (λ (y : Element). z ⊗ y) (lost_nothing zero k c (e ∷ cs) z h.1 (omega arith)) ∙ mul_zero 𝓡 z
lost_nothing (suc m) k b (c ∷ cs) z h l = ap (λ (y : Element). z ⊗ y) (lost_nothing m k c cs z h (omega arith)) ∙ mul_zero 𝓡 z

-- 1 − z/x
pub factor_at : Element → Element → Element
factor_at z x = 1ᴱ ⊕ neg (z ⊗ elements.inv x)

pub root_value : (m x : ℕ) (cs : List ℕ) (z : Element) → Ends (suc m) cs → suc m < length cs
    → ev 𝓡 (to_elements (times_root x cs)) z ≡ factor_at z (element x) ⊗ ev 𝓡 (to_elements cs) z
unfolding times_root ev factor_at Same
root_value m x [] z h l = absurd (omega arith)
root_value m x (c ∷ cs) z h l =
    ap (λ (y : Element). element c ⊕ z ⊗ y)
    (less_value (inverse x) c cs z
    ∙ ap (λ (y : Element). e ⊕ neg (element (inverse x) ⊗ (element c ⊕ z ⊗ e)) ⊕ y) (lost_nothing m (element (inverse x)) c cs z h (omega arith)))
    ∙ solve 𝓡 (element c ∷ z ∷ e ∷ element (inverse x) ∷ []) (A :+ B :* (C :- D :* (A :+ B :* C) :+ 𝟘)) ((𝟙 :- B :* D) :* (A :+ B :* C)) refl
    ∙ ap (λ (k : Element). (1ᴱ ⊕ neg (z ⊗ k)) ⊗ (element c ⊕ z ⊗ e)) (element_inverse x)
  where
    e : Element
    e = ev 𝓡 (to_elements cs) z

-- ---- of all factors

pub factors_at : Element → List Element → Element
factors_at z [] = 1ᴱ
factors_at z (x ∷ xs) = factor_at z x ⊗ factors_at z xs

pub roots_value : (m : ℕ) (xs cs : List ℕ) (z : Element) → Ends (suc m) cs → suc m + length xs ≤ length cs
    → ev 𝓡 (to_elements (times_roots xs cs)) z ≡ factors_at z (to_elements xs) ⊗ ev 𝓡 (to_elements cs) z
unfolding times_roots factors_at Same
roots_value m [] cs z h l = solve 𝓡 (ev 𝓡 (to_elements cs) z ∷ []) A (𝟙 :* A) refl
roots_value m (x ∷ xs) cs z h l =
    roots_value (suc m) xs (times_root x cs) z (root_ends m x cs h) (omega (arith, length_root x cs))
    ∙ ap (λ (y : Element). factors_at z (to_elements xs) ⊗ y) (root_value m x cs z h (omega arith))
    ∙ solve 𝓡 (factor_at z (element x) ∷ factors_at z (to_elements xs) ∷ ev 𝓡 (to_elements cs) z ∷ []) (B :* (A :* C)) (A :* B :* C) refl

all_zeros : (m : ℕ) → All {R = ℕ} (λ c. c ≡ 0) (replicate m 0)
all_zeros zero = tt
all_zeros (suc m) = (refl, all_zeros m)

pub one_ends : (m : ℕ) → Ends 1 (one m)
unfolding one
one_ends zero = tt
one_ends (suc m) = all_zeros m

zeros_value : (m : ℕ) (z : Element) → ev 𝓡 (to_elements (replicate m 0)) z ≡ 0ᴱ
unfolding ev Same
zeros_value zero z = refl
zeros_value (suc m) z = ap₂ (λ (x y : Element). x ⊕ z ⊗ y) element_zero (zeros_value m z) ∙ solve 𝓡 (z ∷ []) (𝟘 :+ A :* 𝟘) 𝟘 refl

one_value : (m : ℕ) (z : Element) → 1 ≤ m → ev 𝓡 (to_elements (one m)) z ≡ 1ᴱ
unfolding one ev Same
one_value zero z l = absurd (omega arith)
one_value (suc m) z l = ap₂ (λ (x y : Element). x ⊕ z ⊗ y) element_one (zeros_value m z) ∙ solve 𝓡 (z ∷ []) (𝟙 :+ A :* 𝟘) 𝟙 refl

pub length_one : (m : ℕ) → length (one m) ≡ m
unfolding one
length_one zero = refl
length_one (suc m) = ap suc (length-replicate m 0)

factors_at_zero : (ys : List Element) → factors_at 0ᴱ ys ≡ 1ᴱ
unfolding factors_at factor_at Same
factors_at_zero [] = refl
factors_at_zero (y ∷ ys) =
    ap (λ (z : Element). (1ᴱ ⊕ neg (0ᴱ ⊗ elements.inv y)) ⊗ z) (factors_at_zero ys) ∙ solve 𝓡 (elements.inv y ∷ []) ((𝟙 :- 𝟘 :* A) :* 𝟙) 𝟙 refl

factors_at_nodes : (ys : List Element) → All (λ y. y ≢ 0ᴱ) ys → All (λ y. factors_at y ys ≡ 0ᴱ) ys
unfolding factors_at factor_at Same
factors_at_nodes [] b = tt
factors_at_nodes (y ∷ ys) b = (
  ap (λ (z : Element). (1ᴱ ⊕ neg z) ⊗ factors_at y ys) (elements.mul_inv y b.0) ∙ solve 𝓡 (factors_at y ys ∷ []) ((𝟙 :- 𝟙) :* A) 𝟘 refl,
  all_map (λ z e. ap (λ (x : Element). factor_at z y ⊗ x) e ∙ mul_zero 𝓡 _) ys (factors_at_nodes ys b.1),
)

module _ (m : ℕ) (xs : List ℕ) where
  pub length_vanishing : length (vanishing m xs) ≡ m
  length_vanishing = length_roots xs (one m) ∙ length_one m

  pub vanishing_ends : Ends (suc (length xs)) (vanishing m xs)
  vanishing_ends = let e : suc (length xs + 0) ≡ suc (length xs) = omega arith in subst (λ (n : ℕ). Ends n (vanishing m xs)) e (roots_ends 0 xs (one m) (one_ends m))

  module _ (few : length xs < m) where
    pub vanishing_value : (z : Element) → ev 𝓡 (to_elements (vanishing m xs)) z ≡ factors_at z (to_elements xs)
    unfolding Same
    vanishing_value z =
        roots_value 0 xs (one m) z (one_ends m) (omega (arith, length_one m))
        ∙ ap (λ (y : Element). factors_at z (to_elements xs) ⊗ y) (one_value m z (omega arith)) ∙ solve 𝓡 (factors_at z (to_elements xs) ∷ []) (A :* 𝟙) A refl

    pub vanishing_at_zero : ev 𝓡 (to_elements (vanishing m xs)) 0ᴱ ≡ 1ᴱ
    vanishing_at_zero = vanishing_value 0ᴱ ∙ factors_at_zero (to_elements xs)

    pub vanishing_at_nodes : All (λ x. x ≢ 0ᴱ) (to_elements xs) → All (λ x. ev 𝓡 (to_elements (vanishing m xs)) x ≡ 0ᴱ) (to_elements xs)
    vanishing_at_nodes a = all_map (λ x e. vanishing_value x ∙ e) (to_elements xs) (factors_at_nodes (to_elements xs) a)
