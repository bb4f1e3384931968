-- Pascal's triangle modulo p: each number of a row from the one before, and from the other end.
use mathlib.Core.Path.{◌≡◌, refl, sym, ◌∙◌, ap, ap₂}
use mathlib.Core.Bool.{Bool, true, false}
use mathlib.Core.Logic.{◌≢◌}
use mathlib.Core.List.{List, [], ◌∷◌}
use Prim.Native.Nat.{ℕ, suc, ◌+◌, ◌-◌, ◌%◌, ◌≤◌, ◌<◌}
use native.Mathlib.Nat.{mod-eq_of_lt, mod-mod}
use native.Mathlib.Numerals.{add-one}
use native.Mathlib.Omega.{arith}
use borrow.Author.Tests.{eqb-true, eqb-false}
use lib.Dec.{eqb, lit<}
use Rattle.field.specs.Modulus.{p}
use Rattle.field.specs.Arithmetic.{difference, product}
use Rattle.field.specs.Element.{Element, element}
use Rattle.field.proofs.Expression.{A, B, C, 𝟙, ◌:+◌, ◌:*◌, ◌:-◌, :-◌, Same}
use Rattle.field.proofs.Ring.{one_mul}
use Rattle.field.proofs.Solver.{solve}
use Rattle.field.proofs.Elements.{𝓡, elements, element_path, element_zero, element_one, element_product, element_difference, element_add, element_negative, element_injective}
use Rattle.field.proofs.Modular.{difference_below, product_below}
use Rattle.barycentric.specs.Weights.{alternating, mirrored, node_weight}
use Rattle.poly.proofs.Numbers.{element_nodal}
use Rattle.barycentric.proofs.Pascal.{pascal, pascal_next, pascal_mirror, sign}
use Rattle.barycentric.proofs.Gaps.{gapped}
open 𝓡 use {add as ◌⊕◌, mul as ◌⊗◌, neg, one as 1ᴱ, mul_one}

infixl 65 ◌⊕◌
infixl 70 ◌⊗◌
pub element_suc : (n : ℕ) → element (suc n) ≡ 1ᴱ ⊕ element n
element_suc n = let q : suc n ≡ 1 + n = omega arith in ap element q ∙ element_add 1 n ∙ ap (λ (u : Element). u ⊕ element n) element_one

pub element_alternating : (m x : ℕ) → element (alternating m x) ≡ pascal 𝓡 m x
unfolding alternating pascal
element_alternating m ℕ.zero = element_one
element_alternating ℕ.zero (suc x) = element_zero
element_alternating (suc m) (suc x) =
    element_difference _ _ ∙ ap₂ (λ (u v : Element). u ⊕ neg v) (element_alternating m (suc x)) (element_alternating m x)

pub alternating_below : (m x : ℕ) → alternating m x < p
unfolding alternating
alternating_below m ℕ.zero = lit< tt
alternating_below ℕ.zero (suc x) = lit< tt
alternating_below (suc m) (suc x) = difference_below _ _

pub element_node_weight : (m : ℕ) (gaps : List ℕ) (x : ℕ)
    → element (node_weight m gaps x) ≡ gapped elements element element_zero element_suc m gaps x
unfolding node_weight
element_node_weight m gaps x = element_product _ _ ∙ ap₂ ◌⊗◌ (element_alternating m x) (element_nodal gaps x)

-- p less an element
pub element_less : (e : ℕ) → e < p → element (p - e) ≡ neg (element e)
unfolding element difference
element_less e h =
    element_path (element (p - e)) (element (difference 0 e)) (sym (mod-mod (p - e) p) ∙ ap (λ (u : ℕ). u % p % p) same) ∙ element_negative e
  where
    small : e % p ≡ e
    small = mod-eq_of_lt h

    same : p - e ≡ 0 + (p - e % p)
    same = omega arith

-- p less the inverse of k is the inverse of 0 - k
pub negative_inverse_lem : (e k : ℕ) → e < p → product e k ≡ 1 → product (p - e) (difference 0 k) ≡ 1
unfolding Same
negative_inverse_lem e k h q =
    element_injective _ 1 (product_below _ _) (lit< tt)
    (element_product _ _ ∙ ap₂ ◌⊗◌ (element_less e h) (element_negative k)
    ∙ solve 𝓡 (element e ∷ element k ∷ []) (:- A :* :- B) (A :* B) refl ∙ sym (element_product e k) ∙ ap element q)

-- the next number of row m, by the inverse of its place
pub alternating_next : (m x b e f w : ℕ) → x < m → product e (difference 0 (x + 1)) ≡ 1 → b ≡ alternating m x → f ≡ product (m - x) e
    → w ≡ product b f → w ≡ alternating m (x + 1)
unfolding Same
alternating_next m x b e f w h q eb ef ew =
    rw (add-one x)
    (element_injective w (alternating m (suc x)) (rw ew (product_below b f)) (alternating_below m (suc x))
    (ap element (ew ∙ ap₂ product eb ef) ∙ element_product _ _ ∙ ap₂ ◌⊗◌ (element_alternating m x) (element_product _ _)
    ∙ solve 𝓡 (pascal 𝓡 m x ∷ d ∷ element e ∷ []) (A :* (B :* C)) (:- (:- (A :* B)) :* C) refl
    ∙ ap (λ (u : Element). neg (neg (pascal 𝓡 m x ⊗ u)) ⊗ element e) distance
    ∙ ap (λ (u : Element). neg u ⊗ element e) (sym (pascal_next 𝓡 element element_zero element_suc m x))
    ∙ solve 𝓡 (pascal 𝓡 m (suc x) ∷ element (suc x) ∷ element e ∷ []) (:- (A :* B) :* C) (A :* (C :* :- B)) refl
    ∙ ap (λ (u : Element). pascal 𝓡 m (suc x) ⊗ u) one_of ∙ mul_one _ ∙ sym (element_alternating m (suc x))))
  where
    d : Element
    d = element (m - x)

    distance : d ≡ element m ⊕ neg (element x)
    distance =
        let s : m ≡ m - x + x = omega arith in
        solve 𝓡 (d ∷ element x ∷ []) A (A :+ B :- B) refl
        ∙ ap (λ (u : Element). u ⊕ neg (element x)) (sym (element_add (m - x) x) ∙ ap element (sym s))

    one_of : element e ⊗ neg (element (suc x)) ≡ 1ᴱ
    one_of =
        ap (λ (u : ℕ). element e ⊗ neg (element u)) (sym (add-one x)) ∙ ap (λ (u : Element). element e ⊗ u) (sym (element_negative (x + 1)))
        ∙ sym (element_product e (difference 0 (x + 1))) ∙ ap element q ∙ element_one

sign_even : (m : ℕ) → ((m + 1) % 2 ≡ 1 → sign 𝓡 m ≡ 1ᴱ) × ((m + 1) % 2 ≢ 1 → sign 𝓡 m ≡ neg 1ᴱ)
unfolding sign Same
sign_even ℕ.zero = ((λ h. refl), (λ n. absurd (n refl)))
sign_even (suc m) = (
  (λ h. ap neg ((sign_even m).1 (λ q. absurd (omega arith))) ∙ solve 𝓡 [] (:- (:- 𝟙)) 𝟙 refl),
  (λ n. ap neg ((sign_even m).0 (omega arith))),
)

pub mirrored_below : (n b : ℕ) → b < p → mirrored n b < p
unfolding mirrored
mirrored_below n b h = go (eqb (n % 2) 1)
  where
    go : (t : Bool) → elim t as (λ z. ℕ) [ true ↦ b | false ↦ difference 0 b ] < p
    go true = h
    go false = difference_below 0 b

pub element_mirrored : (m b : ℕ) → element (mirrored (m + 1) b) ≡ sign 𝓡 m ⊗ element b
unfolding mirrored Same
element_mirrored m b = go (eqb ((m + 1) % 2) 1) refl
  where
    go : (t : Bool) → eqb ((m + 1) % 2) 1 ≡ t → element (elim t as (λ z. ℕ) [ true ↦ b | false ↦ difference 0 b ]) ≡ sign 𝓡 m ⊗ element b
    go true q = sym (ap (λ (u : Element). u ⊗ element b) ((sign_even m).0 (eqb-true ((m + 1) % 2) 1 q)) ∙ one_mul 𝓡 _)
    go false q =
        element_negative b
        ∙ sym
        (ap (λ (u : Element). u ⊗ element b) ((sign_even m).1 (eqb-false ((m + 1) % 2) 1 q)) ∙ solve 𝓡 (element b ∷ []) (:- 𝟙 :* A) (:- A) refl)

pub alternating_mirror : (m x b : ℕ) → x ≤ m → b ≡ alternating m (m - x) → mirrored (m + 1) b ≡ alternating m x
unfolding sign Same
alternating_mirror m x b h e =
    element_injective (mirrored (m + 1) b) (alternating m x) (mirrored_below (m + 1) b (rw e (alternating_below m (m - x)))) (alternating_below m x)
    (element_mirrored m b ∙ ap (λ (u : Element). sign 𝓡 m ⊗ u) turned ∙ twice m ∙ sym (element_alternating m x))
  where
    s : m - x + x ≡ m
    s = omega arith

    turned : element b ≡ sign 𝓡 m ⊗ pascal 𝓡 m x
    turned = ap element e ∙ element_alternating m (m - x) ∙ pascal_mirror 𝓡 m (m - x) x s

    twice : (k : ℕ) → sign 𝓡 k ⊗ (sign 𝓡 k ⊗ pascal 𝓡 m x) ≡ pascal 𝓡 m x
    twice ℕ.zero = one_mul 𝓡 _ ∙ one_mul 𝓡 _
    twice (suc k) = solve 𝓡 (sign 𝓡 k ∷ pascal 𝓡 m x ∷ []) (:- A :* (:- A :* B)) (A :* (A :* B)) refl ∙ twice k
