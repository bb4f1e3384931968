-- Products of small differences and their signs: that four fit, what fewer than four make, and that a weight gains four at once.
use Prim.Native.Nat.{ℕ, suc, ◌+◌, ◌-◌, ◌*◌, ◌%◌, ◌≤◌, ◌<◌}
use mathlib.Core.Path.{◌≡◌, refl, sym, ◌∙◌, ap, ap₂}
use mathlib.Core.Bool.{Bool, true, false}
use mathlib.Core.List.{List, [], ◌∷◌, ◌++◌}
use native.Mathlib.Nat.{mul-le-mul, mul_assoc, mod-mod, mod-eq_of_lt}
use native.Mathlib.Omega.{arith}
use borrow.Author.Tests.{ltb-true, ltb-false}
use lib.Dec.{lit<, ltb}
use lib.ListN.{length, take, drop, get_or, length-take}
use lib.Seq.{take-suc, take_all}
use Rattle.field.specs.Modulus.{p}
use Rattle.field.specs.Arithmetic.{product}
use Rattle.field.specs.Element.{Element, element}
use Rattle.field.proofs.Expression.{A, B, C, D, E, ◌:+◌, ◌:*◌, ◌:-◌, :-◌, Same}
use Rattle.field.proofs.Ring.{one_mul}
use Rattle.field.proofs.Solver.{solve}
use Rattle.field.proofs.Elements.{𝓡, element_path, element_product, element_difference, element_add, element_injective}
use Rattle.field.proofs.Modular.{product_below, product_one}
use Rattle.poly.specs.Counting.{All}
use Rattle.poly.specs.Interpolation.{nodal}
use Rattle.inverses.specs.InverseTable.{most}
use Rattle.barycentric.specs.Weights.{alternating, mirrored, away, spans, over, above, node_weight, weight_to}
use Rattle.barycentric.proofs.Pascal.{sign}
use Rattle.barycentric.proofs.Alternating.{element_mirrored}
open 𝓡 use {add as ◌⊕◌, mul as ◌⊗◌, neg}

infixl 65 ◌⊕◌
infixl 70 ◌⊗◌
small : (a b : ℕ) → a ≤ most → b ≤ most → a * b ≤ most * most
small a b h k = mul-le-mul h k

element_mod : (a : ℕ) → element (a % p) ≡ element a
unfolding element
element_mod a = element_path _ _ (mod-mod a p)

element_mul : (a b : ℕ) → element (a * b) ≡ element a ⊗ element b
unfolding product
element_mul a b = sym (element_mod (a * b)) ∙ element_product a b

-- nothing wraps
module _ (x : ℕ) (hx : x ≤ most) where
  near : (g u : ℕ) → g ≤ most → u ≡ away x g → u ≤ most
  near g u h e = omega arith

  pub two_fit : (a b u v : ℕ) → a ≤ most → b ≤ most → u ≡ away x a → v ≡ away x b → u * v < 4294967296
  two_fit a b u v h k e f = omega (arith, small u v (near a u h e) (near b v k f))

  pub four_fit : (a b c d u v w z : ℕ) → a ≤ most → b ≤ most → c ≤ most → d ≤ most → u ≡ away x a → v ≡ away x b → w ≡ away x c → z ≡ away x d
      → u * v * (w * z) < 4294967296
  four_fit a b c d u v w z ha hb hc hd e f g k =
      let bound : u * v * (w * z) ≤ most * most * (most * most) =
      mul-le-mul (small u v (near a u ha e) (near b v hb f)) (small w z (near c w hc g) (near d z hd k)) in
      omega arith

  -- fewer than four, as they are
  pub first_fit : (gs : List ℕ) (u v : ℕ) → All (λ g. g ≤ most) gs → (length gs ≡ 0 → ⊥) → (length gs ≡ 1 → ⊥) → u ≡ away x (get_or gs 0 0)
      → v ≡ away x (get_or gs 1 0) → u * v < 4294967296
  first_fit [] u v l i j e f = absurd (i refl)
  first_fit (a ∷ []) u v l i j e f = absurd (j refl)
  first_fit (a ∷ (b ∷ gs)) u v l i j e f = two_fit a b u v l.0 l.1.0 e f

  three_most : (a b c u v w : ℕ) → a ≤ most → b ≤ most → c ≤ most → u ≡ away x a → v ≡ away x b → w ≡ away x c → u * v * w < p
  three_most a b c u v w ha hb hc e f g =
      let bound : u * v * w ≤ most * most * most = mul-le-mul (small u v (near a u ha e) (near b v hb f)) (near c w hc g) in
      omega arith

  pub three_fit : (gs : List ℕ) (u v w : ℕ) → All (λ g. g ≤ most) gs → (length gs ≡ 0 → ⊥) → (length gs ≡ 1 → ⊥) → (length gs ≡ 2 → ⊥)
      → u ≡ away x (get_or gs 0 0) → v ≡ away x (get_or gs 1 0) → w ≡ away x (get_or gs 2 0) → u * v * w < 4294967296
  three_fit [] u v w l i j k e f g = absurd (i refl)
  three_fit (a ∷ []) u v w l i j k e f g = absurd (j refl)
  three_fit (a ∷ (b ∷ [])) u v w l i j k e f g = absurd (k refl)
  three_fit (a ∷ (b ∷ (c ∷ gs))) u v w l i j k e f g = omega (arith, three_most a b c u v w l.0 l.1.0 l.1.1.0 e f g)

  pub spans_none : (gs : List ℕ) → length gs ≡ 0 → 1 ≡ spans gs x
  unfolding spans
  spans_none [] e = refl
  spans_none (g ∷ gs) e = absurd (omega arith)

  pub spans_one : (gs : List ℕ) (u : ℕ) → All (λ g. g ≤ most) gs → length gs ≡ 1 → u ≡ away x (get_or gs 0 0) → u ≡ spans gs x
  unfolding spans
  spans_one [] u l e f = absurd (omega arith)
  spans_one (a ∷ []) u l e f =
      f ∙ sym (product_one (away x a) (omega (arith, near a (away x a) l.0 refl)))
  spans_one (a ∷ (b ∷ gs)) u l e f = absurd (omega arith)

  pub spans_two : (gs : List ℕ) (u v : ℕ) → All (λ g. g ≤ most) gs → length gs ≡ 2 → u ≡ away x (get_or gs 0 0) → v ≡ away x (get_or gs 1 0)
      → u * v ≡ spans gs x
  unfolding spans product
  spans_two [] u v l e f g = absurd (omega arith)
  spans_two (a ∷ []) u v l e f g = absurd (omega arith)
  spans_two (a ∷ (b ∷ [])) u v l e f g =
      let low : u * v < p = omega (arith, small u v (near a u l.0 f) (near b v l.1.0 g)) in
      sym (mod-eq_of_lt low) ∙ rw (f, g) (ap (product (away x a)) (spans_one (b ∷ []) (away x b) l.1 refl refl))
  spans_two (a ∷ (b ∷ (c ∷ gs))) u v l e f g = absurd (omega arith)

  pub spans_three : (gs : List ℕ) (u v w : ℕ) → All (λ g. g ≤ most) gs → length gs < 4 → (length gs ≡ 0 → ⊥) → (length gs ≡ 1 → ⊥) → (length gs ≡ 2 → ⊥)
      → u ≡ away x (get_or gs 0 0) → v ≡ away x (get_or gs 1 0) → w ≡ away x (get_or gs 2 0) → u * v * w ≡ spans gs x
  unfolding spans product
  spans_three [] u v w l e i j k f g h = absurd (i refl)
  spans_three (a ∷ []) u v w l e i j k f g h = absurd (j refl)
  spans_three (a ∷ (b ∷ [])) u v w l e i j k f g h = absurd (k refl)
  spans_three (a ∷ (b ∷ (c ∷ []))) u v w l e i j k f g h =
      sym (mod-eq_of_lt (three_most a b c u v w l.0 l.1.0 l.1.1.0 f g h))
      ∙ ap (λ (n : ℕ). n % p) (mul_assoc u v w)
      ∙ rw (f, g, h) (ap (product (away x a)) (spans_two (b ∷ (c ∷ [])) (away x b) (away x c) l.1 refl refl refl))
  spans_three (a ∷ (b ∷ (c ∷ (d ∷ gs)))) u v w l e i j k f g h = absurd (omega arith)

-- those before the fours
all_front : (P : ℕ → Type 0) (l : List ℕ) (i : ℕ) → All P l → All P (take i l)
all_front P l ℕ.zero a = tt
all_front P [] (suc i) a = tt
all_front P (x ∷ l) (suc i) a = (a.0, all_front P l i a.1)

module _ (gs : List ℕ) (i : ℕ) where
  front : take (i - 0) (drop 0 gs) ≡ take i gs
  front = let e : i - 0 ≡ i = omega arith in ap (λ (n : ℕ). take n gs) e

  pub front_small : All (λ g. g ≤ most) gs → All (λ g. g ≤ most) (take (i - 0) (drop 0 gs))
  front_small a = rw front (all_front (λ g. g ≤ most) gs i a)

  pub front_few : i < 4 → length (take (i - 0) (drop 0 gs)) < 4
  front_few h = rw front (omega (arith, length-take i gs))

pub spans_below : (gs : List ℕ) (x : ℕ) → spans gs x < p
unfolding spans
spans_below [] x = lit< tt
spans_below (g ∷ gs) x = product_below _ _

pub distances_found : (gs : List ℕ) (few x s n v : ℕ) → s ≡ spans (take (few - 0) (drop 0 gs)) x → v ≡ mirrored (n + 1) s
    → v ≡ mirrored (n + 1) (spans (take few gs) x)
distances_found gs few x s n v es ev = ev ∙ ap (mirrored (n + 1)) (es ∙ ap (λ (l : List ℕ). spans l x) (front gs few))

-- the product with one number more, and with four
module _ (gs : List ℕ) (x : ℕ) where
  abbrev at : ℕ → Element
  at j = element (away x (get_or gs j 0))

  spans_behind : (k : ℕ) (l : List ℕ) → element (spans (l ++ (get_or gs k 0 ∷ [])) x) ≡ element (spans l x) ⊗ at k
  unfolding spans Same
  spans_behind k [] = element_product _ 1 ∙ 𝓡.mul_comm _ _
  spans_behind k (g ∷ l) =
      element_product _ _ ∙ ap (λ (u : Element). element (away x g) ⊗ u) (spans_behind k l)
      ∙ solve 𝓡 (element (away x g) ∷ element (spans l x) ∷ at k ∷ []) (A :* (B :* C)) (A :* B :* C) refl
      ∙ ap (λ (u : Element). u ⊗ at k) (sym (element_product _ _))

  spans_next : (k j : ℕ) → k < length gs → j ≡ suc k → element (spans (take j gs) x) ≡ element (spans (take k gs) x) ⊗ at k
  spans_next k j h q =
      ap (λ (n : ℕ). element (spans (take n gs) x)) q ∙ ap (λ (l : List ℕ). element (spans l x)) (take-suc gs k 0 h) ∙ spans_behind k (take k gs)

  spans_four : (k : ℕ) → k + 3 < length gs
      → element (spans (take (k + 4) gs) x) ≡ element (spans (take k gs) x) ⊗ (at k ⊗ at (k + 1) ⊗ (at (k + 2) ⊗ at (k + 3)))
  unfolding Same
  spans_four k h =
      spans_next (k + 3) (k + 4) h (omega arith) ∙ ap (λ (u : Element). u ⊗ at (k + 3)) (spans_next (k + 2) (k + 3) (omega arith) (omega arith))
      ∙ ap (λ (u : Element). u ⊗ at (k + 2) ⊗ at (k + 3)) (spans_next (k + 1) (k + 2) (omega arith) (omega arith))
      ∙ ap (λ (u : Element). u ⊗ at (k + 1) ⊗ at (k + 2) ⊗ at (k + 3)) (spans_next k (k + 1) (omega arith) (omega arith))
      ∙ solve 𝓡 (element (spans (take k gs) x) ∷ at k ∷ at (k + 1) ∷ at (k + 2) ∷ at (k + 3) ∷ []) (A :* B :* C :* D :* E) (A :* (B :* C :* (D :* E))) refl

-- the difference and its size
larger : (x g : ℕ) → g ≤ x → element x ⊕ neg (element g) ≡ element (away x g)
unfolding Same
larger x g h =
    let s : x ≡ away x g + g = omega arith in
    ap (λ (u : Element). u ⊕ neg (element g)) (ap element s ∙ element_add (away x g) g)
    ∙ solve 𝓡 (element (away x g) ∷ element g ∷ []) (A :+ B :- B) A refl

smaller : (x g : ℕ) → x < g → element x ⊕ neg (element g) ≡ neg (element (away x g))
unfolding Same
smaller x g h =
    let s : g ≡ away x g + x = omega arith in
    ap (λ (u : Element). element x ⊕ neg u) (ap element s ∙ element_add (away x g) x)
    ∙ solve 𝓡 (element (away x g) ∷ element x ∷ []) (B :- (A :+ B)) (:- A) refl

pub element_spans : (gs : List ℕ) (x : ℕ) → element (nodal gs x) ≡ sign 𝓡 (above gs x) ⊗ element (spans gs x)
unfolding nodal spans over above sign Same
element_spans [] x = sym (one_mul 𝓡 (element 1))
element_spans (g ∷ gs) x =
    element_product _ _ ∙ ap₂ ◌⊗◌ (element_difference x g) (element_spans gs x) ∙ go (ltb x g) refl
  where
    k : ℕ
    k = above gs x

    more : suc k ≡ 1 + k
    more = omega arith

    same : k ≡ 0 + k
    same = omega arith

    go : (t : Bool) → ltb x g ≡ t → (element x ⊕ neg (element g)) ⊗ (sign 𝓡 k ⊗ element (spans gs x))
        ≡ sign 𝓡 (elim t as (λ z. ℕ) [ true ↦ 1 | false ↦ 0 ] + k) ⊗ element (product (away x g) (spans gs x))
    go true e =
        ap (λ (u : Element). u ⊗ (sign 𝓡 k ⊗ element (spans gs x))) (smaller x g (ltb-true x g e))
        ∙ solve 𝓡 (element (away x g) ∷ sign 𝓡 k ∷ element (spans gs x) ∷ []) (:- A :* (B :* C)) (:- B :* (A :* C)) refl
        ∙ ap₂ (λ (j : ℕ) (u : Element). sign 𝓡 j ⊗ u) more (sym (element_product _ _))
    go false e =
        ap (λ (u : Element). u ⊗ (sign 𝓡 k ⊗ element (spans gs x))) (larger x g (ltb-false x g e))
        ∙ solve 𝓡 (element (away x g) ∷ sign 𝓡 k ∷ element (spans gs x) ∷ []) (A :* (B :* C)) (B :* (A :* C)) refl
        ∙ ap₂ (λ (j : ℕ) (u : Element). sign 𝓡 j ⊗ u) same (sym (element_product _ _))

-- a weight with the distances to the first k numbers
module _ (m : ℕ) (gs : List ℕ) (x : ℕ) where
  element_weight_to : (k : ℕ) → element (weight_to m gs k x) ≡ element (alternating m x) ⊗ (sign 𝓡 (above gs x) ⊗ element (spans (take k gs) x))
  unfolding weight_to
  element_weight_to k = element_product _ _ ∙ ap (λ (u : Element). element (alternating m x) ⊗ u) (element_mirrored (above gs x) (spans (take k gs) x))

  pub weight_below : (k : ℕ) → weight_to m gs k x < p
  unfolding weight_to
  weight_below k = product_below _ _

  pub weight_start : (k n s b v : ℕ) → b ≡ alternating m x → n ≡ above gs x → s ≡ mirrored (n + 1) (spans (take k gs) x) → v ≡ product b s
      → v ≡ weight_to m gs k x
  unfolding weight_to
  weight_start k n s b v eb en es ev = ev ∙ ap₂ product eb (es ∙ ap (λ (j : ℕ). mirrored (j + 1) (spans (take k gs) x)) en)

  pub weight_four : (k b q v : ℕ) → k + 3 < length gs → b ≡ weight_to m gs k x
      → q ≡ away x (get_or gs k 0) * away x (get_or gs (k + 1) 0) * (away x (get_or gs (k + 2) 0) * away x (get_or gs (k + 3) 0)) → v ≡ product b q
      → v ≡ weight_to m gs (k + 4) x
  unfolding Same
  weight_four k b q v h eb eq ev =
      element_injective v (weight_to m gs (k + 4) x) (rw ev (product_below b q)) (weight_below (k + 4))
      (ap element ev ∙ element_product b q
      ∙ ap₂ ◌⊗◌ (ap element eb ∙ element_weight_to k) (ap element eq ∙ element_mul _ _ ∙ ap₂ ◌⊗◌ (element_mul _ _) (element_mul _ _))
      ∙ solve 𝓡 (element (alternating m x) ∷ sign 𝓡 (above gs x) ∷ element (spans (take k gs) x) ∷ four ∷ []) (A :* (B :* C) :* D) (A :* (B :* (C :* D))) refl
      ∙ ap (λ (u : Element). element (alternating m x) ⊗ (sign 𝓡 (above gs x) ⊗ u)) (sym (spans_four gs x k h)) ∙ sym (element_weight_to (k + 4)))
    where
      four : Element
      four = at gs x k ⊗ at gs x (k + 1) ⊗ (at gs x (k + 2) ⊗ at gs x (k + 3))

  pub weight_all : (k : ℕ) → length gs ≤ k → weight_to m gs k x ≡ node_weight m gs x
  unfolding node_weight
  weight_all k h =
      element_injective (weight_to m gs k x) (node_weight m gs x) (weight_below k) (product_below _ _)
      (element_weight_to k ∙ ap (λ (l : List ℕ). element (alternating m x) ⊗ (sign 𝓡 (above gs x) ⊗ element (spans l x))) (take_all k gs h)
      ∙ ap (λ (u : Element). element (alternating m x) ⊗ u) (sym (element_spans gs x)) ∙ sym (element_product _ _))
