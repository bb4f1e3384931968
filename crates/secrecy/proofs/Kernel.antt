-- The vector that a group of posts cannot see: its number is one, but its public sums are all zero, and so are the
-- polynomials and the check values of everyone in the group. Added to a shared number's vector, it changes the number and no
-- row of the group.
use Prim.Native.Nat.{ℕ, zero, suc, ◌≤◌, ◌<◌}
use mathlib.Core.Path.{◌≡◌, refl, sym, ◌∙◌, ap, ap₂}
use mathlib.Core.Logic.{◌≢◌}
use mathlib.Core.List.{List, [], ◌∷◌}
use native.Mathlib.Nat.{not-suc-le-zero, le_of_suc-le-suc}
use native.Mathlib.Omega.{arith}
use lib.ListN.{length, get_or}
use Rattle.field.specs.Element.{Element, element}
use Rattle.field.proofs.Ring.{mul_zero, zero_mul}
use Rattle.field.proofs.Expression.{A, B, C, D, 𝟘, 𝟙, ◌:+◌, ◌:*◌, :-◌, Same}
use Rattle.field.proofs.Solver.{solve}
use Rattle.field.proofs.Elements.{elements, 𝓡}
use Rattle.poly.specs.Counting.{All}
use Rattle.poly.proofs.Lists.{all_map}
use Rattle.poly.proofs.Coefficients.{ev, times_nodes, nodal_at, ev_times_nodes, ev_constant, length_times_nodes, nodal_at_self}
use Rattle.poly.proofs.Lagrange.{nodal_at_nonzero}
use Rattle.shape.specs.declared.Shape.{Shape}
use Rattle.shape.specs.Lengths.{f_length, v_length}
use Rattle.vectors.specs.Vector.{Vector, firsts, value_at, sum_at}
open 𝓡 use {add as ◌⊕◌, mul as ◌⊗◌, neg, zero as 0ᴱ, one as 1ᴱ}

infixl 65 ◌⊕◌
infixl 70 ◌⊗◌
-- ---- one at zero, and zero at each of some nodes

-- its coefficients
pub hiding : List Element → List Element
hiding rs = times_nodes 𝓡 rs (elements.inv (nodal_at 𝓡 0ᴱ rs) ∷ [])

hiding_value : (rs : List Element) (x : Element) → ev 𝓡 (hiding rs) x ≡ nodal_at 𝓡 x rs ⊗ elements.inv (nodal_at 𝓡 0ᴱ rs)
unfolding hiding
hiding_value rs x =
    ev_times_nodes 𝓡 rs _ x ∙ ap (λ (z : Element). nodal_at 𝓡 x rs ⊗ z) (ev_constant 𝓡 (elements.inv (nodal_at 𝓡 0ᴱ rs)) x)

pub hiding_at_zero : (rs : List Element) → All (λ r. r ≢ 0ᴱ) rs → ev 𝓡 (hiding rs) 0ᴱ ≡ 1ᴱ
hiding_at_zero rs a = hiding_value rs 0ᴱ ∙ elements.mul_inv (nodal_at 𝓡 0ᴱ rs) (nodal_at_nonzero elements 0ᴱ rs a)

pub hiding_at_nodes : (rs : List Element) → All (λ r. ev 𝓡 (hiding rs) r ≡ 0ᴱ) rs
hiding_at_nodes rs =
    all_map (λ r e. hiding_value rs r ∙ ap (λ (z : Element). z ⊗ elements.inv (nodal_at 𝓡 0ᴱ rs)) e ∙ zero_mul 𝓡 _)
    rs (nodal_at_self 𝓡 rs)

pub length_hiding : (rs : List Element) → length (hiding rs) ≤ suc (length rs)
unfolding hiding
length_hiding rs = omega (arith, length_times_nodes 𝓡 rs (elements.inv (nodal_at 𝓡 0ᴱ rs) ∷ []))

-- ---- coefficients by their place

-- the coefficient of a list at a place: zero behind its end
abbrev pub coefficient : List Element → ℕ → Element
coefficient l m = get_or l m 0ᴱ

value_at_coefficient : (k : ℕ) (l : List Element) (x : Element) → length l ≤ k → value_at k (coefficient l) x ≡ ev 𝓡 l x
unfolding value_at firsts ev Same
value_at_coefficient zero [] x h = refl
value_at_coefficient zero (c ∷ cs) x h = absurd (not-suc-le-zero h)
value_at_coefficient (suc k) [] x h =
    ap (λ (z : Element). 0ᴱ ⊕ x ⊗ z) (value_at_coefficient k [] x (omega arith)) ∙ solve 𝓡 (x ∷ []) (𝟘 :+ A :* 𝟘) 𝟘 refl
value_at_coefficient (suc k) (c ∷ cs) x h =
    ap (λ (z : Element). c ⊕ x ⊗ z) (value_at_coefficient k cs x (le_of_suc-le-suc h))

value_at_times : (k : ℕ) (s : Element) (a : ℕ → Element) (x : Element) → value_at k (λ m. s ⊗ a m) x ≡ s ⊗ value_at k a x
unfolding value_at firsts ev Same
value_at_times zero s a x = sym (mul_zero 𝓡 s)
value_at_times (suc k) s a x =
    ap (λ (z : Element). s ⊗ a 0 ⊕ x ⊗ z) (value_at_times k s (λ m. a (suc m)) x)
    ∙ solve 𝓡 (s ∷ a 0 ∷ x ∷ value_at k (λ m. a (suc m)) x ∷ []) (A :* B :+ C :* (A :* D)) (A :* (B :+ C :* D)) refl

constant_is_value : (l : List Element) → coefficient l 0 ≡ ev 𝓡 l 0ᴱ
unfolding ev Same
constant_is_value [] = refl
constant_is_value (c ∷ cs) = solve 𝓡 (c ∷ ev 𝓡 cs 0ᴱ ∷ []) A (A :+ 𝟘 :* B) refl

-- ---- the kernel

-- l: the coefficients of a polynomial that is one at zero, and zero at the posts of a group; w: of one that is so at their check points
module _ (l w : List Element) where
  -- f is l, and vj is -l(j) w
  pub kernel_of : Vector
  kernel_of = record { c = 0ᴱ; f = coefficient l; v = λ j m. neg (ev 𝓡 l (element j)) ⊗ coefficient w m }

  pub kernel_of_c : kernel_of.c ≡ 0ᴱ
  unfolding kernel_of
  kernel_of_c = refl

  pub kernel_of_f : (m : ℕ) → kernel_of.f m ≡ coefficient l m
  unfolding kernel_of
  kernel_of_f m = refl

  pub kernel_of_v : (j m : ℕ) → kernel_of.v j m ≡ neg (ev 𝓡 l (element j)) ⊗ coefficient w m
  unfolding kernel_of
  kernel_of_v j m = refl

  -- the polynomials of the group's posts are nothing
  pub kernel_of_own : (i : ℕ) → ev 𝓡 l (element i) ≡ 0ᴱ → (m : ℕ) → kernel_of.v i m ≡ 0ᴱ
  unfolding kernel_of Same
  kernel_of_own i e m =
      ap (λ (z : Element). neg z ⊗ coefficient w m) e
      ∙ solve 𝓡 (coefficient w m ∷ []) (:- 𝟘 :* A) 𝟘 refl

  pub kernel_of_constant : ev 𝓡 l 0ᴱ ≡ 1ᴱ → kernel_of.f 0 ≡ 1ᴱ
  unfolding kernel_of
  kernel_of_constant e = constant_is_value l ∙ e

  -- the public sums of all posts are nothing, -l(j) w(0) + l(j)
  pub kernel_of_sums : (s : Shape) → length l ≤ f_length s → ev 𝓡 w 0ᴱ ≡ 1ᴱ → (j : ℕ) → sum_at s kernel_of j ≡ 0ᴱ
  unfolding kernel_of Same
  kernel_of_sums s few e j =
      ap₂ (λ (x y : Element). neg (ev 𝓡 l (element (suc j))) ⊗ x ⊕ y ⊕ 0ᴱ) (constant_is_value w ∙ e)
      (value_at_coefficient (f_length s) l (element (suc j)) few)
      ∙ solve 𝓡 (ev 𝓡 l (element (suc j)) ∷ []) (:- A :* 𝟙 :+ A :+ 𝟘) 𝟘 refl

  -- the values at the group's check points are nothing
  pub kernel_of_checks : (s : Shape) → length w ≤ v_length s → (x : Element) → ev 𝓡 w x ≡ 0ᴱ → (j : ℕ)
      → value_at (v_length s) (kernel_of.v j) x ≡ 0ᴱ
  unfolding kernel_of
  kernel_of_checks s few x e j =
      value_at_times (v_length s) (neg (ev 𝓡 l (element j))) (coefficient w) x
      ∙ ap (λ (z : Element). neg (ev 𝓡 l (element j)) ⊗ z) (value_at_coefficient (v_length s) w x few ∙ e)
      ∙ mul_zero 𝓡 _

-- gs: the group's post numbers; ws: the check points that the group holds
module _ (gs ws : List Element) where
  -- the value of L, which hides the number: one at zero, zero at every post of the group
  pub L : Element → Element
  L x = ev 𝓡 (hiding gs) x

  -- f is L, and vj is -L(j) W, where W is one at zero and zero at every check point of the group
  abbrev pub kernel : Vector
  kernel = kernel_of (hiding gs) (hiding ws)

  pub L-at : All (λ r. L r ≡ 0ᴱ) gs
  unfolding L
  L-at = hiding_at_nodes gs

  pub kernel_c : kernel.c ≡ 0ᴱ
  kernel_c = kernel_of_c (hiding gs) (hiding ws)

  pub kernel_own : (i : ℕ) → L (element i) ≡ 0ᴱ → (m : ℕ) → kernel.v i m ≡ 0ᴱ
  unfolding L
  kernel_own = kernel_of_own (hiding gs) (hiding ws)

  pub kernel_constant : All (λ r. r ≢ 0ᴱ) gs → kernel.f 0 ≡ 1ᴱ
  kernel_constant a = kernel_of_constant (hiding gs) (hiding ws) (hiding_at_zero gs a)

  -- f has a coefficient more than the group has posts
  pub kernel_sums : (s : Shape) → length gs < f_length s → All (λ r. r ≢ 0ᴱ) ws → (j : ℕ) → sum_at s kernel j ≡ 0ᴱ
  kernel_sums s few a = kernel_of_sums (hiding gs) (hiding ws) s (omega (arith, length_hiding gs)) (hiding_at_zero ws a)

  -- a v has a coefficient more than the group has points
  pub kernel_checks : (s : Shape) → length ws < v_length s → All (λ w. (j : ℕ) → value_at (v_length s) (kernel.v j) w ≡ 0ᴱ) ws
  kernel_checks s few =
      all_map (λ w e. kernel_of_checks (hiding gs) (hiding ws) s (omega (arith, length_hiding ws)) w e) ws (hiding_at_nodes ws)
