-- The other draw is the draw moved by a multiple of a kernel that the listed posts do not see.
use Prim.Native.Nat.{ℕ, zero, suc, ◌+◌, ◌*◌, ◌-◌, ◌/◌, ◌%◌, ◌≤◌, ◌<◌}
use mathlib.Core.Path.{◌≡◌, refl, sym, ◌∙◌, ap, ap₂, subst, fun_ext}
use mathlib.Core.Bool.{Bool, true, false, cond}
use mathlib.Core.List.{List, [], ◌∷◌, ◌++◌}
use native.Mathlib.Nat.{suc-mul}
use native.Mathlib.Omega.{arith}
use lib.ListN.{length, take, drop, get_or, length-drop, take-append-drop, drop_of_length-le}
use lib.Seq.{drop-drop, length-take-le}
use Rattle.field.specs.Modulus.{p}
use Rattle.field.specs.Arithmetic.{difference, sum, product}
use Rattle.field.specs.Element.{Element, element}
use Rattle.field.proofs.Modular.{sum_below}
use Rattle.field.proofs.Expression.{A, B, C, 𝟘, ◌:*◌, ◌:-◌, :-◌, Same}
use Rattle.field.proofs.Solver.{solve}
use Rattle.field.proofs.Elements.{𝓡, number_below, element_zero, element_sum, element_product, element_difference}
use Rattle.poly.specs.Counting.{Elements}
use Rattle.poly.specs.Polynomial.{value}
use Rattle.poly.proofs.Coefficients.{ev}
use Rattle.poly.proofs.Numbers.{to_elements, element_value_lem}
use Rattle.shape.specs.declared.Shape.{Shape}
use Rattle.shape.specs.Lengths.{f_length, v_length, draw_length}
use Rattle.session.specs.Rows.{combined}
use Rattle.parts.specs.Draw.{drawn_f}
use Rattle.parts.proofs.Laws.{drawn_room, elements_drop}
use Rattle.vectors.specs.Vector.{Vector}
use Rattle.secrecy.proofs.Kernel.{coefficient, kernel_of, kernel_of_f, kernel_of_v}
use Rattle.secrecy.proofs.Shift.{shift, flat, flat_f, flat_rest, flat_v}
use Rattle.secrecy.proofs.Triples.{shift_empty}
use Rattle.vanishing.specs.Vanishing.{vanishing, distinct}
use Rattle.otherdraw.specs.Other.{no_posts, other_f, other_v, other_vs, at_zero_of, moved}
use Rattle.vanishing.proofs.Vanish.{length_vanishing}
open 𝓡 use {add as ◌⊕◌, mul as ◌⊗◌, neg, zero as 0ᴱ}

infixl 65 ◌⊕◌
infixl 70 ◌⊗◌
-- ---- moved lists

shift_append : (fl : ℕ → Element) (δ : Element) (a b : List ℕ) → shift fl δ (a ++ b) ≡ shift fl δ a ++ shift (λ m. fl (length a + m)) δ b
unfolding shift
shift_append fl δ [] b = ap (λ (f : ℕ → Element). shift f δ b) (fun_ext (λ m. ap fl (omega arith)))
shift_append fl δ (x ∷ a) b =
    ap (λ (l : List ℕ). (element x ⊕ δ ⊗ fl 0).0 ∷ l)
    (shift_append (λ m. fl (suc m)) δ a b ∙ ap (λ (f : ℕ → Element). shift (λ m. fl (suc m)) δ a ++ shift f δ b) (fun_ext (λ m. ap fl (omega arith))))

number_from : (x : ℕ) (z : Element) → x < p → z ≡ element x → z.0 ≡ x
number_from x z h e = ap (λ (y : Element). y.0) e ∙ number_below x h

shift_combined : (fl : ℕ → Element) (δ : Element) (a : ℕ) (xs ys : List ℕ) → length xs ≡ length ys
    → ((m : ℕ) → m < length xs → δ ⊗ fl m ≡ element a ⊗ element (get_or ys m 0)) → shift fl δ xs ≡ combined a xs ys
unfolding shift combined
shift_combined fl δ a [] ys e h = refl
shift_combined fl δ a (x ∷ xs) [] e h = absurd (omega arith)
shift_combined fl δ a (x ∷ xs) (y ∷ ys) e h =
    ap₂ ◌∷◌
    (number_from (sum x (product a y)) _ (sum_below x (product a y))
    (ap (λ (z : Element). element x ⊕ z) (h 0 (omega arith) ∙ sym (element_product a y)) ∙ sym (element_sum x (product a y))))
    (shift_combined (λ m. fl (suc m)) δ a xs ys (let q : suc (length xs) ≡ suc (length ys) = e in omega arith) (λ m l. h (suc m) (omega arith)))

shift_nothing : (fl : ℕ → Element) (δ : Element) (xs : List ℕ) → Elements xs → ((m : ℕ) → m < length xs → δ ⊗ fl m ≡ 0ᴱ) → shift fl δ xs ≡ xs
unfolding shift
shift_nothing fl δ [] low h = refl
shift_nothing fl δ (x ∷ xs) low h =
    ap₂ ◌∷◌ (number_from x _ low.0 (ap (λ (z : Element). element x ⊕ z) (h 0 (omega arith)) ∙ 𝓡.add_zero (element x)))
    (shift_nothing (λ m. fl (suc m)) δ xs low.1 (λ m l. h (suc m) (omega arith)))

get_or_elements : (xs : List ℕ) (m : ℕ) → get_or (to_elements xs) m 0ᴱ ≡ element (get_or xs m 0)
get_or_elements [] m = sym element_zero
get_or_elements (x ∷ xs) zero = refl
get_or_elements (x ∷ xs) (suc m) = get_or_elements xs m

-- ---- the other draw

module _ (s : Shape) (posts points draw : List ℕ) (secret wanted : ℕ) (long : length draw ≡ draw_length s) (low : Elements draw) where
  L : List ℕ
  L = vanishing (f_length s) posts

  W : List ℕ
  W = vanishing (v_length s) (distinct points)

  -- nothing for the check points where no post is listed
  unfoldable pub unseen_v : List Element
  unseen_v = cond (no_posts posts) [] (to_elements (vanishing (v_length s) (distinct points)))

  unfoldable pub unseen_kernel : Vector
  unseen_kernel = kernel_of (to_elements (vanishing (f_length s) posts)) unseen_v

  δ : Element
  δ = element wanted ⊕ neg (element secret)

  a : ℕ
  a = difference wanted secret

  a_is : element a ≡ δ
  unfolding a δ
  a_is = element_difference wanted secret

  unseen_none : no_posts posts ≡ true → unseen_v ≡ []
  unfolding unseen_v
  unseen_none e = ap (λ (b : Bool). cond b [] (to_elements (vanishing (v_length s) (distinct points)))) e

  pub unseen_is : no_posts posts ≡ false → unseen_v ≡ to_elements (vanishing (v_length s) (distinct points))
  unfolding unseen_v
  unseen_is e = ap (λ (b : Bool). cond b [] (to_elements (vanishing (v_length s) (distinct points)))) e

  unseen_some : no_posts posts ≡ false → (m : ℕ) → coefficient unseen_v m ≡ element (get_or W m 0)
  unfolding W
  unseen_some e m = ap (λ (l : List Element). coefficient l m) (unseen_is e) ∙ get_or_elements W m

  fl : ℕ → Element
  fl = flat s unseen_kernel

  -- f
  f_moved : (m : ℕ) → m < f_length s → δ ⊗ fl m ≡ element a ⊗ element (get_or L m 0)
  unfolding fl L unseen_kernel
  f_moved m h =
      ap₂ ◌⊗◌ (sym a_is) (flat_f s unseen_kernel m h ∙ kernel_of_f (to_elements L) unseen_v m ∙ get_or_elements L m)

  length_f : length (drawn_f s draw) ≡ f_length s
  length_f = length-take-le (f_length s) draw (omega (arith, long))

  other_f_lem : shift fl δ (drawn_f s draw) ≡ other_f s posts points a draw
  unfolding L
  other_f_lem =
      shift_combined fl δ a (drawn_f s draw) L (length_f ∙ sym (length_vanishing (f_length s) posts)) (λ m h. f_moved m (omega (arith, length_f)))

  -- by how much v of post j + 1 changes at the place m
  v_moved : (j m : ℕ) → m < v_length s → δ ⊗ fl (f_length s + (suc j - 1) * v_length s + m) ≡ neg (δ ⊗ element (value L (suc j))) ⊗ coefficient unseen_v m
  unfolding fl L unseen_kernel Same
  v_moved j m h =
      ap (λ (z : Element). δ ⊗ z) (flat_v s unseen_kernel j m h ∙ kernel_of_v (to_elements L) unseen_v (suc j) m)
      ∙ ap (λ (z : Element). δ ⊗ (neg z ⊗ coefficient unseen_v m)) (sym (element_value_lem L (suc j)))
      ∙ solve 𝓡 (δ ∷ element (value L (suc j)) ∷ coefficient unseen_v m ∷ []) (A :* (:- B :* C)) (:- (A :* B) :* C) refl

  at_zero : (j : ℕ) → element (at_zero_of s posts points a draw j) ≡ neg (δ ⊗ element (value L j))
  unfolding L Same
  at_zero j =
      element_difference 0 (product a (value L j)) ∙ ap₂ (λ (x y : Element). x ⊕ neg y) element_zero (element_product a (value L j))
      ∙ ap (λ (x : Element). 0ᴱ ⊕ neg (x ⊗ element (value L j))) a_is ∙ solve 𝓡 (δ ∷ element (value L j) ∷ []) (𝟘 :- A :* B) (:- (A :* B)) refl

  -- with no posts the v's stay
  none_moved : unseen_v ≡ [] → shift (λ m. fl (f_length s + m)) δ (drop (f_length s) draw) ≡ drop (f_length s) draw
  unfolding fl L unseen_kernel Same
  none_moved e =
      shift_nothing (λ m. fl (f_length s + m)) δ (drop (f_length s) draw) (elements_drop (f_length s) draw low) (λ m h.
      ap (λ (z : Element). δ ⊗ z)
      (flat_rest s unseen_kernel m ∙ kernel_of_v (to_elements L) unseen_v (suc (m / v_length s)) (m % v_length s)
      ∙ ap (λ (l : List Element). neg (ev 𝓡 (to_elements L) (element (suc (m / v_length s)))) ⊗ coefficient l (m % v_length s)) e)
      ∙ solve 𝓡 (δ ∷ ev 𝓡 (to_elements L) (element (suc (m / v_length s))) ∷ []) (A :* (:- B :* 𝟘)) 𝟘 refl)

  -- the v's of m posts behind the first j
  vs_moved : ((m : ℕ) → coefficient unseen_v m ≡ element (get_or W m 0)) → (m j : ℕ) → j + m ≡ s.n
      → shift (λ i. fl (f_length s + j * v_length s + i)) δ (drop (f_length s + j * v_length s) draw) ≡ other_vs s posts points a draw (suc j) m
  unfolding other_vs W
  vs_moved same zero j e =
      ap (shift (λ i. fl (f_length s + j * v_length s + i)) δ) (drop_of_length-le draw end) ∙ shift_empty _ _
    where
      every : j * v_length s ≡ s.n * v_length s
      every = let q : j ≡ s.n = omega (arith, e) in ap (λ (x : ℕ). x * v_length s) q

      end : length draw ≤ f_length s + j * v_length s
      end = omega (arith, long, every)
  vs_moved same (suc m) j e =
      ap (shift (λ i. fl (X + i)) δ) (sym (take-append-drop k rest) ∙ ap (λ (l : List ℕ). take k rest ++ l) (drop-drop k X draw))
      ∙ shift_append (λ i. fl (X + i)) δ (take k rest) (drop (X + k) draw)
      ∙ ap₂ ◌++◌ here
      (ap₂ (λ (f : ℕ → Element) (x : ℕ). shift f δ (drop x draw)) (fun_ext (λ i. ap fl (omega (arith, piece, next)))) next
      ∙ vs_moved same m (suc j) (omega (arith, e)))
    where
      k : ℕ
      k = v_length s

      X : ℕ
      X = f_length s + j * v_length s

      rest : List ℕ
      rest = drop X draw

      next : X + k ≡ f_length s + suc j * v_length s
      next = omega (arith, suc-mul j (v_length s))

      before : suc j - 1 ≡ j
      before = omega arith

      room : f_length s + j * v_length s + v_length s ≤ length draw
      room = subst (λ (x : ℕ). f_length s + x * v_length s + v_length s ≤ length draw) before (drawn_room s draw long (suc j) (omega (arith, e)))

      piece : length (take k rest) ≡ k
      piece = length-take-le k rest (omega (arith, room, length-drop X draw))

      here : shift (λ i. fl (X + i)) δ (take k rest) ≡ other_v s posts points a draw (suc j)
      here =
          shift_combined (λ i. fl (X + i)) δ (at_zero_of s posts points a draw (suc j)) (take k rest) W (piece ∙ sym (length_vanishing (v_length s) (distinct points)))
          (λ i h.
          ap (λ (x : ℕ). δ ⊗ fl (f_length s + x * v_length s + i)) (sym before) ∙ v_moved j i (omega (arith, h, piece))
          ∙ ap₂ ◌⊗◌ (sym (at_zero (suc j))) (same i))
          ∙ ap (λ (x : ℕ). combined (at_zero_of s posts points a draw (suc j)) (take (v_length s) (drop (f_length s + x * v_length s) draw)) W) (sym before)

  pub other_is_shifted : moved s posts points (difference wanted secret) draw ≡ shift (flat s unseen_kernel) (element wanted ⊕ neg (element secret)) draw
  unfolding moved a δ fl
  other_is_shifted = sym (whole ∙ ap₂ ◌++◌ other_f_lem (behind (no_posts posts) refl))
    where
      zero_behind : f_length s + 0 * v_length s ≡ f_length s
      zero_behind = omega arith

      whole : shift fl δ draw ≡ shift fl δ (drawn_f s draw) ++ shift (λ m. fl (f_length s + m)) δ (drop (f_length s) draw)
      whole =
          ap (shift fl δ) (sym (take-append-drop (f_length s) draw)) ∙ shift_append fl δ (take (f_length s) draw) (drop (f_length s) draw)
          ∙ ap (λ (x : ℕ). shift fl δ (drawn_f s draw) ++ shift (λ m. fl (x + m)) δ (drop (f_length s) draw)) length_f

      behind : (b : Bool) → no_posts posts ≡ b
          → shift (λ m. fl (f_length s + m)) δ (drop (f_length s) draw) ≡ cond b (drop (f_length s) draw) (other_vs s posts points a draw 1 s.n)
      behind true e = none_moved (unseen_none e)
      behind false e =
          ap (λ (x : ℕ). shift (λ m. fl (x + m)) δ (drop x draw)) (sym zero_behind) ∙ vs_moved (unseen_some e) s.n 0 (omega arith)
