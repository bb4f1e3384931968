-- What the factory writes for a post is its row of the draw's vector.
use Prim.Native.Nat.{ℕ, zero, suc, ◌+◌, ◌*◌, ◌-◌, ◌/◌, ◌%◌, ◌≤◌, ◌<◌}
use mathlib.Core.Path.{◌≡◌, refl, sym, ◌∙◌, ap, ap₂, fun_ext}
use mathlib.Core.List.{List, [], ◌∷◌, ◌++◌}
use native.Mathlib.Nat.{add-zero, zero-mul, mul_comm, div-lt_iff_lt-mul}
use native.Mathlib.Decide.{dec_le}
use native.Mathlib.Omega.{arith}
use lib.Dec.{lit<}
use lib.ListN.{length, take, drop, get_or}
use lib.Seq.{drop-cons}
use Rattle.field.specs.Modulus.{p}
use Rattle.field.specs.Arithmetic.{sum}
use Rattle.field.specs.Element.{Element, element}
use Rattle.field.proofs.Expression.{A, B, 𝟘, ◌:+◌, Same}
use Rattle.field.proofs.Solver.{solve}
use Rattle.field.proofs.Elements.{𝓡, element_of_number, number_below}
use Rattle.poly.specs.Polynomial.{value, element_value}
use Rattle.poly.specs.Counting.{Elements}
use Rattle.poly.proofs.Bounds.{value_below}
use Rattle.poly.proofs.Numbers.{to_elements, elements_value}
use Rattle.shape.specs.declared.Shape.{Shape}
use Rattle.shape.specs.declared.Points.{Points}
use Rattle.shape.specs.Lengths.{f_length, v_length, checks_length, draw_length}
use Rattle.shape.specs.Row.{point_at}
use Rattle.parts.specs.Draw as Draw
use Rattle.parts.specs.Draw.{drawn_f, drawn_v, each_from, sum_of, part}
use Rattle.parts.proofs.Laws.{drawn_room}
use Rattle.vectors.specs.Vector.{Vector, firsts, numbers, value_at, check_of, sum_at, row_of, vector_of}
use Rattle.vectors.proofs.Linear.{sum_number}
open 𝓡 use {add as ◌⊕◌, zero as 0ᴱ}

infixl 65 ◌⊕◌
elements_of_numbers : (k : ℕ) (a : ℕ → Element) → to_elements (numbers k a) ≡ firsts k a
unfolding numbers firsts
elements_of_numbers zero a = refl
elements_of_numbers (suc k) a = ap₂ ◌∷◌ (element_of_number (a 0)) (elements_of_numbers k (λ i. a (suc i)))

pub value_numbers : (k : ℕ) (a : ℕ → Element) (x : ℕ) → value (numbers k a) x ≡ (value_at k a (element x)).0
unfolding value_at
value_numbers k a x =
    sym (number_below (value (numbers k a) x) (value_below (numbers k a) x))
    ∙ ap (λ (z : Element). z.0)
    (elements_value (numbers k a) x ∙ ap (λ (l : List Element). element_value l (element x)) (elements_of_numbers k a))

pub each_numbers : (j n : ℕ) (f : ℕ → ℕ) (a : ℕ → Element) → ((i : ℕ) → i < n → f (j + i) ≡ (a i).0) → each_from j n f ≡ numbers n a
unfolding each_from numbers
each_numbers j zero f a h = refl
each_numbers j (suc n) f a h =
    ap₂ ◌∷◌ (ap f (sym (add-zero j)) ∙ h 0 (omega arith))
    (each_numbers (suc j) n f (λ i. a (suc i)) (λ i l. ap f (next i) ∙ h (suc i) (omega arith)))
  where
    next : (i : ℕ) → suc j + i ≡ j + suc i
    next i = omega arith

pub element_at : (xs : List ℕ) → Elements xs → (i : ℕ) → get_or xs i 0 < p
element_at [] e i = lit< tt
element_at (x ∷ xs) e zero = e.0
element_at (x ∷ xs) e (suc i) = element_at xs e.1 i

slice_numbers : (k a : ℕ) (xs : List ℕ) → Elements xs → a + k ≤ length xs
    → take k (drop a xs) ≡ numbers k (λ i. element (get_or xs (a + i) 0))
unfolding numbers
slice_numbers zero a xs e h = refl
slice_numbers (suc k) a xs e h =
    ap (take (suc k)) (drop-cons xs a 0 (omega arith))
    ∙ ap₂ ◌∷◌
    (sym (number_below (get_or xs a 0) (element_at xs e a)) ∙ ap (λ (z : ℕ). (element (get_or xs z 0)).0) (sym (add-zero a)))
    (slice_numbers k (suc a) xs e (omega arith)
    ∙ ap (numbers k) (fun_ext (λ i. ap (λ (z : ℕ). element (get_or xs z 0)) (next i))))
  where
    next : (i : ℕ) → suc a + i ≡ a + suc i
    next i = omega arith

none : (k : ℕ) → (1 ≤ k → ⊥) → k ≡ 0
none k n = omega arith

module _ (s : Shape) (draw : List ℕ) (low : Elements draw) (size : length draw ≡ draw_length s) where
  abbrev S : Vector
  S = vector_of s draw

  f_numbers : drawn_f s draw ≡ numbers (f_length s) S.f
  unfolding vector_of
  f_numbers =
      slice_numbers (f_length s) 0 draw low (omega (arith, size))
      ∙ ap (numbers (f_length s)) (fun_ext (λ i. ap (λ (z : ℕ). element (get_or draw z 0)) (first i)))
    where
      first : (i : ℕ) → 0 + i ≡ i
      first i = omega arith

  v_numbers_lem : (j : ℕ) → j - 1 < s.n → drawn_v s draw j ≡ numbers (v_length s) (S.v j)
  unfolding vector_of
  v_numbers_lem j h = slice_numbers (v_length s) (f_length s + (j - 1) * v_length s) draw low (drawn_room s draw size j h)

  first_of : (k : ℕ) (a : ℕ → Element) → 1 ≤ k → get_or (numbers k a) 0 0 ≡ (a 0).0
  unfolding numbers
  first_of zero a h = absurd (omega arith)
  first_of (suc k) a h = refl

  pub part_is_row : (i : ℕ) (w : Points) → i - 1 < s.n → part s i w draw ≡ row_of s i w S
  unfolding part row_of vector_of Same
  part_is_row i w h =
      ap₂ ◌++◌ (v_numbers_lem i h)
      (ap₂ ◌++◌ (each_numbers 0 (checks_length s) (Draw.check_of s w draw) _ checks) (each_numbers 1 s.n (sum_of s draw) _ sums))
    where
      one_more : (j : ℕ) → 1 + j ≡ suc j
      one_more j = omega arith

      checks : (m : ℕ) → m < checks_length s → Draw.check_of s w draw (0 + m) ≡ (check_of s w S m).0
      checks m l =
          ap (Draw.check_of s w draw) zero_more
          ∙ ap (λ (q : List ℕ). value q (point_at w (m % s.points))) (v_numbers_lem (suc (m / s.points)) (omega (arith, post)))
          ∙ value_numbers (v_length s) _ (point_at w (m % s.points))
        where
          zero_more : 0 + m ≡ m
          zero_more = omega arith

          some : 0 < s.points
          some = go (dec_le 1 s.points)
            where
              go : Dec (1 ≤ s.points) → 0 < s.points
              go (yes y) = y
              go (no n) = absurd (omega (arith, l, ap (λ (k : ℕ). k * s.n) (none s.points n) ∙ zero-mul s.n))

          post : m / s.points < s.n
          post = (div-lt_iff_lt-mul some).1 (rw (mul_comm s.points s.n) at l)

      join : (x y : Element) → sum x.0 y.0 ≡ (x ⊕ y ⊕ 0ᴱ).0
      join x y =
          sum_number x y.0 ∙ ap (λ (z : Element). (x ⊕ z).0) (element_of_number y)
          ∙ ap (λ (z : Element). z.0) (solve 𝓡 (x ∷ y ∷ []) (A :+ B) (A :+ B :+ 𝟘) refl)

      sums : (j : ℕ) → j < s.n → sum_of s draw (1 + j) ≡ (sum_at s S j).0
      sums j l =
          ap₂ sum
          (ap (λ (q : List ℕ). get_or q 0 0) (v_numbers_lem (1 + j) (omega arith))
          ∙ first_of (v_length s) _ (omega arith)
          ∙ ap (λ (m : ℕ). (S.v m 0).0) (one_more j))
          (ap (λ (q : List ℕ). value q (1 + j)) f_numbers ∙ value_numbers (f_length s) _ (1 + j)
          ∙ ap (λ (m : ℕ). (value_at (f_length s) S.f (element m)).0) (one_more j))
          ∙ join (S.v (suc j) 0) (value_at (f_length s) S.f (element (suc j)))
