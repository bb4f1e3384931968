-- What stands in a post's row: a polynomial passes at the check point exactly where it agrees there with its sender's.
use Prim.Native.Nat.{ℕ, zero, suc, ◌+◌, ◌*◌, ◌-◌, ◌/◌, ◌%◌, ◌<◌}
use mathlib.Core.Path.{◌≡◌, refl, sym, ◌∙◌, ap, ap₂}
use mathlib.Core.Bool.{Bool, true, false, cond}
use mathlib.Core.List.{List, ◌++◌}
use native.Mathlib.Nat.{mul-le-mul_right, suc-mul, mul_comm, mul-add-div_right, div-eq_of_lt, mul-add-mod_self_right, mod-eq_of_lt}
use native.Mathlib.Omega.{arith}
use borrow.Author.Tests.{eq-eqb, ne_eqb, eqb-true}
use lib.Dec.{eqb}
use lib.ListN.{length, get_or, get_or-append}
use lib.Seq.{get_or-append-add}
use Rattle.field.specs.Element.{Element, element}
use Rattle.poly.specs.Polynomial.{value}
use Rattle.shape.specs.declared.Shape.{Shape}
use Rattle.shape.specs.declared.Points.{Points}
use Rattle.shape.specs.Lengths.{v_length, checks_length, checks_at_of, sums_at_of}
use Rattle.shape.specs.Row.{point_at, check_value, public_sum_of}
use Rattle.session.specs.declared.Session.{Session}
use Rattle.session.specs.Sessions.{points_of, shape_of}
use Rattle.accepting.specs.Accepting as Accepting
use Rattle.accepting.specs.Accepting.{every_below}
use Rattle.accepting.proofs.Every.{every_at, every_is}
use Rattle.opening.specs.Walking.{sent, accepts}
use Rattle.vectors.specs.Vector.{Vector, numbers, value_at, check_of, sum_at, row_of}
use Rattle.vectors.specs.Claims.{held_row, Truly, AcceptedAgrees, TrueAccepted}
use Rattle.vectors.proofs.Linear.{length_numbers}
use Rattle.vectors.proofs.Draws.{value_numbers}

-- the j-th of some numbers
pub number_at : (k : ℕ) (a : ℕ → Element) (j : ℕ) → j < k → get_or (numbers k a) j 0 ≡ (a j).0
unfolding numbers
number_at zero a j h = absurd (omega arith)
number_at (suc k) a zero h = refl
number_at (suc k) a (suc j) h = number_at k (λ i. a (suc i)) j (omega arith)

-- the check value and the public sum of post j + 1 in a row
module _ (g : Shape) (i : ℕ) (w : Points) (S : Vector) (j : ℕ) (h : j < g.n) where
  abbrev a : List ℕ
  a = numbers (v_length g) (S.v i)

  abbrev b : List ℕ
  b = numbers (checks_length g) (check_of g w S)

  abbrev m : List ℕ
  m = numbers g.n (sum_at g S)

  pub check_of_row : (x : ℕ) → x < g.points → check_value g (row_of g i w S) (suc j) x ≡ (value_at (v_length g) (S.v (suc j)) (element (point_at w x))).0
  unfolding row_of
  check_of_row x l =
      ap (λ (z : ℕ). get_or (a ++ (b ++ m)) z 0) place ∙ get_or-append-add a (b ++ m) at 0
      ∙ get_or-append b m 0 at (omega (arith, length_numbers (checks_length g) (check_of g w S), inside))
      ∙ number_at (checks_length g) (check_of g w S) at inside
      ∙ ap₂ (λ (p q : ℕ). (value_at (v_length g) (S.v (suc p)) (element (point_at w q))).0) post point
    where
      at : ℕ
      at = j * g.points + x

      some : 0 < g.points
      some = omega arith

      inside : at < checks_length g
      inside = omega (arith, mul-le-mul_right g.points h, suc-mul j g.points, mul_comm g.points g.n)

      post : at / g.points ≡ j
      post = mul-add-div_right some j x ∙ ap (λ (z : ℕ). j + z) (div-eq_of_lt l) ∙ omega arith

      point : at % g.points ≡ x
      point = mul-add-mod_self_right j g.points x ∙ mod-eq_of_lt l

      place : checks_at_of g + ((suc j - 1) * g.points + x) ≡ length a + at
      place = ap (λ (z : ℕ). checks_at_of g + (z * g.points + x)) before ∙ omega (arith, length_numbers (v_length g) (S.v i))
        where
          before : suc j - 1 ≡ j
          before = omega arith

  pub sum_of_row : public_sum_of g (row_of g i w S) (suc j) ≡ (sum_at g S j).0
  unfolding row_of
  sum_of_row =
      ap (λ (z : ℕ). get_or (a ++ (b ++ m)) z 0) place ∙ get_or-append-add a (b ++ m) (checks_length g + j) 0
      ∙ ap (λ (z : ℕ). get_or (b ++ m) (z + j) 0) (sym (length_numbers (checks_length g) (check_of g w S)))
      ∙ get_or-append-add b m j 0 ∙ number_at g.n (sum_at g S) j h
    where
      place : sums_at_of g + (suc j - 1) ≡ length a + (checks_length g + j)
      place = omega (arith, length_numbers (v_length g) (S.v i))

module _ (s : Session) (S : Vector) (blocks : List ℕ) where
  abbrev row : List ℕ
  row = held_row s S

  abbrev own : ℕ → List ℕ
  own j = numbers (v_length (shape_of s)) (S.v j)

  abbrev at : ℕ → ℕ
  at x = point_at (points_of s) x

  check_is : (j : ℕ) → j < s.n → (x : ℕ) → x < s.points → check_value (shape_of s) row (suc j) x ≡ value (own (suc j)) (at x)
  check_is j h x l =
      check_of_row (shape_of s) s.post (points_of s) S j h x l
      ∙ sym (value_numbers (v_length (shape_of s)) (S.v (suc j)) (at x))

  passes : (j : ℕ) → j < s.n → accepts s row blocks (suc j) ≡ true → (x : ℕ) → x < s.points
      → value (sent s row blocks (suc j)) (at x) ≡ value (own (suc j)) (at x)
  unfolding Accepting.accepts
  passes j h e x l = eqb-true _ _ (every_at s.points test x l (go (eqb (length (sent s row blocks (suc j))) 0) e)) ∙ check_is j h x l
    where
      test : ℕ → Bool
      test x = eqb (value (sent s row blocks (suc j)) (at x)) (check_value (shape_of s) row (suc j) x)

      go : (b : Bool) → cond b false (every_below s.points test) ≡ true → every_below s.points test ≡ true
      go true g = let z : ◌≡◌ {A = ℕ} 0 1 = cc in absurd (omega arith)
      go false g = g

  pub true_passes : (j : ℕ) → j < s.n → Truly s S blocks (suc j) → accepts s row blocks (suc j) ≡ true
  unfolding Accepting.accepts
  true_passes j h e =
      rw (e, ne_eqb (length (own (suc j))) 0 (λ z. omega (arith, length_numbers (v_length (shape_of s)) (S.v (suc j)))))
      (every_is s.points (λ x. eqb (value (own (suc j)) (at x)) (check_value (shape_of s) row (suc j) x))
      (λ x l. eq-eqb (value (own (suc j)) (at x)) (check_value (shape_of s) row (suc j) x) (sym (check_is j h x l))))

pub accepted_agrees : AcceptedAgrees
accepted_agrees s S blocks zero lo hi e x l = absurd (omega arith)
accepted_agrees s S blocks (suc j) lo hi e x l = passes s S blocks j (omega arith) e x l

pub true_accepted : TrueAccepted
true_accepted s S blocks zero lo hi e = absurd (omega arith)
true_accepted s S blocks (suc j) lo hi e = true_passes s S blocks j (omega arith) e
