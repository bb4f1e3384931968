-- What the checks of a finish's second call leave, by name; and back.
use Prim.Native.Nat.{ℕ, ◌+◌, ◌≤◌, ◌<◌}
use mathlib.Core.Path.{◌≡◌, refl, sym, ap}
use mathlib.Core.Bool.{Bool, false, not}
use mathlib.Core.List.{List, [], ◌∷◌, ◌++◌}
use borrow.Author.Tests.{ltb-false, le-ltb, eq-eqb}
use lib.Dec.{eqb}
use Rattle.field.specs.Modulus.{p}
use Rattle.shape.specs.Bounds.{last_triple}
use Rattle.shape.specs.Marks.{held, further, collected as collectedMark}
use Rattle.refusal.specs.Refusal.{Test, ◌when◌, first, AllFail}
use Rattle.refusal.specs.Conditions.{any_beyond}
use Rattle.refusal.proofs.Laws.{Numbered, equal, not_refused}
use Rattle.refusal.proofs.Groups.{fail_parts}
use Rattle.refusal.proofs.Elements.{below_p, element_test}
use Rattle.session.specs.declared.Session.{Session}
use Rattle.session.specs.Sessions.{mark, factor_a_of, factor_b_of, opened_a_of, opened_b_of}
use Rattle.session.specs.Rows.{width, row_at}
use Rattle.session.specs.Checks.{frame_tests, no_triple}
use Rattle.session.specs.Between.{Framed}
use Rattle.session.proofs.Calls.{allowed}
use Rattle.product_masks.proofs.Joining.{joined}
use Rattle.multiply.specs.Multiply.{multiply_marks_of, remembered_numbers_of, multiply_refusal_of}

-- 6 and 7
pub record MultiplyPlaced (s : Session) (r : ℕ) : Type 0 where
  pub triple_in : r ≤ last_triple
  pub first_mark : mark s r ≡ collectedMark
  pub second_mark : mark s (r + 1) ≡ further
  pub third_mark : mark s (r + 2) ≡ further
  pub a_held : mark s (factor_a_of s r) ≡ held
  pub b_held : mark s (factor_b_of s r) ≡ held

-- 8
pub record MultiplyLow (s : Session) (rows : List ℕ) (r : ℕ) : Type 0 where
  pub a_element : opened_a_of s r < p
  pub b_element : opened_b_of s r < p
  pub first_low : any_beyond (row_at (width s) rows r) ≡ false
  pub second_low : any_beyond (row_at (width s) rows (r + 1)) ≡ false
  pub third_low : any_beyond (row_at (width s) rows (r + 2)) ≡ false

pub record Multiplied (s : Session) (rows : List ℕ) (r : ℕ) : Type 0 where
  pub framed : Framed s rows
  pub placed : MultiplyPlaced s r
  pub numbers : MultiplyLow s rows r

-- 6 and 7
abbrev pub multiply_early : Session → ℕ → List Test
multiply_early s r = 6 when no_triple r ∷ multiply_marks_of s r

pub multiply_placed : (s : Session) (r : ℕ) → AllFail (multiply_early s r) → MultiplyPlaced s r
multiply_placed s r h =
    let (low, (one, (two, (three, (fa, (fb, _)))))) = h in
    record {
      triple_in = ltb-false last_triple r low;
      first_mark = equal _ _ one;
      second_mark = equal _ _ two;
      third_mark = equal _ _ three;
      a_held = equal _ _ fa;
      b_held = equal _ _ fb;
    }

-- 8 of the two numbers and of the triple's rows, whether each is high
abbrev pub multiply_tests : (a b first second third : Bool) → List Test
multiply_tests a b first second third = 8 when a ∷ 8 when b ∷ 8 when first ∷ 8 when second ∷ 8 when third ∷ []

pub multiplied : (s : Session) (rows : List ℕ) (r : ℕ) → multiply_refusal_of s rows r ≡ 0 → Multiplied s rows r
unfolding multiply_refusal_of
multiplied s rows r z =
    let numbers = remembered_numbers_of (width s) rows r (opened_a_of s r) (opened_b_of s r) in
    let (frame, own) = allowed s rows (multiply_early s r ++ numbers) tt 0 (sym z) refl in
    let (early, (a, (b, (l, (l', (l'', _)))))) = fail_parts (multiply_early s r) numbers own in
    record {
      framed = frame;
      placed = multiply_placed s r early;
      numbers =
          record { a_element = below_p _ a; b_element = below_p _ b; first_low = l; second_low = l'; third_low = l'' };
    }

-- and back
pub multiply_clear : (s : Session) (rows : List ℕ) (r : ℕ) → first (frame_tests s rows) ≡ 0 → MultiplyPlaced s r → MultiplyLow s rows r
    → multiply_refusal_of s rows r ≡ 0
unfolding multiply_refusal_of
multiply_clear s rows r frame k w =
    let numbers = remembered_numbers_of (width s) rows r (opened_a_of s r) (opened_b_of s r) in
    clear_join (frame_tests s rows) (multiply_early s r ++ numbers) tt frame
    (clear_join (multiply_early s r) numbers tt
    (not_refused (multiply_early s r) (
      le-ltb last_triple r k.triple_in,
      (is r collectedMark k.first_mark, (is (r + 1) further k.second_mark, (is (r + 2) further k.third_mark, (is (factor_a_of s r) held k.a_held, (is (factor_b_of s r) held k.b_held, tt))))),
    ))
    (not_refused numbers (
      element_test _ w.a_element,
      (element_test _ w.b_element, (w.first_low, (w.second_low, (w.third_low, tt)))),
    )))
  where
    is : (x m : ℕ) → mark s x ≡ m → not (eqb (mark s x) m) ≡ false
    is x m e = ap not (eq-eqb (mark s x) m e)

    clear_join : (xs ys : List Test) → Numbered xs → first xs ≡ 0 → first ys ≡ 0 → first (xs ++ ys) ≡ 0
    clear_join xs ys n e f = sym (joined xs ys n 0 0 0 (sym e) (sym f) refl)
