-- The refusal of a finish's second call from the groups of checks that its code asks, what holds where there is none, and how it ends.
use Prim.Native.Nat.{ℕ, ◌+◌, ◌≤◌, ◌<◌}
use mathlib.Core.Path.{◌≡◌, sym, ◌∙◌}
use mathlib.Core.List.{List, [], ◌∷◌, ◌++◌}
use native.Mathlib.Omega.{arith}
use borrow.Author.Tests.{ltb-false}
use Rattle.field.specs.Arithmetic.{product}
use Rattle.shape.specs.declared.Shape.{Shape}
use Rattle.shape.specs.Bounds.{last_triple}
use Rattle.shape.specs.Lengths.{row_length, sums_at_of}
use Rattle.refusal.specs.Refusal.{Test, ◌when◌, first}
use Rattle.refusal.proofs.Laws.{all_fail}
use Rattle.refusal.proofs.Groups.{stopped, went_on}
use Rattle.refusal.proofs.Endings.{refused, accepted}
use Rattle.session.specs.declared.Session.{Session}
use Rattle.session.specs.Sessions.{shape_of, opened_a_of, opened_b_of}
use Rattle.session.specs.Rows.{width, row_at, with_row, summed}
use Rattle.session.specs.Checks.{frame_tests, no_triple}
use Rattle.session.specs.Between.{Framed, Sized, TripleIn, Allows}
use Rattle.session.proofs.Calls.{frame_passed, stopped_at_frame, past_frame}
use Rattle.multiply.specs.Multiply.{product_row, with_product, multiply_marks_of, remembered_numbers_of, multiply_own_of, multiply_refusal_of, multiply_rows_of}
use Rattle.product_masks.proofs.Passed.{triple_below}
use Rattle.multiply.proofs.Passed.{multiplied}

pub triple_96 : (r : ℕ) → r ≤ last_triple → r < 96
triple_96 r h = omega arith

-- the marks stop the call's own checks, or the numbers decide
module _ (s : Session) (rows : List ℕ) (r u : ℕ) (eu : u ≡ first (multiply_marks_of s r)) where
  abbrev numbers : List Test
  numbers = remembered_numbers_of (width s) rows r (opened_a_of s r) (opened_b_of s r)

  pub own_stopped : (u ≡ 0 → ⊥) → u ≡ first (multiply_own_of s rows r)
  own_stopped = stopped (multiply_marks_of s r) numbers tt u eu

  pub own_asked : u ≡ 0 → (g : Shape) (y_a_of y_b_of v : ℕ) → y_a_of ≡ opened_a_of s r → y_b_of ≡ opened_b_of s r → g ≡ shape_of s
      → v ≡ first (remembered_numbers_of (row_length g) rows r y_a_of y_b_of) → v ≡ first (multiply_own_of s rows r)
  own_asked z g y_a_of y_b_of v eA eB eg ev = went_on (multiply_marks_of s r) numbers tt u eu v z (rw (eg, eA, eB) at ev)

module _ (s : Session) (rows : List ℕ) (r : ℕ) where
  abbrev place : List Test
  place = 6 when no_triple r ∷ []

  -- the frame stops the call, or the place does, or it goes on
  module _ (f : ℕ) (e : f ≡ first (frame_tests s rows)) where
    pub multiply_stopped : (f ≡ 0 → ⊥) → f ≡ multiply_refusal_of s rows r
    unfolding multiply_refusal_of
    multiply_stopped = stopped_at_frame s rows (place ++ multiply_own_of s rows r) f e

    module _ (z : f ≡ 0) (q : ℕ) (g : q ≡ first (6 when no_triple r ∷ [])) where
      pub multiply_misplaced : (q ≡ 0 → ⊥) → q ≡ multiply_refusal_of s rows r
      unfolding multiply_refusal_of
      multiply_misplaced n = past_frame s rows (place ++ multiply_own_of s rows r) f q e z (stopped place (multiply_own_of s rows r) tt q g n)

      pub multiply_placed : q ≡ 0 → Framed s rows × (r ≤ last_triple)
      multiply_placed y = (frame_passed s rows f e z, ltb-false last_triple r (all_fail place tt (sym g ∙ y)).0)

      pub multiply_checked : q ≡ 0 → (w : ℕ) → w ≡ first (multiply_own_of s rows r) → w ≡ multiply_refusal_of s rows r
      unfolding multiply_refusal_of
      multiply_checked y w h = past_frame s rows (place ++ multiply_own_of s rows r) f w e z (went_on place (multiply_own_of s rows r) tt q g w y h)

  pub multiply_allows : (f : ℕ) → f ≡ multiply_refusal_of s rows r → Allows f (r ≤ last_triple)
  multiply_allows f e = record { allowed = λ n. (multiplied s rows r (sym e ∙ n)).placed.triple_in }

  pub multiply_untouched : (f : ℕ) → f ≡ multiply_refusal_of s rows r → (f ≡ 0 → ⊥) → rows ≡ multiply_rows_of s rows r
  multiply_untouched f e n = refused f (multiply_refusal_of s rows r) (with_product s (opened_a_of s r) (opened_b_of s r) r rows) rows e n

  module _ (f : ℕ) (e : f ≡ multiply_refusal_of s rows r) (z : f ≡ 0) where
    pub multiply_row : r ≤ last_triple
    multiply_row = (multiplied s rows r (sym e ∙ z)).placed.triple_in

    module _ (g : Shape) (eg : g ≡ shape_of s) where
      pub multiply_sized : Sized g rows
      multiply_sized = rw eg (multiplied s rows r (sym e ∙ z)).framed.sized

      pub multiply_in : TripleIn g r
      multiply_in = triple_below g r multiply_row

      pub multiply_written : (out : List ℕ) (y_a_of y_b_of : ℕ) → y_a_of ≡ opened_a_of s r → y_b_of ≡ opened_b_of s r
          → out ≡ with_row (row_length g) (r + 2)
          (summed (sums_at_of g) y_b_of (product y_a_of y_b_of)
          (summed (sums_at_of g) y_a_of 0 (row_at (row_length g) rows (r + 2)) (row_at (row_length g) rows (r + 1))) (row_at (row_length g) rows r)) rows
          → out ≡ multiply_rows_of s rows r
      unfolding with_product product_row
      multiply_written out y_a_of y_b_of eA eB eo =
          accepted f (multiply_refusal_of s rows r) out (with_product s (opened_a_of s r) (opened_b_of s r) r rows) rows e z (rw (eg, eA, eB) at eo)
