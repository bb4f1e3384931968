-- The refusal of a linear call from the checks that its code joins, and what holds where there is none.
use Prim.Native.Nat.{ℕ, ◌≤◌}
use mathlib.Core.Path.{◌≡◌, sym, ◌∙◌}
use mathlib.Core.List.{List, [], ◌∷◌, ◌++◌}
use Rattle.shape.specs.declared.Shape.{Shape}
use Rattle.shape.specs.Bounds.{last_row_at}
use Rattle.shape.specs.Lengths.{row_length, sums_at_of}
use Rattle.refusal.specs.Refusal.{Test, ◌when◌, first, or_else}
use Rattle.refusal.specs.Conditions.{beyond, any_beyond}
use Rattle.refusal.proofs.Groups.{stopped, went_on}
use Rattle.refusal.proofs.Endings.{refused, accepted}
use Rattle.session.specs.declared.Session.{Session}
use Rattle.session.specs.Sessions.{shape_of}
use Rattle.session.specs.Rows.{width, row_at, with_row, summed}
use Rattle.session.specs.Checks.{frame_tests, no_row}
use Rattle.session.specs.Between.{Sized, RowIn, Allows}
use Rattle.session.proofs.Passed.{row_below}
use Rattle.session.proofs.Calls.{stopped_at_frame, past_frame}
use Rattle.linear.specs.Between.{linear_places_of, linear_numbers_of}
use Rattle.linear.specs.Linear.{linear_marks_of, linear_refusal_of, linear_rows_of}
use Rattle.linear.proofs.Passed as Passed
use Rattle.linear.proofs.Passed.{Summed}

module _ (s : Session) (rows : List ℕ) (r a b scale fee : ℕ) where
  abbrev places : List Test
  places = linear_places_of r a b

  abbrev marks : List Test
  marks = linear_marks_of s.marks r a b

  abbrev numbers : List Test
  numbers = linear_numbers_of (shape_of s) rows a b scale fee

  pub linear_stopped : (f : ℕ) → f ≡ first (frame_tests s rows) → (f ≡ 0 → ⊥) → f ≡ linear_refusal_of s rows r a b scale fee
  unfolding linear_refusal_of
  linear_stopped f e n = stopped_at_frame s rows (places ++ (marks ++ numbers)) f e n

  -- behind the frame: places, then marks, then numbers
  module _ (f : ℕ) (e : f ≡ first (frame_tests s rows)) (n : f ≡ 0) (p : ℕ) (ep : p ≡ first places) where
    pub linear_misplaced : (p ≡ 0 → ⊥) → p ≡ linear_refusal_of s rows r a b scale fee
    unfolding linear_refusal_of
    linear_misplaced h = past_frame s rows (places ++ (marks ++ numbers)) f p e n (stopped places (marks ++ numbers) tt p ep h)

    module _ (z : p ≡ 0) (q : ℕ) (eq : q ≡ first marks) where
      pub linear_unmarked : (q ≡ 0 → ⊥) → q ≡ linear_refusal_of s rows r a b scale fee
      unfolding linear_refusal_of
      linear_unmarked h =
          past_frame s rows (places ++ (marks ++ numbers)) f q e n (went_on places (marks ++ numbers) tt p ep q z (stopped marks numbers tt q eq h))

      pub linear_checked : q ≡ 0 → (g : Shape) (x : ℕ) → g ≡ shape_of s → x ≡ first (linear_numbers_of g rows a b scale fee)
          → x ≡ linear_refusal_of s rows r a b scale fee
      unfolding linear_refusal_of
      linear_checked y g x eg ex =
          past_frame s rows (places ++ (marks ++ numbers)) f x e n
          (went_on places (marks ++ numbers) tt p ep x z (went_on marks numbers tt q eq x y (rw eg at ex)))

  pub linear_allows : (f : ℕ) → f ≡ linear_refusal_of s rows r a b scale fee → Allows f (r ≤ last_row_at)
  linear_allows f e = record { allowed = λ n. (Passed.summed s rows r a b scale fee (sym e ∙ n)).placed.row_in }

  pub linear_untouched : (f : ℕ) → f ≡ linear_refusal_of s rows r a b scale fee → (f ≡ 0 → ⊥) → rows ≡ linear_rows_of s rows r a b scale fee
  linear_untouched f e n =
      refused f (linear_refusal_of s rows r a b scale fee)
      (with_row (width s) r (summed (sums_at_of (shape_of s)) scale fee (row_at (width s) rows a) (row_at (width s) rows b)) rows) rows e n

  module _ (f : ℕ) (e : f ≡ linear_refusal_of s rows r a b scale fee) (n : f ≡ 0) where
    passed : Summed s rows r a b scale fee
    passed = Passed.summed s rows r a b scale fee (sym e ∙ n)

    module _ (g : Shape) (eg : g ≡ shape_of s) where
      pub linear_sized : Sized g rows
      linear_sized = rw eg passed.framed.sized

      pub linear_in : RowIn g r
      linear_in = row_below g r passed.placed.row_in

      pub linear_in_a : RowIn g a
      linear_in_a = row_below g a passed.placed.a_in

      pub linear_in_b : RowIn g b
      linear_in_b = row_below g b passed.placed.b_in

      pub linear_written : (out : List ℕ)
          → out ≡ with_row (row_length g) r (summed (sums_at_of g) scale fee (row_at (row_length g) rows a) (row_at (row_length g) rows b)) rows
          → out ≡ linear_rows_of s rows r a b scale fee
      linear_written out eo =
          accepted f (linear_refusal_of s rows r a b scale fee) out (with_row (width s) r (summed (sums_at_of (shape_of s)) scale fee (row_at (width s) rows a) (row_at (width s) rows b)) rows) rows
          e n (rw eg at eo)
