-- The refusals of the two loads from the checks that their code joins, and what holds where there is none.
use Prim.Native.Nat.{ℕ, ◌≤◌}
use mathlib.Core.Path.{◌≡◌, sym, ◌∙◌}
use mathlib.Core.List.{List, [], ◌∷◌, ◌++◌}
use native.Mathlib.Nat.{mul-le-mul_right}
use borrow.Author.Tests.{ltb-false}
use lib.ListN.{length}
use Rattle.shape.specs.declared.Shape.{Shape}
use Rattle.shape.specs.Bounds.{last_row_at, last_triple}
use Rattle.shape.specs.Marks.{empty}
use Rattle.shape.specs.Lengths.{Valid, row_length, triple_length}
use Rattle.refusal.specs.Refusal.{Test, ◌when◌, first, or_else}
use Rattle.refusal.specs.Conditions.{wrong_length, any_beyond}
use Rattle.refusal.proofs.Laws.{first_join, or_else_zero, all_fail}
use Rattle.refusal.proofs.Groups.{chained, stopped, went_on}
use Rattle.refusal.proofs.Endings.{refused, accepted}
use Rattle.session.specs.declared.Session.{Session}
use Rattle.session.specs.Sessions.{shape_of}
use Rattle.session.specs.Rows.{width, with_row}
use Rattle.session.specs.Checks.{frame_tests, no_row, no_triple, wrong_mark_of, wrong_marks_of}
use Rattle.session.specs.Between.{Sized, RowIn, TripleIn, Allows}
use Rattle.session.proofs.Passed.{row_below}
use Rattle.session.proofs.Calls.{frame_passed, stopped_at_frame, past_frame}
use Rattle.load.specs.Between.{load_row_own_tests, load_triple_place_tests}
use Rattle.load.specs.Load.{load_row_refusal_of, load_row_rows_of, load_triple_refusal_of, with_triple, load_triple_rows_of}
use Rattle.load.proofs.Passed.{RowLoaded, row_loaded, TripleLoaded, triple_loaded_lem}

module _ (s : Session) (rows : List ℕ) (r : ℕ) (pack : List ℕ) where
  pub load_row_stopped : (f : ℕ) → f ≡ first (frame_tests s rows) → (f ≡ 0 → ⊥) → f ≡ load_row_refusal_of s rows r pack
  unfolding load_row_refusal_of
  load_row_stopped f e n = stopped_at_frame s rows (load_row_own_tests s r pack) f e n

  pub load_row_valid : (f : ℕ) → f ≡ first (frame_tests s rows) → f ≡ 0 → Valid (shape_of s)
  load_row_valid f e z = (frame_passed s rows f e z).sized.valid

  pub load_row_checked : (f z : ℕ) → f ≡ first (frame_tests s rows) → f ≡ 0 → z ≡ first (load_row_own_tests s r pack)
      → z ≡ load_row_refusal_of s rows r pack
  unfolding load_row_refusal_of
  load_row_checked f z e n ez = past_frame s rows (load_row_own_tests s r pack) f z e n ez

  pub load_row_allows : (f : ℕ) → f ≡ load_row_refusal_of s rows r pack → Allows f (r ≤ last_row_at)
  load_row_allows f e = record { allowed = λ n. (row_loaded s rows r pack (sym e ∙ n)).row_in }

  pub load_row_untouched : (f : ℕ) → f ≡ load_row_refusal_of s rows r pack → (f ≡ 0 → ⊥) → rows ≡ load_row_rows_of s rows r pack
  load_row_untouched f e n = refused f (load_row_refusal_of s rows r pack) (with_row (width s) r pack rows) rows e n

  module _ (f : ℕ) (e : f ≡ load_row_refusal_of s rows r pack) (n : f ≡ 0) where
    row_passed : RowLoaded s rows r pack
    row_passed = row_loaded s rows r pack (sym e ∙ n)

    pub load_row_row : r ≤ last_row_at
    load_row_row = row_passed.row_in

    module _ (g : Shape) (eg : g ≡ shape_of s) where
      pub load_row_sized : Sized g rows
      load_row_sized = rw eg row_passed.framed.sized

      pub load_row_in : RowIn g r
      load_row_in = row_below g r load_row_row

      pub load_row_long : length pack ≡ row_length g
      load_row_long = rw eg row_passed.pack_long

      pub load_row_written : (out : List ℕ) → out ≡ with_row (row_length g) r pack rows → out ≡ load_row_rows_of s rows r pack
      load_row_written out eo = accepted f (load_row_refusal_of s rows r pack) out (with_row (width s) r pack rows) rows e n (rw eg at eo)

  abbrev placed : List Test
  placed = load_triple_place_tests s r pack

  abbrev marks : List Test
  marks = wrong_marks_of s.marks r empty empty empty

  abbrev late : List Test
  late = marks ++ (8 when any_beyond pack ∷ [])

  pub load_triple_stopped : (f : ℕ) → f ≡ first (frame_tests s rows) → (f ≡ 0 → ⊥) → f ≡ load_triple_refusal_of s rows r pack
  unfolding load_triple_refusal_of
  load_triple_stopped f e n = stopped_at_frame s rows (placed ++ late) f e n

  -- p is the refusal for the pack's length and the triple's place
  module _ (f p : ℕ) (e : f ≡ first (frame_tests s rows)) (n : f ≡ 0) (ep : p ≡ first placed) where
    pub load_triple_misplaced : (p ≡ 0 → ⊥) → p ≡ load_triple_refusal_of s rows r pack
    unfolding load_triple_refusal_of
    load_triple_misplaced h = past_frame s rows (placed ++ late) f p e n (stopped placed late tt p ep h)

    module _ (q7 : ℕ) (h : p ≡ 0) (e7 : r ≤ last_triple → q7 ≡ first marks) where
      marked : q7 ≡ first marks
      marked = e7 (ltb-false last_triple r (all_fail placed tt (sym ep ∙ h)).1.0)

      pub load_triple_full : (q7 ≡ 0 → ⊥) → q7 ≡ load_triple_refusal_of s rows r pack
      unfolding load_triple_refusal_of
      load_triple_full y =
          past_frame s rows (placed ++ late) f q7 e n (went_on placed late tt p ep q7 h (stopped marks (8 when any_beyond pack ∷ []) tt q7 marked y))

      pub load_triple_checked : (q8 : ℕ) → q7 ≡ 0 → q8 ≡ first (8 when any_beyond pack ∷ []) → q8 ≡ load_triple_refusal_of s rows r pack
      unfolding load_triple_refusal_of
      load_triple_checked q8 z e8 =
          past_frame s rows (placed ++ late) f q8 e n (went_on placed late tt p ep q8 h (went_on marks (8 when any_beyond pack ∷ []) tt q7 marked q8 z e8))

  pub load_triple_allows : (f : ℕ) → f ≡ load_triple_refusal_of s rows r pack → Allows f (r ≤ last_triple)
  load_triple_allows f e = record { allowed = λ n. (triple_loaded_lem s rows r pack (sym e ∙ n)).triple_in }

  pub load_triple_untouched : (f : ℕ) → f ≡ load_triple_refusal_of s rows r pack → (f ≡ 0 → ⊥) → rows ≡ load_triple_rows_of s rows r pack
  load_triple_untouched f e n = refused f (load_triple_refusal_of s rows r pack) (with_triple (width s) r pack rows) rows e n

  module _ (f : ℕ) (e : f ≡ load_triple_refusal_of s rows r pack) (n : f ≡ 0) where
    triple_passed : TripleLoaded s rows r pack
    triple_passed = triple_loaded_lem s rows r pack (sym e ∙ n)

    pub load_triple_row : r ≤ last_triple
    load_triple_row = triple_passed.triple_in

    module _ (g : Shape) (eg : g ≡ shape_of s) where
      pub load_triple_sized : Sized g rows
      load_triple_sized = rw eg triple_passed.framed.sized

      pub load_triple_in : TripleIn g r
      load_triple_in = record { triple_in = load_triple_row; room = mul-le-mul_right (row_length g) load_triple_row }

      pub load_triple_long : length pack ≡ triple_length g
      load_triple_long = rw eg triple_passed.pack_long

      pub load_triple_written : (out : List ℕ) → out ≡ with_triple (row_length g) r pack rows → out ≡ load_triple_rows_of s rows r pack
      load_triple_written out eo =
          accepted f (load_triple_refusal_of s rows r pack) out (with_triple (width s) r pack rows) rows e n (rw eg at eo)
