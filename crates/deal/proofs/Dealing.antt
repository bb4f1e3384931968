-- The refusal of a deal from the checks that its code joins, and what holds where there is none.
use Prim.Native.Nat.{ℕ, ◌≤◌}
use mathlib.Core.Path.{◌≡◌, sym, ◌∙◌}
use mathlib.Core.List.{List, [], ◌∷◌}
use borrow.Author.Tests.{ltb-false}
use Rattle.shape.specs.declared.Shape.{Shape}
use Rattle.shape.specs.Bounds.{last_row_at}
use Rattle.shape.specs.Marks.{raw}
use Rattle.shape.specs.Lengths.{row_length, sums_at_of}
use Rattle.refusal.specs.Refusal.{Test, ◌when◌, first, or_else}
use Rattle.refusal.specs.Conditions.{beyond, any_beyond}
use Rattle.refusal.proofs.Laws.{all_fail}
use Rattle.refusal.proofs.Groups.{chained}
use Rattle.refusal.proofs.Endings.{refused, accepted}
use Rattle.session.specs.declared.Session.{Session}
use Rattle.session.specs.Sessions.{shape_of}
use Rattle.session.specs.Rows.{width, row_at, with_row, plus_sums}
use Rattle.session.specs.Checks.{frame_tests, no_row, wrong_mark_in}
use Rattle.session.specs.Between.{Sized, RowIn, Allows}
use Rattle.session.proofs.Passed.{row_below}
use Rattle.session.proofs.Calls.{stopped_at_frame, past_frame}
use Rattle.deal.specs.Between.{row_tests}
use Rattle.deal.specs.Deal.{deal_refusal_of, deal_rows_of}
use Rattle.deal.proofs.Passed.{Dealt, dealt}

pub row_passed : (g : Shape) (marks rows : List ℕ) (r c : ℕ) → first (row_tests g marks rows r c) ≡ 0 → r ≤ last_row_at
row_passed g marks rows r c z = ltb-false last_row_at r (all_fail (row_tests g marks rows r c) tt z).0

module _ (s : Session) (rows : List ℕ) (r c : ℕ) where
  abbrev own : List Test
  own = row_tests (shape_of s) s.marks rows r c

  pub deal_stopped : (f : ℕ) → f ≡ first (frame_tests s rows) → (f ≡ 0 → ⊥) → f ≡ deal_refusal_of s rows r c
  unfolding deal_refusal_of
  deal_stopped f e n = stopped_at_frame s rows own f e n

  -- so too in a turn of `dealers`
  pub deal_checked : (g : Shape) (f z : ℕ) → g ≡ shape_of s → f ≡ first (frame_tests s rows) → f ≡ 0 → z ≡ first (row_tests g s.marks rows r c)
      → z ≡ deal_refusal_of s rows r c
  unfolding deal_refusal_of
  deal_checked g f z eg e n h = past_frame s rows own f z e n (rw eg at h)

  pub deal_allows : (f : ℕ) → f ≡ deal_refusal_of s rows r c → Allows f (r ≤ last_row_at)
  deal_allows f e = record { allowed = λ n. (dealt s rows r c (sym e ∙ n)).placed.row_in }

  pub deal_untouched : (f : ℕ) → f ≡ deal_refusal_of s rows r c → (f ≡ 0 → ⊥) → rows ≡ deal_rows_of s rows r c
  deal_untouched f e n = refused f (deal_refusal_of s rows r c) (with_row (width s) r (plus_sums (sums_at_of (shape_of s)) c (row_at (width s) rows r)) rows) rows e n

  module _ (f : ℕ) (e : f ≡ deal_refusal_of s rows r c) (n : f ≡ 0) where
    passed : Dealt s rows r c
    passed = dealt s rows r c (sym e ∙ n)

    module _ (g : Shape) (eg : g ≡ shape_of s) where
      pub deal_sized : Sized g rows
      deal_sized = rw eg passed.framed.sized

      pub deal_in : RowIn g r
      deal_in = row_below g r passed.placed.row_in

      pub deal_written : (out : List ℕ)
          → out ≡ with_row (row_length g) r (plus_sums (sums_at_of g) c (row_at (row_length g) rows r)) rows → out ≡ deal_rows_of s rows r c
      deal_written out eo =
          accepted f (deal_refusal_of s rows r c) out (with_row (width s) r (plus_sums (sums_at_of (shape_of s)) c (row_at (width s) rows r)) rows) rows
          e n (rw eg at eo)
