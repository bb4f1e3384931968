-- What the checks of an opening leave, by name; and back: where all that holds, they refuse nothing.
use Prim.Native.Nat.{ℕ, ◌≤◌}
use mathlib.Core.Path.{◌≡◌, refl, sym, ◌∙◌, ap, ap₂}
use mathlib.Core.Bool.{Bool, true, false, not}
use mathlib.Core.List.{List, [], ◌∷◌, ◌++◌}
use borrow.Author.Tests.{ltb-false, le-ltb, eq-eqb}
use lib.ListN.{length}
use Rattle.shape.specs.Bounds.{last_row_at}
use Rattle.shape.specs.Marks.{held}
use Rattle.refusal.specs.Refusal.{Test, ◌when◌, first, or_else, AllFail}
use Rattle.refusal.specs.Conditions.{wrong_length, any_beyond}
use Rattle.refusal.proofs.Laws.{Numbered, first_join, equal, or_else_zero, all_fail, not_refused}
use Rattle.refusal.proofs.Groups.{fail_parts}
use Rattle.session.specs.declared.Session.{Session}
use Rattle.session.specs.Sessions.{mark}
use Rattle.session.specs.Rows.{width, row_at}
use Rattle.session.specs.Checks.{frame_tests, no_row, wrong_mark_of}
use Rattle.session.specs.Between.{Framed}
use Rattle.session.proofs.Calls.{frame_passed}
use Rattle.opening.specs.Walking.{record_length, bad_record, too_few_of, disagree}
use Rattle.opening.specs.Opening.{open_checks_of, open_refusal_of}

-- ---- two groups of tests, one after the other

pub clear_parts : (xs ys : List Test) → Numbered xs → first (xs ++ ys) ≡ 0 → (first xs ≡ 0) × (first ys ≡ 0)
clear_parts xs ys n z = or_else_zero (first xs) (first ys) (sym (first_join xs ys n) ∙ z)

pub clear_join : (xs ys : List Test) → Numbered xs → first xs ≡ 0 → first ys ≡ 0 → first (xs ++ ys) ≡ 0
clear_join xs ys n e f = first_join xs ys n ∙ ap₂ or_else e f

-- ---- an opening's

-- 5 to 7
abbrev pub open_place : Session → ℕ → List ℕ → List Test
open_place s r blocks = 5 when wrong_length blocks (record_length s) ∷ 6 when no_row r ∷ 7 when wrong_mark_of s r held ∷ []

-- 8, of the row and of the record
abbrev pub open_numbers : Session → Bool → List ℕ → List Test
open_numbers s high blocks = 8 when high ∷ 8 when bad_record s blocks ∷ []

-- the tests of the walk over the row
abbrev pub walk_tests : Session → List ℕ → List ℕ → List Test
walk_tests s row blocks = 9 when too_few_of s row blocks ∷ 13 when disagree s row blocks ∷ []

pub walk_few : (s : Session) (row blocks : List ℕ) → too_few_of s row blocks ≡ true → first (walk_tests s row blocks) ≡ 9
walk_few s row blocks e = rw e refl

pub record OpenPlaced (s : Session) (r : ℕ) (blocks : List ℕ) : Type 0 where
  pub record_long : length blocks ≡ record_length s
  pub row_in : r ≤ last_row_at
  pub is_held : mark s r ≡ held

pub open_placed : (s : Session) (r : ℕ) (blocks : List ℕ) → AllFail (open_place s r blocks) → OpenPlaced s r blocks
open_placed s r blocks h =
    let (long, (low, (is, _))) = h in
    record { record_long = equal _ _ long; row_in = ltb-false last_row_at r low; is_held = equal _ _ is }

-- 1 to 8
pub record OpenChecked (s : Session) (rows : List ℕ) (r : ℕ) (blocks : List ℕ) : Type 0 where
  pub frame : first (frame_tests s rows) ≡ 0
  pub placed : OpenPlaced s r blocks
  pub row_low : any_beyond (row_at (width s) rows r) ≡ false
  pub record_low : bad_record s blocks ≡ false

module _ (s : Session) (rows : List ℕ) (r : ℕ) (blocks : List ℕ) where
  abbrev numbers : List Test
  numbers = open_numbers s (any_beyond (row_at (width s) rows r)) blocks

  pub open_checked : first (open_checks_of s rows r blocks) ≡ 0 → OpenChecked s rows r blocks
  open_checked z =
      let (frame, own) = clear_parts (frame_tests s rows) (open_place s r blocks ++ numbers) tt z in
      let (place, (high, (bad, _))) = fail_parts (open_place s r blocks) numbers (all_fail (open_place s r blocks ++ numbers) tt own) in
      record { frame = frame; placed = open_placed s r blocks place; row_low = high; record_low = bad }

  pub open_clear : OpenChecked s rows r blocks → first (open_checks_of s rows r blocks) ≡ 0
  open_clear h =
      clear_join (frame_tests s rows) (open_place s r blocks ++ numbers) tt h.frame
      (not_refused (open_place s r blocks ++ numbers) (
        ap not (eq-eqb (length blocks) (record_length s) h.placed.record_long),
        (le-ltb last_row_at r h.placed.row_in, (ap not (eq-eqb (mark s r) held h.placed.is_held), (h.row_low, (h.record_low, tt)))),
      ))

  pub open_framed : OpenChecked s rows r blocks → Framed s rows
  open_framed h = frame_passed s rows 0 (sym h.frame) refl

  -- where 1 to 8 refuse nothing, the walk decides
  pub open_walks : OpenChecked s rows r blocks → open_refusal_of s rows r blocks ≡ first (walk_tests s (row_at (width s) rows r) blocks)
  unfolding open_refusal_of
  open_walks h =
      let walk = walk_tests s (row_at (width s) rows r) blocks in
      first_join (open_checks_of s rows r blocks) walk tt ∙ ap (λ (k : ℕ). or_else k (first walk)) (open_clear h)

-- all of them
pub record RowOpened (s : Session) (rows : List ℕ) (r : ℕ) (blocks : List ℕ) : Type 0 where
  pub checked : OpenChecked s rows r blocks
  pub enough : too_few_of s (row_at (width s) rows r) blocks ≡ false
  pub agree : disagree s (row_at (width s) rows r) blocks ≡ false

pub row_opened : (s : Session) (rows : List ℕ) (r : ℕ) (blocks : List ℕ) → open_refusal_of s rows r blocks ≡ 0 → RowOpened s rows r blocks
unfolding open_refusal_of
row_opened s rows r blocks z =
    let walk = walk_tests s (row_at (width s) rows r) blocks in
    let (clear, walked) = clear_parts (open_checks_of s rows r blocks) walk tt z in
    let (few, (off, _)) = all_fail walk tt walked in
    record { checked = open_checked s rows r blocks clear; enough = few; agree = off }
