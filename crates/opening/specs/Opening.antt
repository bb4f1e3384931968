-- Document 01, "Calls on a session", Open, with document 02, (iv): its refusals and its answer. "Session and rows don't change."
use Rattle.std.specs.Prelude.{ℕ, List, [], ◌∷◌, ◌++◌}
use Rattle.refusal.specs.Refusal.{Test, ◌when◌, first}
use Rattle.refusal.specs.Conditions.{wrong_length, any_beyond}
use Rattle.shape.specs.Marks.{held}
use Rattle.session.specs.declared.Session.{Session}
use Rattle.session.specs.declared.Answer.{Answer}
use Rattle.session.specs.Sessions.{answer}
use Rattle.session.specs.Rows.{width, row_at}
use Rattle.session.specs.Checks.{frame_tests, no_row, wrong_mark_of}
use Rattle.opening.specs.Walking.{record_length, bad_record, too_few_of, disagree, opened}

-- 6 to 8
abbrev pub row_checks_of : Session → List ℕ → ℕ → List ℕ → List Test
row_checks_of s rows r blocks =
    6 when no_row r ∷ 7 when wrong_mark_of s r held ∷ 8 when any_beyond (row_at (width s) rows r) ∷ 8 when bad_record s blocks ∷ []

-- 1 to 8
abbrev pub open_checks_of : Session → List ℕ → ℕ → List ℕ → List Test
open_checks_of s rows r blocks =
    frame_tests s rows ++ (5 when wrong_length blocks (record_length s) ∷ row_checks_of s rows r blocks)

-- 9, and 13 "after 9"
abbrev pub open_tests : Session → List ℕ → ℕ → List ℕ → List Test
open_tests s rows r blocks =
    open_checks_of s rows r blocks ++ (9 when too_few_of s (row_at (width s) rows r) blocks ∷ 13 when disagree s (row_at (width s) rows r) blocks ∷ [])

unfoldable pub open_refusal_of : Session → List ℕ → ℕ → List ℕ → ℕ
open_refusal_of s rows r blocks = first (open_tests s rows r blocks)

abbrev pub open_answer : Session → List ℕ → ℕ → List ℕ → Answer
open_answer s rows r blocks = answer (open_refusal_of s rows r blocks) (opened s (row_at (width s) rows r) blocks) s s
