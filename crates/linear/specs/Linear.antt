-- Document 01, "Calls on a session", Linear: "a plus s times b, s a public element, element by element over whole rows, into
-- an empty row, which becomes held. a and b are held and may be the same row." Document 02, (i): "The linear call gets one more
-- element, the fee, added to m1..mn of the new row and to nothing else. Whoever calls it today passes 0."
use Rattle.std.specs.Prelude.{ℕ, List, [], ◌∷◌, ◌++◌}
use Rattle.refusal.specs.Refusal.{Test, ◌when◌, first, outcome}
use Rattle.refusal.specs.Conditions.{beyond, any_beyond}
use Rattle.shape.specs.Marks.{empty, held}
use Rattle.session.specs.declared.Session.{Session}
use Rattle.session.specs.declared.Answer.{Answer}
use Rattle.session.specs.Sessions.{summed_row, answer}
use Rattle.session.specs.Rows.{width, sums_at_of, row_at, with_row, summed}
use Rattle.session.specs.Checks.{frame_tests, no_row, wrong_mark_in}

-- 7, of the three rows' marks.
abbrev pub linear_marks_of : List ℕ → ℕ → ℕ → ℕ → List Test
linear_marks_of marks r a b = 7 when wrong_mark_in marks r empty ∷ 7 when wrong_mark_in marks a held ∷ 7 when wrong_mark_in marks b held ∷ []

-- 8 covers the scale, the fee and the rows a and b, not the row that is written.
abbrev pub linear_tests : Session → List ℕ → ℕ → ℕ → ℕ → ℕ → ℕ → List Test
linear_tests s rows r a b scale fee =
    frame_tests s rows
    ++ (6 when no_row r
    ∷ 6 when no_row a
    ∷ 6 when no_row b
    ∷ (linear_marks_of s.marks r a b
    ++ (8 when beyond scale
    ∷ 8 when beyond fee
    ∷ 8 when any_beyond (row_at (width s) rows a)
    ∷ 8 when any_beyond (row_at (width s) rows b)
    ∷ [])))

unfoldable pub linear_refusal_of : Session → List ℕ → ℕ → ℕ → ℕ → ℕ → ℕ → ℕ
linear_refusal_of s rows r a b scale fee = first (linear_tests s rows r a b scale fee)

abbrev pub linear_answer : Session → List ℕ → ℕ → ℕ → ℕ → ℕ → ℕ → Answer
linear_answer s rows r a b scale fee = answer (linear_refusal_of s rows r a b scale fee) 0 (summed_row s r (a ∷ b ∷ [])) s

abbrev pub linear_rows_of : Session → List ℕ → ℕ → ℕ → ℕ → ℕ → ℕ → List ℕ
linear_rows_of s rows r a b scale fee =
    outcome (linear_refusal_of s rows r a b scale fee)
    (with_row (width s) r (summed (sums_at_of s) scale fee (row_at (width s) rows a) (row_at (width s) rows b)) rows)
    rows
