-- Document 01, "From the factory", Loading: "A raw row goes to an empty row; a triple goes to three empty rows r, r+1, r+2".
use Rattle.std.specs.Prelude.{ℕ, ◌+◌, List, [], ◌∷◌, ◌++◌}
use Rattle.refusal.specs.Refusal.{Test, ◌when◌, first, outcome}
use Rattle.refusal.specs.Conditions.{wrong_length, any_beyond}
use Rattle.shape.specs.Marks.{empty, raw}
use Rattle.shape.specs.Lengths.{triple_length}
use Rattle.session.specs.declared.Session.{Session}
use Rattle.session.specs.declared.Answer.{Answer}
use Rattle.session.specs.Sessions.{shape_of, marked, loaded_triple, answer}
use Rattle.session.specs.Rows.{width, row_at, with_row}
use Rattle.session.specs.Checks.{frame_tests, no_row, no_triple, wrong_mark_of, wrong_marks_of}

-- The pack is one row's numbers; 8 covers the pack, not the row that it goes to.
abbrev pub load_row_tests : Session → List ℕ → ℕ → List ℕ → List Test
load_row_tests s rows r pack =
    frame_tests s rows
    ++ (5 when wrong_length pack (width s) ∷ 6 when no_row r ∷ 7 when wrong_mark_of s r empty ∷ 8 when any_beyond pack ∷ [])

unfoldable pub load_row_refusal_of : Session → List ℕ → ℕ → List ℕ → ℕ
load_row_refusal_of s rows r pack = first (load_row_tests s rows r pack)

abbrev pub load_row_answer : Session → List ℕ → ℕ → List ℕ → Answer
load_row_answer s rows r pack = answer (load_row_refusal_of s rows r pack) 0 (marked s r raw) s

abbrev pub load_row_rows_of : Session → List ℕ → ℕ → List ℕ → List ℕ
load_row_rows_of s rows r pack = outcome (load_row_refusal_of s rows r pack) (with_row (width s) r pack rows) rows

-- The pack is the post's three rows, l, l' and l'', one after the other.
abbrev pub load_triple_tests : Session → List ℕ → ℕ → List ℕ → List Test
load_triple_tests s rows r pack =
    frame_tests s rows
    ++ (5 when wrong_length pack (triple_length (shape_of s))
    ∷ 6 when no_triple r
    ∷ (wrong_marks_of s.marks r empty empty empty ++ (8 when any_beyond pack ∷ [])))

unfoldable pub load_triple_refusal_of : Session → List ℕ → ℕ → List ℕ → ℕ
load_triple_refusal_of s rows r pack = first (load_triple_tests s rows r pack)

abbrev pub load_triple_answer : Session → List ℕ → ℕ → List ℕ → Answer
load_triple_answer s rows r pack = answer (load_triple_refusal_of s rows r pack) 0 (loaded_triple s r) s

unfoldable pub with_triple : ℕ → ℕ → List ℕ → List ℕ → List ℕ
with_triple w r pack rows =
    with_row w (r + 2) (row_at w pack 2) (with_row w (r + 1) (row_at w pack 1) (with_row w r (row_at w pack 0) rows))

abbrev pub load_triple_rows_of : Session → List ℕ → ℕ → List ℕ → List ℕ
load_triple_rows_of s rows r pack = outcome (load_triple_refusal_of s rows r pack) (with_triple (width s) r pack rows) rows
