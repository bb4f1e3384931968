-- Document 01, "Where each refusal is checked": the tests that the calls on a session share.
use Rattle.std.specs.Prelude.{ℕ, ◌+◌, Bool, not, List, [], ◌∷◌, ◌++◌, ltb, eqb}
use Rattle.shape.specs.Bounds.{last_row_at, last_triple}
use Rattle.shape.specs.Lengths.{rows_length}
use Rattle.refusal.specs.Refusal.{Test, ◌when◌}
use Rattle.refusal.specs.Conditions.{wrong_length}
use Rattle.session.specs.declared.Session.{Session}
use Rattle.session.specs.Sessions.{points_of, shape_of, session_tests, mark_in}

-- 1 to 4 on the session handed in, whose fields may hold anything, and 5 for its list of rows.
abbrev pub frame_tests : Session → List ℕ → List Test
frame_tests s rows = session_tests s.n s.t s.post s.points (points_of s) ++ (5 when wrong_length rows (rows_length (shape_of s)) ∷ [])

-- 6: row above 95, or a triple's first above 93.
abbrev pub no_row : ℕ → Bool
no_row r = ltb last_row_at r

abbrev pub no_triple : ℕ → Bool
no_triple r = ltb last_triple r

-- 7: the mark of row r isn't what the call needs.
abbrev pub wrong_mark_in : List ℕ → ℕ → ℕ → Bool
wrong_mark_in marks r m = not (eqb (mark_in marks r) m)

abbrev pub wrong_mark_of : Session → ℕ → ℕ → Bool
wrong_mark_of s r m = wrong_mark_in s.marks r m

-- 7, of the marks that a call needs on a triple's three rows.
abbrev pub wrong_marks_of : List ℕ → ℕ → ℕ → ℕ → ℕ → List Test
wrong_marks_of marks r a b c =
    7 when wrong_mark_in marks r a ∷ 7 when wrong_mark_in marks (r + 1) b ∷ 7 when wrong_mark_in marks (r + 2) c ∷ []
