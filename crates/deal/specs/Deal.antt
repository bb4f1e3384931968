-- Document 01, "Calls on a session", Deal: "A post adds c to m1..mn of a raw row, which becomes held."
use Rattle.std.specs.Prelude.{ℕ, List, [], ◌∷◌, ◌++◌}
use Rattle.refusal.specs.Refusal.{Test, ◌when◌, first, outcome}
use Rattle.refusal.specs.Conditions.{beyond, any_beyond}
use Rattle.shape.specs.Marks.{raw, held}
use Rattle.session.specs.declared.Session.{Session}
use Rattle.session.specs.declared.Answer.{Answer}
use Rattle.session.specs.Sessions.{marked, answer}
use Rattle.session.specs.Rows.{width, sums_at_of, row_at, with_row, plus_sums}
use Rattle.session.specs.Checks.{frame_tests, no_row, wrong_mark_of}

abbrev pub deal_tests : Session → List ℕ → ℕ → ℕ → List Test
deal_tests s rows r c =
    frame_tests s rows
    ++ (6 when no_row r ∷ 7 when wrong_mark_of s r raw ∷ 8 when beyond c ∷ 8 when any_beyond (row_at (width s) rows r) ∷ [])

unfoldable pub deal_refusal_of : Session → List ℕ → ℕ → ℕ → ℕ
deal_refusal_of s rows r c = first (deal_tests s rows r c)

abbrev pub deal_answer : Session → List ℕ → ℕ → ℕ → Answer
deal_answer s rows r c = answer (deal_refusal_of s rows r c) 0 (marked s r held) s

abbrev pub deal_rows_of : Session → List ℕ → ℕ → ℕ → List ℕ
deal_rows_of s rows r c =
    outcome (deal_refusal_of s rows r c) (with_row (width s) r (plus_sums (sums_at_of s) c (row_at (width s) rows r)) rows) rows
