-- Document 01, "Calls on a session", Opening message: "The t+1 coefficients of a held row", into a lent list.
use Rattle.std.specs.Prelude.{ℕ, List, [], ◌∷◌, ◌++◌}
use Rattle.refusal.specs.Refusal.{Test, ◌when◌, first, outcome}
use Rattle.refusal.specs.Conditions.{wrong_length, any_beyond}
use Rattle.shape.specs.Marks.{held}
use Rattle.shape.specs.Lengths.{message_length}
use Rattle.session.specs.declared.Session.{Session}
use Rattle.session.specs.declared.Answer.{Answer}
use Rattle.session.specs.Sessions.{shape_of, answer, barred_from}
use Rattle.session.specs.Rows.{width, row_at, coefficients}
use Rattle.session.specs.Checks.{frame_tests, no_row, wrong_mark_of}

-- 1 to 8
abbrev pub message_checks_of : Session → List ℕ → ℕ → List ℕ → List Test
message_checks_of s rows r out =
    frame_tests s rows
    ++ (5 when wrong_length out (message_length (shape_of s)) ∷ 6 when no_row r ∷ 7 when wrong_mark_of s r held ∷ 8 when any_beyond (row_at (width s) rows r) ∷ [])

unfoldable pub message_early : Session → List ℕ → ℕ → List ℕ → ℕ
message_early s rows r out = first (message_checks_of s rows r out)

-- Document 02, (xi): "It refuses with 15, after 8, an opening message for a post outside the set, 0 and any above n too."
abbrev pub message_tests : Session → List ℕ → ℕ → ℕ → List ℕ → List Test
message_tests s rows r caller out = message_checks_of s rows r out ++ (15 when barred_from s r caller ∷ [])

unfoldable pub message_refusal_of : Session → List ℕ → ℕ → ℕ → List ℕ → ℕ
message_refusal_of s rows r caller out = first (message_tests s rows r caller out)

abbrev pub message_answer : Session → List ℕ → ℕ → ℕ → List ℕ → Answer
message_answer s rows r caller out = answer (message_refusal_of s rows r caller out) 0 s s

abbrev pub message_out_of : Session → List ℕ → ℕ → ℕ → List ℕ → List ℕ
message_out_of s rows r caller out = outcome (message_refusal_of s rows r caller out) (coefficients s (row_at (width s) rows r)) out
