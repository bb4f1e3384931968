-- Between the functions of the code: the tests of an opening message behind those of its frame. No theorem is stated with these.
use Rattle.std.specs.Prelude.{ℕ, List, [], ◌∷◌}
use Rattle.shape.specs.Marks.{held}
use Rattle.shape.specs.Lengths.{message_length}
use Rattle.refusal.specs.Refusal.{Test, ◌when◌}
use Rattle.refusal.specs.Conditions.{wrong_length, any_beyond}
use Rattle.session.specs.declared.Session.{Session}
use Rattle.session.specs.Sessions.{shape_of}
use Rattle.session.specs.Rows.{width, row_at}
use Rattle.session.specs.Checks.{no_row, wrong_mark_of}

abbrev pub message_own_tests : Session → List ℕ → ℕ → List ℕ → List Test
message_own_tests s rows r out =
    5 when wrong_length out (message_length (shape_of s))
    ∷ 6 when no_row r
    ∷ 7 when wrong_mark_of s r held
    ∷ 8 when any_beyond (row_at (width s) rows r)
    ∷ []
