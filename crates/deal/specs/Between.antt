-- Between the functions of the code, here and in `dealers`: what a deal asks of a row behind the frame. No theorem is stated with these.
use Rattle.std.specs.Prelude.{ℕ, List, [], ◌∷◌}
use Rattle.shape.specs.declared.Shape.{Shape}
use Rattle.shape.specs.Marks.{raw}
use Rattle.shape.specs.Lengths.{row_length}
use Rattle.refusal.specs.Refusal.{Test, ◌when◌}
use Rattle.refusal.specs.Conditions.{beyond, any_beyond}
use Rattle.session.specs.Rows.{row_at}
use Rattle.session.specs.Checks.{no_row, wrong_mark_in}

-- 6 to 8 of a deal, by the station's shape and the session's marks.
abbrev pub row_tests : Shape → List ℕ → List ℕ → ℕ → ℕ → List Test
row_tests g marks rows r c =
    6 when no_row r ∷ 7 when wrong_mark_in marks r raw ∷ 8 when beyond c ∷ 8 when any_beyond (row_at (row_length g) rows r) ∷ []
