-- Between the functions of the code: the tests of a load behind those of its frame. No theorem is stated with these.
use Rattle.std.specs.Prelude.{ℕ, List, [], ◌∷◌}
use Rattle.shape.specs.Marks.{empty}
use Rattle.shape.specs.Lengths.{row_length, triple_length}
use Rattle.refusal.specs.Refusal.{Test, ◌when◌}
use Rattle.refusal.specs.Conditions.{wrong_length, any_beyond}
use Rattle.session.specs.declared.Session.{Session}
use Rattle.session.specs.Sessions.{shape_of}
use Rattle.session.specs.Checks.{no_row, no_triple, wrong_mark_of}

abbrev pub load_row_own_tests : Session → ℕ → List ℕ → List Test
load_row_own_tests s r pack =
    5 when wrong_length pack (row_length (shape_of s)) ∷ 6 when no_row r ∷ 7 when wrong_mark_of s r empty ∷ 8 when any_beyond pack ∷ []

abbrev pub load_triple_place_tests : Session → ℕ → List ℕ → List Test
load_triple_place_tests s r pack = 5 when wrong_length pack (triple_length (shape_of s)) ∷ 6 when no_triple r ∷ []
