-- Between the functions of the code: the tests of a linear call behind those of its frame, in groups. No theorem is stated with these.
use Rattle.std.specs.Prelude.{ℕ, List, [], ◌∷◌}
use Rattle.shape.specs.declared.Shape.{Shape}
use Rattle.shape.specs.Lengths.{row_length}
use Rattle.refusal.specs.Refusal.{Test, ◌when◌}
use Rattle.refusal.specs.Conditions.{beyond, any_beyond}
use Rattle.session.specs.Rows.{row_at}
use Rattle.session.specs.Checks.{no_row}

-- 6
abbrev pub linear_places_of : ℕ → ℕ → ℕ → List Test
linear_places_of r a b = 6 when no_row r ∷ 6 when no_row a ∷ 6 when no_row b ∷ []

-- 8
abbrev pub linear_numbers_of : Shape → List ℕ → ℕ → ℕ → ℕ → ℕ → List Test
linear_numbers_of g rows a b scale fee =
    8 when beyond scale
    ∷ 8 when beyond fee
    ∷ 8 when any_beyond (row_at (row_length g) rows a)
    ∷ 8 when any_beyond (row_at (row_length g) rows b)
    ∷ []
