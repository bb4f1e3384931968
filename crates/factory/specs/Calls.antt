-- Document 01, "From the factory": the factory's calls.
use Rattle.std.specs.Prelude.{ℕ, ◌*◌, Bool, false, ◌||◌, List, [], ◌∷◌, ◌++◌}
use Rattle.field.specs.Arithmetic.{difference}
use Rattle.shape.specs.Lengths.{shape, checks_length, draw_length, triple_draw_length, packs_length}
use Rattle.refusal.specs.Refusal.{Test, ◌when◌, first, outcome}
use Rattle.refusal.specs.Conditions.{wrong_length, beyond, any_beyond, bad_point, station_tests}
use Rattle.packs.specs.Packs.{packs, triple_packs}
use Rattle.factory.specs.declared.Number.{Number}

-- 4, of every number of the list of check points as it was lent
unfoldable pub any_bad_point : List ℕ → Bool
any_bad_point [] = false
any_bad_point (w ∷ ws) = bad_point w || any_bad_point ws

-- 4, then 5 for the check points, the draw and the list that is written, then 8
abbrev pub lists_tests : ℕ → List ℕ → List ℕ → ℕ → List ℕ → ℕ → List Test
lists_tests n ws draw drawn out written =
    4 when any_bad_point ws
    ∷ 5 when wrong_length ws n
    ∷ 5 when wrong_length draw drawn
    ∷ 5 when wrong_length out written
    ∷ 8 when any_beyond draw
    ∷ []

abbrev pub factory_tests : ℕ → ℕ → ℕ → List ℕ → List ℕ → ℕ → List ℕ → ℕ → List Test
factory_tests n t points ws draw drawn out written = station_tests n t points ++ lists_tests (checks_length (shape n t points)) ws draw drawn out written

abbrev pub factory_row_tests : ℕ → ℕ → ℕ → List ℕ → List ℕ → List ℕ → List Test
factory_row_tests n t points ws draw out = factory_tests n t points ws draw (draw_length (shape n t points)) out (packs_length (shape n t points))

unfoldable pub factory_row_refusal : ℕ → ℕ → ℕ → List ℕ → List ℕ → List ℕ → ℕ
factory_row_refusal n t points ws draw out = first (factory_row_tests n t points ws draw out)

abbrev pub factory_row_out : ℕ → ℕ → ℕ → List ℕ → List ℕ → List ℕ → List ℕ
factory_row_out n t points ws draw out = outcome (factory_row_refusal n t points ws draw out) (packs (shape n t points) ws draw) out

abbrev pub factory_triple_tests : ℕ → ℕ → ℕ → List ℕ → List ℕ → List ℕ → List Test
factory_triple_tests n t points ws draw out =
    factory_tests n t points ws draw (triple_draw_length (shape n t points)) out (3 * packs_length (shape n t points))

unfoldable pub factory_triple_refusal : ℕ → ℕ → ℕ → List ℕ → List ℕ → List ℕ → ℕ
factory_triple_refusal n t points ws draw out = first (factory_triple_tests n t points ws draw out)

abbrev pub factory_triple_out : ℕ → ℕ → ℕ → List ℕ → List ℕ → List ℕ → List ℕ
factory_triple_out n t points ws draw out = outcome (factory_triple_refusal n t points ws draw out) (triple_packs (shape n t points) ws draw) out

-- Deal: "The dealer's number is c = u − f(0)."
abbrev pub dealer_tests : ℕ → ℕ → List Test
dealer_tests u constant = 8 when beyond u ∷ 8 when beyond constant ∷ []

unfoldable pub dealer_refusal : ℕ → ℕ → ℕ
dealer_refusal u constant = first (dealer_tests u constant)

abbrev pub dealer_number_of : ℕ → ℕ → Number
dealer_number_of u constant =
    outcome (dealer_refusal u constant) (record { refusal = 0; value = difference u constant })
    (record { refusal = dealer_refusal u constant; value = 0 })
