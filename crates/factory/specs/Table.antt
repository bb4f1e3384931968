-- Document 01's table, line by line, for the factory's calls: one flat list of numbered tests for each. proofs/Tables.antt shows
-- that the calls' own tests are these lists.
use Rattle.std.specs.Prelude.{ℕ, ◌*◌, ◌-◌, ◌≡◌, List, [], ◌∷◌, ltb}
use Rattle.shape.specs.Lengths.{shape, draw_length, triple_draw_length, packs_length}
use Rattle.refusal.specs.Refusal.{Test, ◌when◌}
use Rattle.refusal.specs.Conditions.{outside, wrong_length, any_beyond}
use Rattle.factory.specs.Calls.{any_bad_point, factory_row_tests, factory_triple_tests, dealer_tests}

abbrev pub row_table : ℕ → ℕ → ℕ → List ℕ → List ℕ → List ℕ → List Test
row_table n t points ws draw out =
    1 when outside 2 255 n
    ∷ 2 when outside 1 (n - 1) t
    ∷ 4 when outside 1 2 points
    ∷ 4 when any_bad_point ws
    ∷ 5 when wrong_length ws (points * n)
    ∷ 5 when wrong_length draw (draw_length (shape n t points))
    ∷ 5 when wrong_length out (packs_length (shape n t points))
    ∷ 8 when any_beyond draw
    ∷ []

abbrev pub triple_table : ℕ → ℕ → ℕ → List ℕ → List ℕ → List ℕ → List Test
triple_table n t points ws draw out =
    1 when outside 2 255 n
    ∷ 2 when outside 1 (n - 1) t
    ∷ 4 when outside 1 2 points
    ∷ 4 when any_bad_point ws
    ∷ 5 when wrong_length ws (points * n)
    ∷ 5 when wrong_length draw (triple_draw_length (shape n t points))
    ∷ 5 when wrong_length out (3 * packs_length (shape n t points))
    ∷ 8 when any_beyond draw
    ∷ []

abbrev pub dealer_table : ℕ → ℕ → List Test
dealer_table u constant =
    8 when ltb 2147483646 u
    ∷ 8 when ltb 2147483646 constant
    ∷ []

-- The calls' own tests are these.
pub record FactoryTables : Type 0 where
  pub row : (n t points : ℕ) (ws draw out : List ℕ) → factory_row_tests n t points ws draw out ≡ row_table n t points ws draw out
  pub triple : (n t points : ℕ) (ws draw out : List ℕ) → factory_triple_tests n t points ws draw out ≡ triple_table n t points ws draw out
  pub dealer : (u constant : ℕ) → dealer_tests u constant ≡ dealer_table u constant
