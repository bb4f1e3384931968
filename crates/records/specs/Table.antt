-- Document 01's table, line by line, for a record's blocks: one flat list of numbered tests for each call. Bounds are document 01's
-- numbers, not the names of `shape`.
use Rattle.std.specs.Prelude.{ℕ, ◌+◌, ◌*◌, ◌-◌, ◌≡◌, List, [], ◌∷◌}
use Rattle.refusal.specs.Refusal.{Test, ◌when◌}
use Rattle.refusal.specs.Conditions.{outside, wrong_length, any_beyond}
use Rattle.records.specs.Records.{place_tests, put_tests}

abbrev pub put_table : ℕ → ℕ → ℕ → List ℕ → ℕ → List ℕ → List Test
put_table n t points blocks post message =
    1 when outside 2 255 n
    ∷ 2 when outside 1 (n - 1) t
    ∷ 3 when outside 1 n post
    ∷ 4 when outside 1 2 points
    ∷ 5 when wrong_length blocks (n * (points * t + 1 + 1))
    ∷ 5 when wrong_length message (points * t + 1)
    ∷ 8 when any_beyond message
    ∷ []

abbrev pub remove_table : ℕ → ℕ → ℕ → List ℕ → ℕ → List Test
remove_table n t points blocks post =
    1 when outside 2 255 n
    ∷ 2 when outside 1 (n - 1) t
    ∷ 3 when outside 1 n post
    ∷ 4 when outside 1 2 points
    ∷ 5 when wrong_length blocks (n * (points * t + 1 + 1))
    ∷ []

-- The calls' own tests are these.
pub record RecordTables : Type 0 where
  pub put : (n t points : ℕ) (blocks : List ℕ) (post : ℕ) (message : List ℕ)
      → put_tests n t points blocks post message ≡ put_table n t points blocks post message
  pub remove : (n t points : ℕ) (blocks : List ℕ) (post : ℕ) → place_tests n t points blocks post ≡ remove_table n t points blocks post
