-- Document 01's table, line by line, for the two loads: a flat list of numbered tests for each. proofs/Tables.antt shows that the calls'
-- own tests, made of groups that calls share, are these lists. Bounds and marks are document 01's numbers, not the names of `shape`.
use Rattle.std.specs.Prelude.{ℕ, ◌+◌, ◌*◌, ◌-◌, ◌≡◌, ◌||◌, ◌&&◌, List, [], ◌∷◌, eqb, ltb}
use Rattle.refusal.specs.Refusal.{Test, ◌when◌}
use Rattle.refusal.specs.Conditions.{outside, wrong_length, any_beyond}
use Rattle.session.specs.declared.Session.{Session}
use Rattle.session.specs.Rows.{width}
use Rattle.session.specs.Checks.{wrong_mark_of}
use Rattle.load.specs.Load.{load_row_tests, load_triple_tests}

abbrev pub load_row_table : Session → List ℕ → ℕ → List ℕ → List Test
load_row_table s rows r pack =
    1 when outside 2 255 s.n
    ∷ 2 when outside 1 (s.n - 1) s.t
    ∷ 3 when outside 1 s.n s.post
    ∷ 4 when (outside 1 2 s.points || (outside 1 2147483646 s.first || (eqb s.points 2 && outside 1 2147483646 s.second)))
    ∷ 5 when wrong_length rows (96 * width s)
    ∷ 5 when wrong_length pack (width s)
    ∷ 6 when ltb 95 r
    ∷ 7 when wrong_mark_of s r 0
    ∷ 8 when any_beyond pack
    ∷ []

abbrev pub load_triple_table : Session → List ℕ → ℕ → List ℕ → List Test
load_triple_table s rows r pack =
    1 when outside 2 255 s.n
    ∷ 2 when outside 1 (s.n - 1) s.t
    ∷ 3 when outside 1 s.n s.post
    ∷ 4 when (outside 1 2 s.points || (outside 1 2147483646 s.first || (eqb s.points 2 && outside 1 2147483646 s.second)))
    ∷ 5 when wrong_length rows (96 * width s)
    ∷ 5 when wrong_length pack (3 * width s)
    ∷ 6 when ltb 93 r
    ∷ 7 when wrong_mark_of s r 0
    ∷ 7 when wrong_mark_of s (r + 1) 0
    ∷ 7 when wrong_mark_of s (r + 2) 0
    ∷ 8 when any_beyond pack
    ∷ []

-- The calls' own tests are these.
pub record LoadTables : Type 0 where
  pub load_row : (s : Session) (rows : List ℕ) (r : ℕ) (pack : List ℕ) → load_row_tests s rows r pack ≡ load_row_table s rows r pack
  pub load_triple_is : (s : Session) (rows : List ℕ) (r : ℕ) (pack : List ℕ)
      → load_triple_tests s rows r pack ≡ load_triple_table s rows r pack
