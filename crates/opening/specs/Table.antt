-- Document 01's table, line by line, for an opening: one flat list of numbered tests. proofs/Tables.antt shows that the call's
-- own tests, made of groups that calls share, are this list. Bounds and marks are document 01's numbers, not the names of `shape`.
use Rattle.std.specs.Prelude.{ℕ, ◌*◌, ◌-◌, ◌≡◌, ◌||◌, ◌&&◌, List, [], ◌∷◌, eqb, ltb}
use Rattle.refusal.specs.Refusal.{Test, ◌when◌}
use Rattle.refusal.specs.Conditions.{outside, wrong_length, any_beyond}
use Rattle.session.specs.declared.Session.{Session}
use Rattle.session.specs.Rows.{width, row_at}
use Rattle.session.specs.Checks.{wrong_mark_of}
use Rattle.opening.specs.Walking.{record_length, bad_record, too_few_of, disagree}
use Rattle.opening.specs.Opening.{open_tests}

abbrev pub open_table : Session → List ℕ → ℕ → List ℕ → List Test
open_table s rows r blocks =
    1 when outside 2 255 s.n
    ∷ 2 when outside 1 (s.n - 1) s.t
    ∷ 3 when outside 1 s.n s.post
    ∷ 4 when (outside 1 2 s.points || (outside 1 2147483646 s.first || (eqb s.points 2 && outside 1 2147483646 s.second)))
    ∷ 5 when wrong_length rows (96 * width s)
    ∷ 5 when wrong_length blocks (record_length s)
    ∷ 6 when ltb 95 r
    ∷ 7 when wrong_mark_of s r 2
    ∷ 8 when any_beyond (row_at (width s) rows r)
    ∷ 8 when bad_record s blocks
    ∷ 9 when too_few_of s (row_at (width s) rows r) blocks
    ∷ 13 when disagree s (row_at (width s) rows r) blocks
    ∷ []

abbrev pub OpeningTable : Type 0
OpeningTable = (s : Session) (rows : List ℕ) (r : ℕ) (blocks : List ℕ) → open_tests s rows r blocks ≡ open_table s rows r blocks
