-- Document 01's table, line by line, for a linear call: one flat list of numbered tests. proofs/Tables.antt shows that the call's
-- own tests, made of groups that calls share, are this list. Bounds and marks are document 01's numbers, not the names of `shape`.
use Rattle.std.specs.Prelude.{ℕ, ◌*◌, ◌-◌, ◌≡◌, ◌||◌, ◌&&◌, List, [], ◌∷◌, eqb, ltb}
use Rattle.refusal.specs.Refusal.{Test, ◌when◌}
use Rattle.refusal.specs.Conditions.{outside, wrong_length, any_beyond}
use Rattle.session.specs.declared.Session.{Session}
use Rattle.session.specs.Rows.{width, row_at}
use Rattle.session.specs.Checks.{wrong_mark_of}
use Rattle.linear.specs.Linear.{linear_tests}

abbrev pub linear_table : Session → List ℕ → ℕ → ℕ → ℕ → ℕ → ℕ → List Test
linear_table s rows r a b scale fee =
    1 when outside 2 255 s.n
    ∷ 2 when outside 1 (s.n - 1) s.t
    ∷ 3 when outside 1 s.n s.post
    ∷ 4 when (outside 1 2 s.points || (outside 1 2147483646 s.first || (eqb s.points 2 && outside 1 2147483646 s.second)))
    ∷ 5 when wrong_length rows (96 * width s)
    ∷ 6 when ltb 95 r
    ∷ 6 when ltb 95 a
    ∷ 6 when ltb 95 b
    ∷ 7 when wrong_mark_of s r 0
    ∷ 7 when wrong_mark_of s a 2
    ∷ 7 when wrong_mark_of s b 2
    ∷ 8 when ltb 2147483646 scale
    ∷ 8 when ltb 2147483646 fee
    ∷ 8 when any_beyond (row_at (width s) rows a)
    ∷ 8 when any_beyond (row_at (width s) rows b)
    ∷ []

abbrev pub LinearTable : Type 0
LinearTable = (s : Session) (rows : List ℕ) (r a b scale fee : ℕ) → linear_tests s rows r a b scale fee ≡ linear_table s rows r a b scale fee
