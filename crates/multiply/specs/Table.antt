-- Document 01's table, line by line, for the second call of a finish: one flat list of numbered tests. proofs/Tables.antt shows that the
-- call's own tests, made of groups that calls share, are this list.
use Rattle.std.specs.Prelude.{ℕ, ◌+◌, ◌*◌, ◌-◌, ◌≡◌, ◌||◌, ◌&&◌, List, [], ◌∷◌, eqb, ltb}
use Rattle.refusal.specs.Refusal.{Test, ◌when◌}
use Rattle.refusal.specs.Conditions.{outside, wrong_length, any_beyond}
use Rattle.session.specs.declared.Session.{Session}
use Rattle.session.specs.Sessions.{factor_a_of, factor_b_of, opened_a_of, opened_b_of}
use Rattle.session.specs.Rows.{width, row_at}
use Rattle.session.specs.Checks.{wrong_mark_of}
use Rattle.multiply.specs.Multiply.{multiply_tests}

-- "The session remembers the two numbers for each row ... one at least p gets 8."
abbrev pub multiply_table : Session → List ℕ → ℕ → List Test
multiply_table s rows r =
    1 when outside 2 255 s.n
    ∷ 2 when outside 1 (s.n - 1) s.t
    ∷ 3 when outside 1 s.n s.post
    ∷ 4 when (outside 1 2 s.points || (outside 1 2147483646 s.first || (eqb s.points 2 && outside 1 2147483646 s.second)))
    ∷ 5 when wrong_length rows (96 * width s)
    ∷ 6 when ltb 93 r
    ∷ 7 when wrong_mark_of s r 7
    ∷ 7 when wrong_mark_of s (r + 1) 4
    ∷ 7 when wrong_mark_of s (r + 2) 4
    ∷ 7 when wrong_mark_of s (factor_a_of s r) 2
    ∷ 7 when wrong_mark_of s (factor_b_of s r) 2
    ∷ 8 when ltb 2147483646 (opened_a_of s r)
    ∷ 8 when ltb 2147483646 (opened_b_of s r)
    ∷ 8 when any_beyond (row_at (width s) rows r)
    ∷ 8 when any_beyond (row_at (width s) rows (r + 1))
    ∷ 8 when any_beyond (row_at (width s) rows (r + 2))
    ∷ []

-- The call's own tests are these.
abbrev pub MultiplyTable : Type 0
MultiplyTable = (s : Session) (rows : List ℕ) (r : ℕ) → multiply_tests s rows r ≡ multiply_table s rows r
