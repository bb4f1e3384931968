-- Document 01's table, line by line, for the first call of a finish: one flat list of numbered tests. proofs/Tables.antt shows that the
-- call's own tests, made of groups that calls share, are this list.
use Rattle.std.specs.Prelude.{ℕ, ◌+◌, ◌*◌, ◌-◌, ◌≡◌, ◌||◌, ◌&&◌, List, [], ◌∷◌, eqb, ltb}
use Rattle.refusal.specs.Refusal.{Test, ◌when◌}
use Rattle.refusal.specs.Conditions.{outside, wrong_length, any_beyond}
use Rattle.session.specs.declared.Session.{Session}
use Rattle.session.specs.Sessions.{factor_a_of, factor_b_of}
use Rattle.session.specs.Rows.{width, row_at}
use Rattle.session.specs.Checks.{wrong_mark_of}
use Rattle.opening.specs.Walking.{record_length, bad_record, too_few_of, disagree}
use Rattle.collect.specs.Collect.{mask_a, mask_b, collect_tests}

-- 7, "or remembered factor row, isn't what the call needs": one above 95, or one that is not held.
abbrev pub collect_table : Session → List ℕ → ℕ → List ℕ → List ℕ → List Test
collect_table s rows r blocks_a blocks_b =
    1 when outside 2 255 s.n
    ∷ 2 when outside 1 (s.n - 1) s.t
    ∷ 3 when outside 1 s.n s.post
    ∷ 4 when (outside 1 2 s.points || (outside 1 2147483646 s.first || (eqb s.points 2 && outside 1 2147483646 s.second)))
    ∷ 5 when wrong_length rows (96 * width s)
    ∷ 5 when wrong_length blocks_a (record_length s)
    ∷ 5 when wrong_length blocks_b (record_length s)
    ∷ 6 when ltb 93 r
    ∷ 7 when ltb 95 (factor_a_of s r)
    ∷ 7 when ltb 95 (factor_b_of s r)
    ∷ 7 when wrong_mark_of s (factor_a_of s r) 2
    ∷ 7 when wrong_mark_of s (factor_b_of s r) 2
    ∷ 7 when wrong_mark_of s r 5
    ∷ 7 when wrong_mark_of s (r + 1) 4
    ∷ 7 when wrong_mark_of s (r + 2) 4
    ∷ 8 when any_beyond (row_at (width s) rows (factor_a_of s r))
    ∷ 8 when any_beyond (row_at (width s) rows (factor_b_of s r))
    ∷ 8 when any_beyond (row_at (width s) rows r)
    ∷ 8 when any_beyond (row_at (width s) rows (r + 1))
    ∷ 8 when bad_record s blocks_a
    ∷ 8 when bad_record s blocks_b
    ∷ 9 when too_few_of s (mask_a s rows r) blocks_a
    ∷ 9 when too_few_of s (mask_b s rows r) blocks_b
    ∷ 13 when disagree s (mask_a s rows r) blocks_a
    ∷ 13 when disagree s (mask_b s rows r) blocks_b
    ∷ []

-- The call's own tests are these.
abbrev pub CollectTable : Type 0
CollectTable =
    (s : Session) (rows : List ℕ) (r : ℕ) (blocks_a blocks_b : List ℕ)
    → collect_tests s rows r blocks_a blocks_b ≡ collect_table s rows r blocks_a blocks_b
