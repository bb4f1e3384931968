-- Document 01's table, line by line, for masks: one flat list of numbered tests. proofs/Tables.antt shows that the call's own tests,
-- made of groups that calls share, are this list.
use Rattle.std.specs.Prelude.{ℕ, ◌+◌, ◌*◌, ◌-◌, ◌≡◌, ◌||◌, ◌&&◌, List, [], ◌∷◌, eqb, ltb}
use Rattle.refusal.specs.Refusal.{Test, ◌when◌}
use Rattle.refusal.specs.Conditions.{outside, wrong_length, any_beyond}
use Rattle.session.specs.declared.Session.{Session}
use Rattle.session.specs.Rows.{width, row_at}
use Rattle.session.specs.Checks.{wrong_mark_of}
use Rattle.product_masks.specs.Masks.{masks_tests}

abbrev pub masks_table : Session → List ℕ → ℕ → ℕ → ℕ → List ℕ → List Test
masks_table s rows a b r out =
    1 when outside 2 255 s.n
    ∷ 2 when outside 1 (s.n - 1) s.t
    ∷ 3 when outside 1 s.n s.post
    ∷ 4 when (outside 1 2 s.points || (outside 1 2147483646 s.first || (eqb s.points 2 && outside 1 2147483646 s.second)))
    ∷ 5 when wrong_length rows (96 * width s)
    ∷ 5 when wrong_length out (2 * (s.points * s.t + 1))
    ∷ 6 when ltb 95 a
    ∷ 6 when ltb 95 b
    ∷ 6 when ltb 93 r
    ∷ 7 when wrong_mark_of s a 2
    ∷ 7 when wrong_mark_of s b 2
    ∷ 7 when wrong_mark_of s r 3
    ∷ 7 when wrong_mark_of s (r + 1) 4
    ∷ 7 when wrong_mark_of s (r + 2) 4
    ∷ 8 when any_beyond (row_at (width s) rows a)
    ∷ 8 when any_beyond (row_at (width s) rows b)
    ∷ 8 when any_beyond (row_at (width s) rows r)
    ∷ 8 when any_beyond (row_at (width s) rows (r + 1))
    ∷ []

-- The call's own tests are these.
abbrev pub MasksTable : Type 0
MasksTable =
    (s : Session) (rows : List ℕ) (a b r : ℕ) (out : List ℕ) → masks_tests s rows a b r out ≡ masks_table s rows a b r out
