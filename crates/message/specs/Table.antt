-- Document 01's table, line by line, for an opening message: one flat list of numbered tests. proofs/Tables.antt shows that the call's
-- own tests, made of groups that calls share, are this list. Bounds and marks are document 01's numbers, not the names of `shape`.
use Rattle.std.specs.Prelude.{ℕ, ◌+◌, ◌*◌, ◌-◌, ◌≡◌, ◌||◌, ◌&&◌, List, [], ◌∷◌, eqb, ltb}
use Rattle.refusal.specs.Refusal.{Test, ◌when◌}
use Rattle.refusal.specs.Conditions.{outside, wrong_length, any_beyond}
use Rattle.session.specs.declared.Session.{Session}
use Rattle.callers.specs.Sets.{bars}
use Rattle.session.specs.Rows.{width, row_at}
use Rattle.session.specs.Checks.{wrong_mark_of}
use Rattle.message.specs.Message.{message_tests}

abbrev pub message_table : Session → List ℕ → ℕ → ℕ → List ℕ → List Test
message_table s rows r caller out =
    1 when outside 2 255 s.n
    ∷ 2 when outside 1 (s.n - 1) s.t
    ∷ 3 when outside 1 s.n s.post
    ∷ 4 when (outside 1 2 s.points || (outside 1 2147483646 s.first || (eqb s.points 2 && outside 1 2147483646 s.second)))
    ∷ 5 when wrong_length rows (96 * width s)
    ∷ 5 when wrong_length out (s.points * s.t + 1)
    ∷ 6 when ltb 95 r
    ∷ 7 when wrong_mark_of s r 2
    ∷ 8 when any_beyond (row_at (width s) rows r)
    ∷ 15 when (outside 1 s.n caller || bars s.barred r caller)
    ∷ []

abbrev pub MessageTable : Type 0
MessageTable = (s : Session) (rows : List ℕ) (r caller : ℕ) (out : List ℕ) → message_tests s rows r caller out ≡ message_table s rows r caller out
