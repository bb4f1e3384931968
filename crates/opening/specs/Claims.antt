-- Demand 1 of an opening, with document 01's table for its tests, proved in proofs/Theorems.antt; and which numbers of a record
-- its answer does not depend on, proved in proofs/Unread.antt.
use Rattle.std.specs.Prelude.{ℕ, ◌≡◌, List, length}
use Rattle.session.specs.declared.Session.{Session}
use Rattle.session.specs.Sessions.{party_of}
use Rattle.session.specs.Rows.{width, row_at}
use Rattle.session.specs.Law.{Lawful}
use Rattle.blocks.specs.Claims.{Alike}
use Rattle.opening.specs.Walking.{record_length, opened}
use Rattle.opening.specs.Opening.{open_answer}
use Rattle.opening.specs.Table.{open_table}

-- "Session and rows don't change."
abbrev pub OpeningLawful : Type 0
OpeningLawful =
    (s : Session) (rows : List ℕ) (r : ℕ) (blocks : List ℕ)
    → Lawful (open_table s rows r blocks) (opened s (row_at (width s) rows r) blocks) s s rows rows (open_answer s rows r blocks) rows

-- "its own block is not looked at, its mark included"; "An absent block's coefficients aren't looked at." Two records that agree
-- in every other post's mark, and in the coefficients of every other post's present block, get the same answer.
abbrev pub OwnUnread : Type 0
OwnUnread =
    (s : Session) (rows : List ℕ) (r : ℕ) (a b : List ℕ) → length a ≡ record_length s → length b ≡ record_length s
    → Alike (party_of s) a b → open_answer s rows r a ≡ open_answer s rows r b
