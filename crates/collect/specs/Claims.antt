-- Demand 1 of a finish's first call, with document 01's table for its tests, proved in proofs/Theorems.antt; and which numbers of
-- its records its answer does not depend on, proved in proofs/Unread.antt.
use Rattle.std.specs.Prelude.{ℕ, ◌≡◌, List, length, set}
use Rattle.session.specs.declared.Session.{Session}
use Rattle.session.specs.Sessions.{party_of, marked, with_opened}
use Rattle.session.specs.Law.{Lawful}
use Rattle.blocks.specs.Claims.{Alike}
use Rattle.opening.specs.Walking.{record_length}
use Rattle.collect.specs.Collect.{number_a, number_b, collect_answer}
use Rattle.collect.specs.Table.{collect_table}

-- no list is written
abbrev pub CollectLawful : Type 0
CollectLawful =
    (s : Session) (rows : List ℕ) (r : ℕ) (blocks_a blocks_b : List ℕ)
    → Lawful (collect_table s rows r blocks_a blocks_b) 0
    (with_opened (marked s r 7) (set s.y_a r (number_a s rows r blocks_a)) (set s.y_b r (number_b s rows r blocks_b))) s rows rows
    (collect_answer s rows r blocks_a blocks_b) rows

-- A finish opens its two records "as above": in neither is the own block looked at, its mark included, nor an absent block's
-- coefficients.
abbrev pub RecordsUnread : Type 0
RecordsUnread =
    (s : Session) (rows : List ℕ) (r : ℕ) (a a' b b' : List ℕ) → length a ≡ record_length s → length a' ≡ record_length s
    → length b ≡ record_length s → length b' ≡ record_length s → Alike (party_of s) a a' → Alike (party_of s) b b'
    → collect_answer s rows r a b ≡ collect_answer s rows r a' b'
