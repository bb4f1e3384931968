-- What a relation's finish leaves as it was, proved in proofs/Others.antt; and which numbers of its records neither its answer nor its
-- rows depend on, proved in proofs/Unread.antt. That it is lawful stands with its table, in the crate relation.
use Rattle.std.specs.Prelude.{ℕ, ◌+◌, ◌*◌, ◌<◌, ◌≡◌, ◌≢◌, List, length}
use Rattle.poly.specs.Counting.{All}
use Rattle.session.specs.declared.Session.{Session}
use Rattle.session.specs.Sessions.{party_of}
use Rattle.session.specs.Rows.{width, row_at}
use Rattle.blocks.specs.Claims.{Alike}
use Rattle.opening.specs.Walking.{record_length}
use Rattle.terms.specs.declared.Term.{Term}
use Rattle.terms.specs.Listed.{products_of, collected}
use Rattle.relation.specs.Finish.{record_at, relation_finish_answer, relation_finish_rows}
use Rattle.relation.specs.Table.{triples_of}

-- "rows that a call doesn't name keep every number", and so do the terms' rows and the first two rows of each product term's triple: the
-- row that the sum goes to and the third row of each of these triples are all that changes. The triple of a plain term is "not looked at",
-- and none of its rows is among them. It rules out a finish that writes the triple of a plain term, or a product into the triple's first row.
abbrev pub RelationKeepsOthers : Type 0
RelationKeepsOthers =
    (s : Session) (rows : List ℕ) (ts : List Term) (d : ℕ) (blocks : List ℕ) (q : ℕ) → q ≢ d → All (λ r. q ≢ r + 2) (triples_of ts)
    → row_at (width s) (relation_finish_rows s rows (collected ts) d blocks) q ≡ row_at (width s) rows q

-- Each product term's two records are opened "as above": in none of them is the own block looked at, its mark included, nor an absent
-- block's coefficients. It rules out a finish that reads one of them in the record of a later term.
abbrev pub RelationUnread : Type 0
RelationUnread =
    (s : Session) (rows : List ℕ) (ts : List Term) (d : ℕ) (a b : List ℕ) → length a ≡ length (products_of ts) * (2 * record_length s)
    → length b ≡ length (products_of ts) * (2 * record_length s)
    → ((j : ℕ) → j < 2 * length (products_of ts) → Alike (party_of s) (record_at s a j) (record_at s b j))
    → (relation_finish_answer s rows (collected ts) d a ≡ relation_finish_answer s rows (collected ts) d b)
    × (relation_finish_rows s rows (collected ts) d a ≡ relation_finish_rows s rows (collected ts) d b)
