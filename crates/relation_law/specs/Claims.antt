-- What a relation's two calls have to do with the single ones. Its finish, by document 02, (viii): proved in proofs/Walk.antt. Its masks, by
-- (v): proved in proofs/Masking.antt.
use Rattle.std.specs.Prelude.{ℕ, ◌≡◌, List}
use Rattle.session.specs.declared.Session.{Session}
use Rattle.session.specs.Sessions.{summed_row}
use Rattle.product_law.specs.Claims.{Whole}
use Rattle.terms.specs.declared.Term.{Term}
use Rattle.terms.specs.Listed.{products_of, collected}
use Rattle.relation.specs.Masks.{relation_masks_answer, relation_masks_out}
use Rattle.relation.specs.Finish.{with_sum, number_rows, relation_finish_answer, relation_finish_rows}
use Rattle.relation_law.specs.Pairs.{PairsAccepted, session_after, rows_after_of}
use Rattle.relation_law.specs.Singles.{SinglesAccepted, singles_session, singles_lists}

module _ (s : Session) (rows : List ℕ) (ts : List Term) (d : ℕ) (blocks : List ℕ) where
  pub record AsPairs : Type 0 where
    -- both calls are accepted at each product term, one term after the other
    pub accepted : PairsAccepted blocks 0 (products_of ts) s rows
    -- and then leave the session that the relation's finish leaves, but for the mark of the sum's row, which is held, and its set
    pub session_is : (relation_finish_answer s rows (collected ts) d blocks).session ≡ summed_row (session_after blocks 0 (products_of ts) s rows) d (number_rows ts)
    -- and its rows, but for the sum of the terms in that row
    pub rows_are : relation_finish_rows s rows (collected ts) d blocks ≡ with_sum s d ts (rows_after_of blocks 0 (products_of ts) s rows)

abbrev pub FinishIsPairs : Type 0
FinishIsPairs =
    (s : Session) (rows : List ℕ) (ts : List Term) (d : ℕ) (blocks : List ℕ) → Whole s
    → (relation_finish_answer s rows (collected ts) d blocks).refusal ≡ 0 → AsPairs s rows ts d blocks

module _ (s : Session) (rows : List ℕ) (ts : List Term) (out : List ℕ) where
  pub record AsSingles : Type 0 where
    -- `masks` is accepted at each product term, one term after the other
    pub accepted : SinglesAccepted rows (products_of ts) s out
    -- and then leaves the session that the relation's masks leave
    pub session_is : (relation_masks_answer s rows (collected ts) out).session ≡ singles_session rows (products_of ts) s out
    -- and the same list: "Masks and records follow one another by product term"
    pub lists_are : relation_masks_out s rows (collected ts) out ≡ singles_lists rows (products_of ts) s out

abbrev pub MasksAreSingles : Type 0
MasksAreSingles =
    (s : Session) (rows : List ℕ) (ts : List Term) (out : List ℕ) → (relation_masks_answer s rows (collected ts) out).refusal ≡ 0
    → AsSingles s rows ts out
