-- Demand 1 of the two calls, with the table for their tests; and what an opening takes from a record that they wrote. Proved in
-- proofs/Theorems.antt.
use Rattle.std.specs.Prelude.{ℕ, ◌≤◌, ◌≡◌, ◌≢◌, List, []}
use Rattle.shape.specs.Lengths.{shape}
use Rattle.refusal.specs.Refusal.{first, Keeps}
use Rattle.session.specs.declared.Party.{Party}
use Rattle.blocks.specs.Blocks.{sent}
use Rattle.records.specs.Records.{place_refusal_of, put_refusal_of, with_block, block_of, no_block, put_record, removed_record}
use Rattle.records.specs.Table.{put_table, remove_table}

-- The answers, and the record: with the block, or as it came.
pub record RecordsLawful : Type 0 where
  pub put_refusal_is : (n t points : ℕ) (blocks : List ℕ) (post : ℕ) (message : List ℕ)
      → put_refusal_of n t points blocks post message ≡ first (put_table n t points blocks post message)
  pub put : (n t points : ℕ) (blocks : List ℕ) (post : ℕ) (message : List ℕ)
      → Keeps (put_table n t points blocks post message) (with_block (shape n t points) post (block_of message) blocks) blocks
      (put_record n t points blocks post message)
  pub remove_refusal : (n t points : ℕ) (blocks : List ℕ) (post : ℕ) → place_refusal_of n t points blocks post ≡ first (remove_table n t points blocks post)
  pub remove : (n t points : ℕ) (blocks : List ℕ) (post : ℕ)
      → Keeps (remove_table n t points blocks post) (with_block (shape n t points) post (no_block (shape n t points)) blocks) blocks
      (removed_record n t points blocks post)

-- What an opening takes from a record: "the coefficients in its own row, otherwise the block of the record (an empty part for an
-- absent block)". Of post j, whose message was put, that is the message; once it was removed, an empty part. Of every other post
-- it is what it was before the call.
pub record SentAfter (q : Party) (row blocks : List ℕ) (j : ℕ) (message : List ℕ) : Type 0 where
  pub there : j ≢ q.post → put_refusal_of q.shape.n q.shape.t q.shape.points blocks j message ≡ 0
      → sent q row (put_record q.shape.n q.shape.t q.shape.points blocks j message) j ≡ message
  pub gone : j ≢ q.post → place_refusal_of q.shape.n q.shape.t q.shape.points blocks j ≡ 0
      → sent q row (removed_record q.shape.n q.shape.t q.shape.points blocks j) j ≡ []
  pub put_others : (i : ℕ) → 1 ≤ i → i ≢ j
      → sent q row (put_record q.shape.n q.shape.t q.shape.points blocks j message) i ≡ sent q row blocks i
  pub removed_others : (i : ℕ) → 1 ≤ i → i ≢ j
      → sent q row (removed_record q.shape.n q.shape.t q.shape.points blocks j) i ≡ sent q row blocks i

abbrev pub MessagesSent : Type 0
MessagesSent = (q : Party) (row blocks : List ℕ) (j : ℕ) (message : List ℕ) → SentAfter q row blocks j message
