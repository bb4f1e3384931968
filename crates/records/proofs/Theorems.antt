-- The two calls keep to the law of every call, and an opening takes from the record what was put into it.
use Prim.Native.Nat.{ℕ, ◌≤◌}
use mathlib.Core.Path.{◌≡◌, refl, sym, ◌∙◌, ap}
use mathlib.Core.Logic.{◌≢◌}
use mathlib.Core.List.{List, []}
use native.Mathlib.Decide.{dec_le}
use native.Mathlib.Numerals.{add-one}
use native.Mathlib.Omega.{arith}
use lib.ListN.{length, length-replicate}
use Rattle.shape.specs.declared.Shape.{Shape}
use Rattle.shape.specs.Lengths.{shape, v_length, block_length, record_length}
use Rattle.refusal.specs.Refusal.{outcome}
use Rattle.refusal.proofs.Decided.{keeps}
use Rattle.refusal.proofs.Endings.{refused, accepted}
use Rattle.session.specs.declared.Party.{Party}
use Rattle.blocks.specs.Blocks.{sent}
use Rattle.blocks.specs.Between.{PostIn}
use Rattle.records.specs.Records.{place_refusal_of, put_refusal_of, with_block, block_of, no_block}
use Rattle.records.specs.Table.{put_table, remove_table}
use Rattle.records.specs.Claims.{RecordsLawful, SentAfter, MessagesSent}
use Rattle.records.proofs.Places.{put_in, put_long_is, message_long, place_in, place_long}
use Rattle.records.proofs.Sent.{content, sent_written, sent_other}

pub records_lawful : RecordsLawful
unfolding place_refusal_of put_refusal_of
records_lawful = record {
  put_refusal_is = λ n t points blocks post message. refl;
  put = λ n t points blocks post message.
      keeps (List ℕ) 1 (put_table n t points blocks post message) (omega arith) (with_block (shape n t points) post (block_of message) blocks) blocks;
  remove_refusal = λ n t points blocks post. refl;
  remove = λ n t points blocks post.
      keeps (List ℕ) 1 (remove_table n t points blocks post) (omega arith) (with_block (shape n t points) post (no_block (shape n t points)) blocks) blocks;
}

-- a call with this refusal left the record with the block b for post j, or as it was
module _ (q : Party) (row blocks b : List ℕ) (j f : ℕ) where
  abbrev s : Shape
  s = q.shape

  abbrev after : List ℕ
  after = outcome f (with_block s j b blocks) blocks

  done : f ≡ 0 → after ≡ with_block s j b blocks
  done z = sym (accepted f f (with_block s j b blocks) (with_block s j b blocks) blocks refl z refl)

  module _ (placed : f ≡ 0 → PostIn s j) (sized : f ≡ 0 → length blocks ≡ record_length s) (wide : f ≡ 0 → length b ≡ block_length s) where
    written : j ≢ q.post → f ≡ 0 → sent q row after j ≡ content b
    written n z = ap (λ (l : List ℕ). sent q row l j) (done z) ∙ sent_written q row blocks b j (sized z) (placed z) (wide z) n

    others : (i : ℕ) → 1 ≤ i → i ≢ j → sent q row after i ≡ sent q row blocks i
    others i first n = by_refusal (dec_le f 0)
      where
        by_refusal : Dec (f ≤ 0) → sent q row after i ≡ sent q row blocks i
        by_refusal (yes h) =
            let z : f ≡ 0 = omega arith in
            ap (λ (l : List ℕ). sent q row l i) (done z) ∙ sent_other q row blocks b j (sized z) (placed z) (wide z) i first n
        by_refusal (no g) =
            ap (λ (l : List ℕ). sent q row l i) (sym (refused f f (with_block s j b blocks) blocks refl (λ z. g (omega arith))))

module _ (q : Party) (row blocks : List ℕ) (j : ℕ) (message : List ℕ) where
  abbrev n : ℕ
  n = q.shape.n

  abbrev t : ℕ
  t = q.shape.t

  abbrev points : ℕ
  points = q.shape.points

  abbrev put : ℕ
  put = put_refusal_of n t points blocks j message

  abbrev place : ℕ
  place = place_refusal_of n t points blocks j

  put_wide : put ≡ 0 → length (block_of message) ≡ block_length q.shape
  put_wide z = let l = message_long n t points blocks j message put refl z in omega arith

  no_wide : place ≡ 0 → length (no_block q.shape) ≡ block_length q.shape
  no_wide z = length-replicate (block_length q.shape) 0

  no_content : content (no_block q.shape) ≡ []
  no_content = rw (add-one (v_length q.shape))

  after_calls : SentAfter q row blocks j message
  after_calls =
      let put-there = put_in n t points blocks j message put refl in
      let put-sized = put_long_is n t points blocks j message put refl in
      let no-there = place_in n t points blocks j place refl in
      let no-sized = place_long n t points blocks j place refl in
      record {
        there = written q row blocks (block_of message) j put put-there put-sized put_wide;
        gone = λ own z. written q row blocks (no_block q.shape) j place no-there no-sized no_wide own z ∙ no_content;
        put_others = others q row blocks (block_of message) j put put-there put-sized put_wide;
        removed_others = others q row blocks (no_block q.shape) j place no-there no-sized no_wide;
      }

pub messages_sent : MessagesSent
messages_sent = after_calls
