-- One chunk: what it leaves, and what is handed to standard output.
use Prim.Native.Nat.{ℕ, ◌+◌, ◌≤◌}
use mathlib.Core.Path.{◌≡◌, refl, ap, sym, ◌∙◌}
use mathlib.Core.Bool.{Bool, true, false, not, cond, true≢false}
use mathlib.Core.List.{List}
use native.Mathlib.Omega.{arith}
use borrow.Author.Tests.{eq-eqb, ne_eqb}
use lib.ListN.{length, take, length-take}
use lib.Seq.{length-take-le}
use Rattle.street_feeds.specs.declared.Feed.{Feed}
use Rattle.std.specs.Prelude.{Result}
use Rattle.refusal.specs.declared.Refusal.{Refusal}
use Rattle.street_feeds.specs.Program.{Running, running, fed, drained, drained_feed}
use Rattle.street_feeds.specs.Between.{Open, Fed}
use Rattle.street_transcript.specs.Between.{Moved, feed_after}
use Rattle.street_transcript.specs.Limits.{feed_refusal_of}
use Rattle.street_transcript.proofs.Admitting.{open_none}
use Rattle.street_port.specs.declared.Printed.{Printed}
use Rattle.street_port.specs.Counts.{wrapped}
use Rattle.street_chunks.specs.declared.Served.{Served}
use Rattle.street_chunks.specs.Sizes.{chunk_size}
use Rattle.street_chunks.specs.Stopping.{stops_at, broken_off_of}
use Rattle.street_chunks.specs.Between.{Handed, Answered}

pub prefix_length : (k : ℕ) (l : List ℕ) → k ≤ length l → k ≡ length (take k l)
prefix_length k l h = sym (length-take-le k l h)

open_fewer : (f : Feed) (store line out : List ℕ) (k n : ℕ) → k ≤ n → Open f store line out n → Open f store line out k
open_fewer f store line out k n h o =
    record { ready = o.ready; line_room = o.line_room; len_in = o.len_in; numbers = omega (arith, o.numbers); room = omega (arith, o.room) }

-- the first bytes of the list, as many as the answers have
pub handed_first : (answers out : List ℕ) (at : ℕ) (before after : Printed) → at ≤ length out → take at out ≡ answers
    → after.total ≡ wrapped (before.total + length (take at out)) → Handed answers out before after
handed_first answers out at before after h e q =
    let n : length answers ≡ at = sym (prefix_length at out h ∙ ap length e) in
    record { first = ap (λ (k : ℕ). take k out) n ∙ e; count = q ∙ ap (λ (s : List ℕ). wrapped (before.total + length s)) e }

-- ---- a chunk is not refused
module _ (f : Feed) (store line out chunk newLine : List ℕ) (a : Result Feed Refusal) (store' line' out' : List ℕ)
    (m : Moved (feed_refusal_of f store line out (length chunk)) (length chunk) f store line out
    (fed (running f store line out) chunk) newLine a store' line' out')
    (o : Open f store line out chunk_size) (h : length chunk ≤ chunk_size) where
  abbrev g : Feed
  g = feed_after f a

  none : feed_refusal_of f store line out (length chunk) ≡ 0
  none = open_none f store line out (length chunk) (open_fewer f store line out (length chunk) chunk_size h o)

  d : Fed f g store' (length chunk)
  d = m.left none

  pub answers_in : length out' ≡ length out → g.at ≤ length out'
  answers_in l = omega (arith, d.room, o.room)

  module _ (v kept : Feed) (w : kept ≡ g) (t : v ≡ drained_feed kept) where
    q : v ≡ drained_feed g
    q = t ∙ ap drained_feed w

    pub chunk_open : length line' ≡ length line → Open v store' line' out' 0
    chunk_open l =
        rw q
        record {
          ready = d.ready;
          line_room = l ∙ o.line_room;
          len_in = d.len_in;
          numbers = omega (arith, o.numbers, d.numbers);
          room = omega arith;
        }

    pub chunk_printed : v.at ≡ 0
    chunk_printed = rw q

    pub chunk_numbers : v.number ≤ f.number + chunk_size
    chunk_numbers = rw q (omega (arith, d.numbers))

    pub chunk_answered : (before after : Printed) → length out' ≡ length out → after.total ≡ wrapped (before.total + length (take kept.at out'))
        → Answered (running f store line out) (running v store' line' out') chunk out' before after
    chunk_answered before after l u =
        let e : running g store' line' out' ≡ fed (running f store line out) chunk = m.says none in
        record {
          taken = rw q (ap drained e);
          handed = handed_first _ out' g.at before after (answers_in l) (ap (λ (z : Running). z.out) e) (rw w at u);
        }

-- ---- what was read
pub part_small : (n k : ℕ) (l : List ℕ) → length l ≡ k → length (take n l) ≤ k
part_small n k l e = simp length-take (omega arith)

pub part_counted : (n k : ℕ) (l : List ℕ) → n ≡ k → k ≤ length l → n ≡ length (take n l)
part_counted n k l e h = prefix_length n l (omega arith)

pub answered_read : (p q : Running) (n k : ℕ) (l out : List ℕ) (before after : Printed) → n ≡ k → Answered p q (take n l) out before after
    → Answered p q (take k l) out before after
answered_read p q n k l out before after e a = rw e at a

-- ---- the last chunk, and whether the program broke off
module _ (s : Served) where
  pub last_empty : (n : ℕ) → n ≡ s.got.count → n ≡ 0 → true ≡ stops_at s
  last_empty n e z = rw (eq-eqb s.got.count 0 (sym e ∙ z))

  pub last_unwritten : (n : ℕ) (w : Bool) → n ≡ s.got.count → (n ≡ 0 → ⊥) → w ≡ s.printed.whole → not w ≡ stops_at s
  last_unwritten n w e z p = rw (p, ne_eqb s.got.count 0 (λ k. z (e ∙ k)))

  pub broken_unread : (b : Bool) → b ≡ s.got.failed → b ≡ true → true ≡ broken_off_of s
  broken_unread b e t = rw (sym e ∙ t)

  pub broken_unwritten : (b w : Bool) → b ≡ s.got.failed → b ≡ false → w ≡ s.printed.whole → not w ≡ broken_off_of s
  broken_unwritten b w e t p = rw (p, sym e ∙ t)

pub neither : (t b : Bool) → cond t true (not b) ≡ false → (t ≡ false) × (b ≡ true)
neither true b e = absurd (true≢false e)
neither false true e = (refl, refl)
neither false false e = absurd (true≢false e)
