-- The end of the input, and of the program.
use Prim.Native.Nat.{ℕ, ◌+◌, ◌≤◌, ◌<◌}
use mathlib.Core.Path.{◌≡◌, refl, ap, ap₂, sym, ◌∙◌}
use mathlib.Core.Bool.{Bool, true, false, not, cond, true≢false}
use mathlib.Core.List.{List, [], ◌∷◌, ◌++◌, append_assoc}
use native.Mathlib.Omega.{arith}
use borrow.Author.Tests.{ne_eqb}
use lib.ListN.{length, take}
use Rattle.std.specs.Prelude.{Result}
use Rattle.refusal.specs.declared.Refusal.{Refusal}
use Rattle.street_feeds.specs.declared.Feed.{Feed}
use Rattle.street_answers.specs.Text.{header}
use Rattle.street_feeds.specs.Program.{Running, running, closed, drained, printed_for, begun}
use Rattle.street_feeds.specs.Between.{Open}
use Rattle.street_transcript.specs.Between.{Moved, feed_after}
use Rattle.street_transcript.specs.Limits.{feed_refusal_of}
use Rattle.street_transcript.proofs.Admitting.{open_none}
use Rattle.street_transcript.proofs.Whole.{chunks_print}
use Rattle.street_chunks.specs.declared.Served.{Served}
use Rattle.street_port.specs.declared.Got.{Got}
use Rattle.street_port.specs.declared.Printed.{Printed}
use Rattle.street_port.specs.Counts.{wrapped}
use Rattle.street_serving.specs.Sizes.{all_turns}
use Rattle.street_chunks.specs.Stopping.{broken_off_of}
use Rattle.street_serving.specs.Serving.{Ended, closes}
use Rattle.street_serving.specs.Between.{Stopped, Finished}
use Rattle.street_chunks.proofs.Feeding.{neither, handed_first}
use Rattle.street_serving.proofs.Turns.{count_more}

-- ---- broken off, or not
module _ (s : Served) (b : Bool) (f : b ≡ broken_off_of s) where
  pub finished_broken : (p : Running) (out : List ℕ) → b ≡ true → Finished p p out s s
  finished_broken p out e = record { same = refl; broken = λ _. (refl, refl); closes = λ n. absurd (true≢false (sym e ∙ f ∙ n)) }

  pub unbroken_whole : b ≡ false → s.printed.whole ≡ true
  unbroken_whole e = (neither s.got.failed s.printed.whole (sym f ∙ e)).1

module _ (s : Served) (store line out newLine : List ℕ) (a : Result Feed Refusal) (store' line' out' : List ℕ)
    (m : Moved (feed_refusal_of s.feed store line out 1) 1 s.feed store line out
    (closed (running s.feed store line out)) newLine a store' line' out')
    (o : Open s.feed store line out 1) where
  abbrev g : Feed
  g = feed_after s.feed a

  none : feed_refusal_of s.feed store line out 1 ≡ 0
  none = open_none s.feed store line out 1 o

  pub last_in : length out' ≡ length out → g.at ≤ length out'
  last_in l = omega (arith, o.room, (m.left none).room)

  pub finished_closed : (kept : Feed) → kept ≡ g → (q : Printed) → length out' ≡ length out → (b : Bool) → b ≡ broken_off_of s → b ≡ false
      → q.total ≡ wrapped (s.printed.total + length (take kept.at out'))
      → Finished (running s.feed store line out) (running kept store' line' out') out' s
      (record { feed = kept; got = s.got; printed = q })
  finished_closed kept w q l b f e t =
      let c : running kept store' line' out' ≡ closed (running s.feed store line out) =
      ap (λ (x : Feed). running x store' line' out') w ∙ m.says none in
      record {
        same = refl;
        broken = λ y. absurd (true≢false (sym y ∙ sym f ∙ e));
        closes = λ _. (c, handed_first _ out' kept.at s.printed q (rw w (last_in l)) (ap (λ (z : Running). z.out) c) t);
      }

-- ---- the end of the program
shut : (unread whole : Bool) → closes unread whole ≡ not (cond unread true (not whole))
shut true whole = refl
shut false true = refl
shut false false = refl

module _ (s r : Served) (p q : Running) (out : List ℕ) (taken : Bool) (h : Stopped p s) (k : taken ≡ s.printed.whole) (f : Finished p q out s r) where
  abbrev all : List (List ℕ)
  all = h.chunks ++ (h.last ∷ [])

  abbrev Told : Type 0
  Told = Ended q.number r.printed.total r.got.failed (not r.printed.whole) taken

  late : taken ≡ true → 0 < length h.last → length h.chunks + 1 ≡ all_turns
  late t l = h.why (rw (ne_eqb s.got.count 0 (λ z. absurd (omega (arith, h.read))), sym k ∙ t))

  closing : closes r.got.failed taken ≡ not (broken_off_of s)
  closing = ap₂ closes (ap (λ (z : Got). z.failed) f.same) k ∙ shut s.got.failed s.printed.whole

  broken_ended : broken_off_of s ≡ true → Told
  broken_ended b =
      let e = f.broken b in
      let cut : closes r.got.failed taken ≡ false = closing ∙ ap not b in
      record {
        chunks = h.chunks;
        last = h.last;
        filled = h.filled;
        why = late;
        told = λ t. ap (λ (z : Printed). not z.whole) e.1 ∙ ap not (sym k ∙ t);
        lines_is = rw cut (ap (λ (z : Running). z.number) (e.0 ∙ h.passes));
        count = rw cut (ap (λ (z : Printed). z.total) e.1 ∙ h.count);
      }

  closed_ended : broken_off_of s ≡ false → Told
  closed_ended b =
      let e = f.closes b in
      let n = neither s.got.failed s.printed.whole b in
      let ends : closes r.got.failed taken ≡ true = closing ∙ ap not b in
      record {
        chunks = h.chunks;
        last = h.last;
        filled = h.filled;
        why = late;
        told = λ t. absurd (true≢false (sym n.1 ∙ sym k ∙ t));
        lines_is = rw ends (ap (λ (z : Running). z.number) (e.0 ∙ ap closed h.passes));
        count =
            rw ends
            (count_more s.printed.total r.printed.total (header ++ printed_for (drained begun) all) (closed p).out h.count e.1.count
            ∙ ap (λ (t : List ℕ). wrapped (length t))
            (append_assoc header (printed_for (drained begun) all) (closed p).out
            ∙ ap (λ (z : Running). header ++ (printed_for (drained begun) all ++ (closed z).out)) h.passes
            ∙ chunks_print all));
      }

  pub all_served : Told
  all_served = go (broken_off_of s) refl
    where
      go : (b : Bool) → broken_off_of s ≡ b → Told
      go true e = broken_ended e
      go false e = closed_ended e
