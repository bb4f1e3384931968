-- From chunk to chunk: what holds before each, and where the reading stops.
use Prim.Native.Nat.{ℕ, ◌+◌, ◌-◌, ◌*◌, ◌≤◌, ◌<◌, ◌^◌}
use mathlib.Core.Path.{◌≡◌, refl, ap, sym, ◌∙◌}
use mathlib.Core.Bool.{Bool, true, false, true≢false}
use mathlib.Core.List.{List, [], ◌∷◌, ◌++◌, append_assoc, append-nil}
use native.Mathlib.Omega.{arith}
use native.Mathlib.Nat.{mod-add-mod}
use borrow.Author.Tests.{eqb-false}
use lib.Dec.{eqb}
use lib.ListN.{length, take, length-replicate, length-append}
use Rattle.street_store.specs.Sizes.{store_room}
use Rattle.street_states.specs.States.{first_state}
use Rattle.street_steps.specs.Stepping.{Ready}
use Rattle.street_chunks.proofs.Feeding.{neither, prefix_length}
use Rattle.street_feeds.specs.declared.Feed.{Feed}
use Rattle.street_answers.specs.Text.{header}
use Rattle.street_feeds.specs.Program.{Running, running, fed, drained, passed, printed_for, begun, first_feed}
use Rattle.street_feeds.specs.Between.{Open}
use Rattle.street_transcript.proofs.Whole.{passed_more}
use Rattle.street_chunks.specs.declared.Served.{Served}
use Rattle.street_port.specs.declared.Printed.{Printed}
use Rattle.street_port.specs.Counts.{wrapped}
use Rattle.street_chunks.specs.Sizes.{chunk_size}
use Rattle.street_serving.specs.Sizes.{answers_room_of, all_turns}
use Rattle.street_chunks.specs.Stopping.{stops_at}
use Rattle.street_serving.specs.Serving.{Filled}
use Rattle.street_chunks.specs.Between.{Answered}
use Rattle.street_serving.specs.Between.{Fresh, Begun, Stopped}

-- ---- what was printed
pub printed_more : (p : Running) (cs : List (List ℕ)) (c : List ℕ) → printed_for p (cs ++ (c ∷ [])) ≡ printed_for p cs ++ (fed (passed p cs) c).out
unfolding printed_for passed
printed_more p [] c = append-nil (fed p c).out
printed_more p (d ∷ cs) c = ap (λ (z : List ℕ). (fed p d).out ++ z) (printed_more (drained (fed p d)) cs c) ∙ sym (append_assoc (fed p d).out _ _)

-- a count of 64 bits, and a text more
pub count_more : (t u : ℕ) (a b : List ℕ) → t ≡ wrapped (length a) → u ≡ wrapped (t + length b) → u ≡ wrapped (length (a ++ b))
count_more t u a b e q =
    q ∙ ap (λ (n : ℕ). wrapped (n + length b)) e ∙ mod-add-mod (length a) (2 ^ 64) (length b) ∙ ap wrapped (sym (length-append a b))

filled_more : (cs : List (List ℕ)) (c : List ℕ) → Filled cs → 0 < length c → Filled (cs ++ (c ∷ []))
filled_more [] c f h = (h, tt)
filled_more (d ∷ cs) c f h = (f.0, filled_more cs c f.1 h)

-- ---- before each chunk
pub record Held (f : Feed) (store line chunk out : List ℕ) (p : Printed) (turns : ℕ) : Type 0 where
  pub fine : Open f store line out 0
  pub printed : f.at ≡ 0
  pub out_room : length out ≡ answers_room_of
  pub chunk_room : length chunk ≡ chunk_size
  pub numbers : f.number + chunk_size * turns ≤ 2 ^ 63
  pub some : 0 < turns
  pub whole : p.whole ≡ true
  pub chunks : List (List ℕ)
  pub filled : Filled chunks
  pub passes : running f store line out ≡ passed (drained begun) chunks
  pub count : p.total ≡ wrapped (length (header ++ printed_for (drained begun) chunks))
  pub left : length chunks + turns ≡ all_turns

first_ready : (store : List ℕ) → length store ≡ store_room → Ready first_state store
first_ready store a =
    record { store_room_is = a; in_range = λ e. let z : ◌≡◌ {A = ℕ} 0 1 = cc in absurd (omega arith) }

pub held_start : (f : Feed) (store line chunk out : List ℕ) (p : Printed) → Fresh store line chunk out → Begun p → f ≡ first_feed
    → Held f store line chunk out p all_turns
unfolding passed printed_for
held_start f store line chunk out p h b e =
    let l : length store ≡ store_room = ap length h.store_zero ∙ length-replicate {A = ℕ} store_room 0 in
    rw e
    record {
      fine = record { ready = first_ready store l; line_room = h.line_room; len_in = omega arith; numbers = omega arith; room = omega arith };
      printed = refl;
      out_room = h.out_room;
      chunk_room = h.chunk_room;
      numbers = omega arith;
      some = omega arith;
      whole = b.whole_is;
      chunks = [];
      filled = tt;
      passes = rw h.store_zero;
      count = b.total_is;
      left = refl;
    }

module _ (f : Feed) (store line chunk out : List ℕ) (p : Printed) (turns : ℕ) (h : Held f store line chunk out p turns) where
  pub held_open : Open f store line out chunk_size
  held_open =
      let o = h.fine in
      record {
        ready = o.ready;
        line_room = o.line_room;
        len_in = o.len_in;
        numbers = omega (arith, h.numbers, h.some);
        room = omega (arith, h.printed, h.out_room);
      }

  pub held_chunk : length chunk ≡ chunk_size
  held_chunk = h.chunk_room

  pub held_whole : p.whole ≡ true
  held_whole = h.whole

  -- ---- a chunk more
  module _ (s : Served) (store' line' chunk' out' : List ℕ)
      (a : Answered (running f store line out) (running s.feed store' line' out') (take s.got.count chunk') out' p s.printed)
      (o : Open s.feed store' line' out' 0) (z : s.feed.at ≡ 0) (n : s.feed.number ≤ f.number + chunk_size) (lc : s.got.count ≤ length chunk')
    where
      abbrev last : List ℕ
      last = take s.got.count chunk'

      last_length : length last ≡ s.got.count
      last_length = sym (prefix_length s.got.count chunk' lc)

      passes_more : running s.feed store' line' out' ≡ passed (drained begun) (h.chunks ++ (last ∷ []))
      passes_more = a.taken ∙ ap (λ (r : Running). drained (fed r last)) h.passes ∙ sym (passed_more (drained begun) h.chunks last)

      total_more : s.printed.total ≡ wrapped (length (header ++ printed_for (drained begun) (h.chunks ++ (last ∷ []))))
      total_more =
          count_more p.total s.printed.total (header ++ printed_for (drained begun) h.chunks) (fed (running f store line out) last).out
          h.count a.handed.count
          ∙ ap (λ (t : List ℕ). wrapped (length t))
          (append_assoc header (printed_for (drained begun) h.chunks) (fed (running f store line out) last).out
          ∙ ap (λ (t : List ℕ). header ++ t)
          (ap (λ (r : Running). printed_for (drained begun) h.chunks ++ (fed r last).out) h.passes ∙ sym (printed_more (drained begun) h.chunks last)))

      stopped : (stops_at s ≡ false → length h.chunks + 1 ≡ all_turns) → Stopped (running s.feed store' line' out') s
      stopped w =
          record { chunks = h.chunks; last = last; filled = h.filled; read = last_length; passes = passes_more; count = total_more; why = w }

      pub stopped_late : turns - 1 ≡ 0 → Stopped (running s.feed store' line' out') s
      stopped_late e = stopped (λ _. omega (arith, h.left, h.some))

      pub stopped_here : (b : Bool) → b ≡ stops_at s → b ≡ true → Stopped (running s.feed store' line' out') s
      stopped_here b g e = stopped (λ t. absurd (true≢false (sym e ∙ g ∙ t)))

      pub open_end : length out' ≡ length out → Open s.feed store' line' out' 1
      open_end l =
          record {
            ready = o.ready;
            line_room = o.line_room;
            len_in = o.len_in;
            numbers = omega (arith, h.numbers, h.some);
            room = omega (arith, h.out_room);
          }

      pub held_more : length chunk' ≡ length chunk → length out' ≡ length out → (turns - 1 ≡ 0 → ⊥) → (b : Bool) → b ≡ stops_at s → b ≡ false
          → Held s.feed store' line' chunk' out' s.printed (turns - 1)
      held_more k l t b g e =
          let on = neither (eqb s.got.count 0) s.printed.whole (sym g ∙ e) in
          let some : (s.got.count ≡ 0 → ⊥) = eqb-false s.got.count 0 on.0 in
          record {
            fine = o;
            printed = z;
            out_room = l ∙ h.out_room;
            chunk_room = k ∙ h.chunk_room;
            numbers = omega (arith, h.numbers, h.some);
            some = omega (arith, t);
            whole = on.1;
            chunks = h.chunks ++ (last ∷ []);
            filled = filled_more h.chunks last h.filled (omega (arith, last_length, some));
            passes = passes_more;
            count = total_more;
            left = simp length-append (omega (arith, h.left, h.some));
          }
