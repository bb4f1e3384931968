-- The loop over a chunk, part of a line by part of a line.
use Prim.Native.Nat.{ℕ, ◌+◌, ◌-◌, ◌≤◌, ◌<◌}
use mathlib.Core.Path.{◌≡◌, refl, ap, ap₂, sym, ◌∙◌}
use mathlib.Core.List.{List, []}
use mathlib.Core.Bool.{Bool, true, false, cond}
use native.Mathlib.Omega.{arith}
use borrow.Author.Tests.{ne_eqb}
use lib.Dec.{eqb}
use lib.ListN.{length, take, drop, length-drop, drop_of_length-le}
use lib.Seq.{drop-drop, length-take-le}
use Rattle.shape.specs.declared.Shape.{Shape}
use Rattle.session.specs.declared.Session.{Session}
use Rattle.session.specs.Sessions.{shape_of}
use Rattle.street_store.specs.Sizes.{numbers_room, most_masks, store_room}
use Rattle.street_states.specs.declared.Head.{Head}
use Rattle.street_orders.specs.Orders.{Accepted}
use Rattle.street_feeds.specs.declared.Feed.{Feed}
use Rattle.street_splitting.specs.Lines.{segment, kept_length, laid}
use Rattle.street_feeds.specs.Program.{Running, fed, running}
use Rattle.street_feeds.specs.Between.{Open, Added, Fed, head_of, feed_of, turned}
use Rattle.street_transcript.specs.Between.{line_after_of, Closing, ran, line_ran}
use Rattle.street_transcript.proofs.Chunks.{segment_some, segment_within, fed_segment}
use Rattle.street_transcript.proofs.Laying.{line_after}

module _ (chunk : List ℕ) (i end : ℕ) (h : i < length chunk) (e : end ≡ i + segment (drop i chunk)) where
  left : length (drop i chunk) ≡ length chunk - i
  left = length-drop i chunk

  pub chunk_behind : i < end
  chunk_behind = omega (arith, segment_some (drop i chunk) (omega (arith, left)))

  pub chunk_within : end ≤ length chunk
  chunk_within = omega (arith, segment_within (drop i chunk), left)

  pub chunk_less : length chunk - end < length chunk - i
  chunk_less = omega (arith, chunk_behind, chunk_within)

  pub chunk_part : 1 ≤ length (take (end - i) (drop i chunk))
  chunk_part =
      let b = chunk_behind in
      let w = chunk_within in
      omega (arith, length-take-le (end - i) (drop i chunk) (omega (arith, left)))

-- The session and the rest, so far: what was taken, what is left to take, and rooms that stay.
pub record Midway (closing : Bool) (f₀ : Feed) (store₀ line₀ chunk out₀ : List ℕ) (s : Session) (h : Head) (store line out xs ms : List ℕ) (i : ℕ) : Type 0 where
  pub closes : Closing closing chunk
  pub room : Open (feed_of s h) store line out (length chunk - i)
  pub so_far : Fed f₀ (feed_of s h) store i
  pub within : i ≤ length chunk
  pub store_same : length store ≡ length store₀
  pub line_same : length line ≡ length line₀
  pub out_same : length out ≡ length out₀
  pub numbers_room_is : length xs ≡ numbers_room
  pub masks_room : length ms ≡ most_masks
  pub added : Added f₀ (feed_of s h) out₀ out
  pub line_says : line_ran closing (running (feed_of s h) store line out) line (drop i chunk) ≡ line_ran closing (running f₀ store₀ line₀ out₀) line₀ chunk
  pub says : ran closing (running (feed_of s h) store line out) (drop i chunk) ≡ ran closing (running f₀ store₀ line₀ out₀) chunk

pub midway_start : (closing : Bool) (s : Session) (h : Head) (f : Feed) (store line chunk out xs ms : List ℕ) → h ≡ head_of f → s ≡ f.state.session
    → Closing closing chunk → Open f store line out (length chunk) → length xs ≡ numbers_room → length ms ≡ most_masks
    → Midway closing (feed_of s h) store line chunk out s h store line out xs ms 0
midway_start closing s h f store line chunk out xs ms q r cl o nx nm =
    let e : length chunk - 0 ≡ length chunk = omega arith in
    rw (q, r)
    (record {
      closes = cl;
      room = rw e o;
      so_far = record { ready = o.ready; len_in = o.len_in; numbers = omega arith; room = omega arith };
      within = omega arith;
      store_same = refl;
      line_same = refl;
      out_same = refl;
      numbers_room_is = nx;
      masks_room = nm;
      added = record { grows = omega arith; behind = refl };
      line_says = refl;
      says = refl;
    })

module _ (closing : Bool) (f₀ : Feed) (store₀ line₀ chunk out₀ : List ℕ) (s : Session) (h : Head) (store line out xs ms : List ℕ) (i : ℕ)
    (inv : Midway closing f₀ store₀ line₀ chunk out₀ s h store line out xs ms i) where
  abbrev f : Feed
  f = feed_of s h

  pub midway_store : length store ≡ store_room
  midway_store = inv.room.ready.store_room_is

  pub midway_masks : length ms ≡ most_masks
  midway_masks = inv.masks_room

  none_left : length chunk ≤ i → drop i chunk ≡ []
  none_left z = drop_of_length-le chunk z

  done_ran : (b : Bool) (p q : Running) (l : List ℕ) → l ≡ [] → ran b p l ≡ q → p ≡ q
  unfolding fed
  done_ran true p q l e w = rw e at w
  done_ran false p q l e w = rw e at w

  done_line : (b : Bool) (p : Running) (x y l : List ℕ) → l ≡ [] → line_ran b p x l ≡ y → x ≡ y
  unfolding line_after_of
  done_line true p x y l e w = w
  done_line false p x y l e w = rw e at w

  module _ (r f₁ : Feed) (b : f₀ ≡ f₁) (d : r ≡ feed_of s h) (z : length chunk ≤ i) where
    pub midway_done : running r store line out ≡ ran closing (running f₁ store₀ line₀ out₀) chunk
    midway_done = rw (d, ← b) (done_ran closing _ _ (drop i chunk) (none_left z) inv.says)

    pub midway_fed : Fed f₁ r store (length chunk)
    midway_fed = let e : i ≡ length chunk = omega (arith, inv.within) in rw (d, ← b) (rw e at inv.so_far)

    pub midway_added : Added f₁ r out₀ out
    midway_added = rw (d, ← b) inv.added

    pub midway_line : line ≡ line_ran closing (running f₁ store₀ line₀ out₀) line₀ chunk
    midway_line = rw (← b) (done_line closing _ line _ (drop i chunk) (none_left z) inv.line_says)

  module _ (z : i < length chunk) (end : ℕ) (e : end ≡ i + segment (drop i chunk)) where
    pub chunk_room : Open f store line out 1
    chunk_room =
        let o = inv.room in
        record { ready = o.ready; line_room = o.line_room; len_in = o.len_in; numbers = omega (arith, o.numbers); room = omega (arith, o.room) }

    pub midway_len : h.len ≤ kept_length
    midway_len = inv.room.len_in

    pub midway_kept : length line ≡ kept_length
    midway_kept = inv.room.line_room

    pub midway_accepted : (g : Shape) → g ≡ shape_of s → Accepted h.started g
    midway_accepted g d = record { in_range = λ t. rw d (inv.room.ready.in_range t) }

    pub midway_numbers : length xs ≡ numbers_room
    midway_numbers = inv.numbers_room_is

    abbrev piece : List ℕ
    piece = take (end - i) (drop i chunk)

    module _ (s' : Session) (h' : Head) (store' line' out' xs' ms' : List ℕ)
        (q : running (feed_of s' h') store' line' out' ≡ turned closing (running f store line out) piece)
        (d : Fed f (feed_of s' h') store' 1) (lr : length store' ≡ length store) (ll : length line' ≡ length line)
        (lo : length out' ≡ length out) (lx : length xs' ≡ length xs) (lm : length ms' ≡ length ms)
        (w : Added f (feed_of s' h') out out') (x : line' ≡ cond closing line (laid h.len piece line)) where
      width : end - i ≡ segment (drop i chunk)
      width = omega arith

      rest : drop end chunk ≡ drop (segment (drop i chunk)) (drop i chunk)
      rest = ap (λ (j : ℕ). drop j chunk) e ∙ sym (drop-drop (segment (drop i chunk)) i chunk)

      some : 1 ≤ length (drop i chunk)
      some = omega (arith, left chunk i end z e)

      begun : h.len ≡ length (take h.len line)
      begun = sym (length-take-le h.len line (omega (arith, inv.room.len_in, inv.room.line_room)))

      abbrev p' : Running
      p' = running (feed_of s' h') store' line' out'

      -- at the end of the input there is one turn
      last : closing ≡ true → drop end chunk ≡ []
      last t = let u : length chunk ≤ end = omega (arith, inv.closes.one t, chunk_behind chunk i end z e) in drop_of_length-le chunk u

      some_left : eqb (length (drop i chunk)) 0 ≡ false
      some_left = ne_eqb (length (drop i chunk)) 0 (λ y. omega (arith, y, some))

      turn : (b : Bool) → closing ≡ b → ran b p' (drop end chunk) ≡ ran b (running f store line out) (drop i chunk)
      unfolding fed
      turn true t = rw (last t, some_left) (rw t at q)
      turn false t =
          ap (λ (y : Running). fed y (drop end chunk)) (rw t at q)
          ∙ rw (rest, width) (sym (fed_segment (running f store line out) (drop i chunk) some))

      line_turn : (b : Bool) → closing ≡ b → line_ran b p' line' (drop end chunk) ≡ line_ran b (running f store line out) line (drop i chunk)
      line_turn true t = rw t at x
      line_turn false t =
          ap₂ (λ (y : Running) (u : List ℕ). line_after_of y u (drop end chunk)) (rw t at q) ((rw t at x) ∙ ap (λ (k : ℕ). laid k piece line) begun)
          ∙ rw (rest, width) (sym (line_after (running f store line out) line (drop i chunk) inv.room.line_room some))

      -- what stands behind the answers
      both_added : Added f₀ (feed_of s' h') out₀ out'
      both_added =
          let a = inv.added in
          let k : h.at + (h'.at - h.at) ≡ h'.at = omega (arith, w.grows) in
          let back : (l : List ℕ) → drop h'.at l ≡ drop (h'.at - h.at) (drop h.at l) =
          λ l. ap (λ (j : ℕ). drop j l) (sym k) ∙ sym (drop-drop (h'.at - h.at) h.at l) in
          record {
            grows = omega (arith, a.grows, w.grows);
            behind = w.behind ∙ back out ∙ ap (drop (h'.at - h.at)) a.behind ∙ sym (back out₀);
          }

      pub midway_more : Midway closing f₀ store₀ line₀ chunk out₀ s' h' store' line' out' xs' ms' end
      midway_more =
          let b = chunk_behind chunk i end z e in
          let w = chunk_within chunk i end z e in
          let o = inv.room in
          let g = inv.so_far in
          record {
            closes = inv.closes;
            room =
                record {
                  ready = d.ready;
                  line_room = ll ∙ o.line_room;
                  len_in = d.len_in;
                  numbers = omega (arith, o.numbers, d.numbers);
                  room = omega (arith, o.room, d.room);
                };
            so_far =
                record {
                  ready = d.ready;
                  len_in = d.len_in;
                  numbers = omega (arith, g.numbers, d.numbers);
                  room = omega (arith, g.room, d.room);
                };
            within = w;
            store_same = lr ∙ inv.store_same;
            line_same = ll ∙ inv.line_same;
            out_same = lo ∙ inv.out_same;
            numbers_room_is = lx ∙ inv.numbers_room_is;
            masks_room = lm ∙ inv.masks_room;
            added = both_added;
            line_says = line_turn closing refl ∙ inv.line_says;
            says = turn closing refl ∙ inv.says;
          }

pub feed_whole : (f : Feed) (h : Head) → h ≡ head_of f → feed_of f.state.session h ≡ f
feed_whole f h e = rw e
