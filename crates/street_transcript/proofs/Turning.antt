-- A turn of the loop over a chunk: each way in which it goes on.
use Prim.Native.Nat.{ℕ, ◌+◌, ◌-◌, ◌≤◌, ◌<◌, ◌^◌}
use mathlib.Core.Path.{◌≡◌, refl, ap, sym, ◌∙◌}
use mathlib.Core.List.{List}
use mathlib.Core.Bool.{Bool, true, false}
use native.Mathlib.Omega.{arith}
use lib.ListN.{length, take, drop}
use lib.Seq.{length-take-le}
use Rattle.shape.specs.declared.Shape.{Shape}
use Rattle.session.specs.declared.Session.{Session}
use Rattle.session.specs.declared.Answer.{Answer}
use Rattle.session.specs.Sessions.{shape_of, holding}
use Rattle.street_store.specs.Sizes.{numbers_room, most_masks}
use Rattle.street_states.specs.declared.Head.{Head}
use Rattle.street_orders.specs.declared.Order.{Order}
use Rattle.street_steps.specs.Letters.{is_change}
use Rattle.street_interpreter.specs.Changes.{Able, Brief, Changed, Finished, Alone}
use Rattle.street_answers.specs.Text.{longest_print}
use Rattle.street_splitting.specs.Lines.{segment}
use Rattle.street_feeds.specs.declared.Feed.{Feed}
use Rattle.street_feeds.specs.declared.Part.{Part}
use Rattle.street_feeds.specs.Between.{Open, head_of, feed_of, answered_head, PartRead, told_text, TellRoom, Answered, Seen}
use Rattle.street_transcript.proofs.Looping.{Midway, chunk_room, midway_more, feed_whole}
use Rattle.street_transcript.proofs.Taking as taking

pub turn_change : (l : ℕ) (b c : Bool) → b ≡ is_change l → b ≡ c → is_change l ≡ c
turn_change l b c f y = sym f ∙ y

pub turn_brief : (l : ℕ) (b : Bool) → b ≡ is_change l → b ≡ true → (l ≡ 65 → ⊥) → (l ≡ 70 → ⊥) → (l ≡ 83 → ⊥) → Brief l
turn_brief l b f y na nf ns = record { changes = sym f ∙ y; no_a = na; no_f = nf; no_s = ns }

-- ---- the session stands in the answer to the last change, at first in one that says nothing
module _ (a : Answer) (f : Feed) (q : a ≡ holding 0 0 f.state.session) where
  pub last_session : a.session ≡ f.state.session
  last_session = ap (λ (x : Answer). x.session) q

  pub last_whole : (h : Head) → h ≡ head_of f → feed_of a.session h ≡ f
  last_whole h e = ap (λ (s : Session). feed_of s h) last_session ∙ feed_whole f h e

-- ---- where the letters meet again, what was changed is what the way changed
module _ (s : Session) (triple : ℕ) (o : Order) (xs line store : List ℕ) (a last : Answer) (store' ms' : List ℕ) (r : last ≡ a) where
  abbrev Done : Type 0
  Done = Changed s triple o xs line store last store' ms'

  pub came_alone : Alone s o line a → store' ≡ store → Done
  came_alone v p = rw (p, r) (v.says triple xs store ms')

  pub came_finish : (st : List ℕ) → Finished s triple o xs store a st → store' ≡ st → Done
  came_finish st v p = rw (p, r) (v.says line ms')

  pub came_change : (st ms : List ℕ) → Changed s triple o xs line store a st ms → store' ≡ st → ms' ≡ ms → Done
  came_change st ms v p q = rw (p, q, r) v

pub came_room : (closing : Bool) (f₀ : Feed) (store₀ line₀ chunk out₀ : List ℕ) (s : Session) (h : Head) (store line out xs ms : List ℕ) (i : ℕ)
    → Midway closing f₀ store₀ line₀ chunk out₀ s h store line out xs ms i → (ms' l : List ℕ) → ms' ≡ l → length l ≡ length ms → length ms' ≡ most_masks
came_room closing f₀ store₀ line₀ chunk out₀ s h store line out xs ms i inv ms' l e q = ap length e ∙ q ∙ inv.masks_room

module _ (closing : Bool) (f₀ : Feed) (store₀ line₀ chunk out₀ : List ℕ) (s : Session) (h : Head) (store line out xs ms : List ℕ) (i : ℕ)
    (inv : Midway closing f₀ store₀ line₀ chunk out₀ s h store line out xs ms i) (z : i < length chunk) (end : ℕ) (e : end ≡ i + segment (drop i chunk))
    (g : Shape) (d : g ≡ shape_of s) (r : Part) (line' xs' : List ℕ)
    (pr : PartRead g h line (take (end - i) (drop i chunk)) closing r line' xs') where
  open_one : Open (feed_of s h) store line out 1
  open_one = chunk_room closing f₀ store₀ line₀ chunk out₀ s h store line out xs ms i inv z end e

  abbrev part : List ℕ
  part = take (end - i) (drop i chunk)

  pub turn_number : r.head.number + 1 < 2 ^ 64
  turn_number = taking.part_number s h g d store line part line' out xs' closing r open_one pr

  pub turn_room : r.head.at + longest_print ≤ length out
  turn_room = taking.part_room s h g d store line part line' out xs' closing r open_one pr

  pub turn_able : r.ended ≡ true → Able s r.order
  turn_able t = taking.part_able s h g d store line part line' out xs' closing r open_one pr t

  pub turn_numbers : length xs' ≡ length xs → length xs' ≡ numbers_room
  turn_numbers l = l ∙ inv.numbers_room_is

  pub turn_within : length line' ≡ length line → r.head.len ≤ length line'
  turn_within l = omega (arith, pr.len_in, inv.room.line_room)

  pub turn_prefix : length line' ≡ length line → r.head.len ≡ length (take r.head.len line')
  turn_prefix l = sym (length-take-le r.head.len line' (turn_within l))

  module _ (ll : length line' ≡ length line) (lx : length xs' ≡ length xs) where
    pub again_begun : r.ended ≡ false → Midway closing f₀ store₀ line₀ chunk out₀ s r.head store line' out xs' ms end
    again_begun n =
        midway_more closing f₀ store₀ line₀ chunk out₀ s h store line out xs ms i inv z end e s r.head store line' out xs' ms
        (taking.begun_turned s h g d store line part line' out xs' closing r open_one pr n)
        (taking.begun_fed s h g d store line part line' out xs' closing r open_one pr n) refl ll refl lx refl
        (taking.begun_added s h g d store line part line' out xs' closing r open_one pr n) pr.line_is

    module _ (t : r.ended ≡ true) (b : Bool) (f : b ≡ is_change r.order.letter) where
      pub again_seen : b ≡ false → (k : Head) (store' out' : List ℕ) → Seen s r.head r.order xs' store out k store' out' → length store' ≡ length store
          → length out' ≡ length out → Midway closing f₀ store₀ line₀ chunk out₀ s k store' line' out' xs' ms end
      again_seen y k store' out' v ls lo =
          let n = sym f ∙ y in
          midway_more closing f₀ store₀ line₀ chunk out₀ s h store line out xs ms i inv z end e s k store' line' out' xs' ms
          (taking.seen_turned s h g d store line part line' out xs' closing r open_one pr t n k store' out' v ls)
          (taking.seen_fed s h g d store line part line' out xs' closing r open_one pr t n k store' out' v ls) ls ll lo lx refl
          (taking.seen_added s h g d store line part line' out xs' closing r open_one pr t n k store' out' v ls) pr.line_is

      module _ (y : b ≡ true) (ans : Answer) (store' ms' : List ℕ)
          (x : Changed s r.head.triple r.order xs' (take r.head.len line') store ans store' ms') (lm : length ms' ≡ length ms) where
        pub turn_tell : TellRoom r.order.letter ans.refusal s.post g xs' ms'
        turn_tell =
            taking.tell_room s h g d store line part line' out xs' closing r open_one pr t (sym f ∙ y) ans store' ms' x (turn_numbers lx) (lm ∙ inv.masks_room)

        module _ (k : Head) (out' : List ℕ)
            (v : Answered r.head r.order.letter ans.refusal (told_text r.order.letter ans.refusal s.post g xs' ms') out k.at out')
            (w : k ≡ answered_head r.head r.order.letter ans.refusal k.at) (ls : length store' ≡ length store) (lo : length out' ≡ length out) where
          pub again_changed : Midway closing f₀ store₀ line₀ chunk out₀ ans.session k store' line' out' xs' ms' end
          again_changed =
              let n = sym f ∙ y in
              let s' = ans.session in
              let q = x.stays in
              midway_more closing f₀ store₀ line₀ chunk out₀ s h store line out xs ms i inv z end e s' k store' line' out' xs' ms'
              (taking.changed_turned s h g d store line part line' out xs' closing r open_one pr t n ans store' ms' x k out' ls v w s' q)
              (taking.changed_fed s h g d store line part line' out xs' closing r open_one pr t n ans store' ms' x k out' ls v w s' q) ls ll lo lx lm
              (taking.changed_added s h g d store line part line' out xs' closing r open_one pr t n ans store' ms' x k out' ls v w s' q) pr.line_is
