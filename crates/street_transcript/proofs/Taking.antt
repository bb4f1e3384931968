-- A line that has ended is looked at or changes the session: either way it is answered as the step says.
use Prim.Native.Nat.{ℕ, ◌+◌, ◌≤◌, ◌<◌, ◌^◌}
use mathlib.Core.Path.{◌≡◌, refl, ap, ap₂, sym, ◌∙◌}
use mathlib.Core.List.{List}
use mathlib.Core.Bool.{Bool, true, false, cond}
use native.Mathlib.Omega.{arith}
use lib.ListN.{length, take}
use lib.Dec.{eqb}
use Rattle.shape.specs.declared.Shape.{Shape}
use Rattle.csv_fields.specs.Fields.{overwrite}
use Rattle.session.specs.declared.Session.{Session}
use Rattle.session.specs.declared.Answer.{Answer}
use Rattle.session.specs.Sessions.{shape_of}
use Rattle.street_store.specs.Sizes.{numbers_room, most_masks}
use Rattle.street_states.specs.declared.Head.{Head}
use Rattle.street_states.specs.States.{After, settled, state_of}
use Rattle.street_states.proofs.Calling.{answer_refusal}
use Rattle.street_orders.specs.declared.Order.{Order}
use Rattle.street_steps.specs.Stepping.{step, Ready}
use Rattle.street_steps.specs.Letters.{is_change}
use Rattle.street_orders.specs.Orders.{Reads, acting, changing, looking}
use Rattle.street_interpreter.specs.Changes.{held, told_by, Able, Changed, changed}
use Rattle.street_steps.proofs.Ranges.{step_ready}
use Rattle.street_answers.specs.Text.{print_text, longest_print}
use Rattle.street_feeds.specs.declared.Part.{Part}
use Rattle.street_feeds.specs.Program.{Running, left_by, answered, running}
use Rattle.street_feeds.specs.Between.{Open, Added, Fed, feed_of, answered_head, turned, PartRead, told_text, TellRoom, Answered, Seen}
use Rattle.street_feeds.proofs.Feeding.{answered_by, answered_added}

module _ (s : Session) (h : Head) (g : Shape) (d : g ≡ shape_of s) (store line part line' out xs : List ℕ) (closing : Bool) (r : Part)
    (o : Open (feed_of s h) store line out 1) (pr : PartRead g h line part closing r line' xs) where
  abbrev h' : Head
  h' = r.head

  head_ready : Ready (state_of s h') store
  head_ready = rw pr.head_is o.ready

  pub part_number : h'.number + 1 < 2 ^ 64
  part_number = rw pr.head_is o.numbers

  pub part_room : h'.at + longest_print ≤ length out
  part_room = rw pr.head_is (omega (arith, o.room))

  abbrev before : Running
  before = running (feed_of s h) store line out

  abbrev ended_line : Running
  ended_line = running (feed_of s h') store line' out

  -- ---- no line has ended
  module _ (n : r.ended ≡ false) where
    pub begun_turned : ended_line ≡ turned closing before part
    begun_turned = sym (pr.says s store out ∙ rw n)

    pub begun_fed : Fed (feed_of s h) (feed_of s h') store 1
    begun_fed = rw pr.head_is (record { ready = o.ready; len_in = pr.len_in; numbers = omega arith; room = omega arith })

    pub begun_added : Added (feed_of s h) (feed_of s h') out out
    begun_added = rw pr.head_is (record { grows = omega arith; behind = refl })

  -- ---- a line has ended
  module _ (t : r.ended ≡ true) where
    abbrev order : Order
    order = r.order

    reads : Reads h.started g (take h'.len line') order xs
    reads = pr.reads t

    started_same : h'.started ≡ h.started
    started_same = ap (λ (x : Head). x.started) pr.head_is

    turned_answered : answered ended_line ≡ turned closing before part
    turned_answered = sym (pr.says s store out ∙ rw t)

    pub part_able : Able s order
    part_able =
        record {
          street = λ a b. head_ready.in_range (started_same ∙ reads.late a b);
          post_in = λ k. let w = reads.post_in k in (w.0, omega (arith, w.1, ap (λ (u : Shape). u.n) d));
        }

    acts : acting (state_of s h') store order xs (take h'.len line') ≡ step (state_of s h') store (take h'.len line')
    acts = reads.says (state_of s h') store started_same (sym d)

    -- what is left of the line, once it is answered
    module _ (s' : Session) (k : Head) (store' out' : List ℕ) (a : After) (e : a ≡ step (state_of s h') store (take h'.len line'))
        (l : length store' ≡ length store) (q : running (feed_of s' k) store' line' out' ≡ left_by ended_line a) (z : k.len ≡ 0) (n : k.number ≡ h'.number + 1)
        (m : k.at ≤ h'.at + longest_print) (w : Added (feed_of s h') (feed_of s' k) out out') where
      taken_turned : running (feed_of s' k) store' line' out' ≡ turned closing before part
      unfolding answered
      taken_turned = q ∙ ap (left_by ended_line) e ∙ turned_answered

      taken_fed : Fed (feed_of s h) (feed_of s' k) store' 1
      taken_fed =
          record {
            ready = go;
            len_in = omega arith;
            numbers = omega (arith, ap (λ (x : Head). x.number) pr.head_is);
            room = omega (arith, ap (λ (x : Head). x.at) pr.head_is);
          }
        where
          store_is : store' ≡ a.store
          store_is = ap (λ (x : Running). x.store) q

          state_is : state_of s' k ≡ a.given.state
          state_is = ap (λ (x : Running). x.state) q

          go : Ready (state_of s' k) store'
          go = rw (state_is, store_is) (step_ready (state_of s h') store (take h'.len line') a head_ready e (sym (ap length store_is) ∙ l))

      taken_added : Added (feed_of s h) (feed_of s' k) out out'
      taken_added =
          record { grows = omega (arith, w.grows, ap (λ (x : Head). x.at) pr.head_is); behind = w.behind }

    -- ---- a look
    module _ (c : is_change order.letter ≡ false) (k : Head) (store' out' : List ℕ) (v : Seen s h' order xs store out k store' out')
        (l : length store' ≡ length store) where
      looks : looking (state_of s h') store order xs ≡ step (state_of s h') store (take h'.len line')
      looks = sym (ap (λ (b : Bool). cond b (changing (state_of s h') store order xs (take h'.len line')) (looking (state_of s h') store order xs)) c) ∙ acts

      pub seen_turned : running (feed_of s k) store' line' out' ≡ turned closing before part
      seen_turned = taken_turned s k store' out' _ looks l (v.says line') v.len_none v.number_next v.at_in v.added

      pub seen_fed : Fed (feed_of s h) (feed_of s k) store' 1
      seen_fed = taken_fed s k store' out' _ looks l (v.says line') v.len_none v.number_next v.at_in v.added

      pub seen_added : Added (feed_of s h) (feed_of s k) out out'
      seen_added = taken_added s k store' out' _ looks l (v.says line') v.len_none v.number_next v.at_in v.added

    -- ---- a change
    module _ (c : is_change order.letter ≡ true) (ans : Answer) (store' ms : List ℕ)
        (x : Changed s h'.triple order xs (take h'.len line') store ans store' ms) where
      pub tell_room : length xs ≡ numbers_room → length ms ≡ most_masks → TellRoom order.letter ans.refusal s.post g xs ms
      tell_room lx lm =
          record {
            number_in = omega arith;
            masks_room = lm;
            street = λ e z. rw d (part_able.street (λ y. omega (arith, e, y)) (λ y. omega (arith, e, y)));
            post_in = x.post_in;
          }

      changes : changed (state_of s h') order.letter xs ans store' ms ≡ step (state_of s h') store (take h'.len line')
      changes =
          x.says h'.started h'.kept (λ e. started_same ∙ reads.early e)
          ∙ sym (ap (λ (b : Bool). cond b (changing (state_of s h') store order xs (take h'.len line')) (looking (state_of s h') store order xs)) c) ∙ acts

      module _ (k : Head) (out' : List ℕ) (lo : length store' ≡ length store)
          (v : Answered h' order.letter ans.refusal (told_text order.letter ans.refusal s.post g xs ms) out k.at out')
          (w : k ≡ answered_head h' order.letter ans.refusal k.at) (s' : Session) (q : s' ≡ (settled s ans).session) where
        abbrev letter : ℕ
        letter = order.letter

        abbrev y : ℕ
        y = (settled s ans).refusal

        same : ans.refusal ≡ y
        same = sym (answer_refusal ans.refusal 0 ans.session s)

        abbrev told : List ℕ
        told = told_by letter ans.refusal s xs ms

        told_is : told_text letter ans.refusal s.post g xs ms ≡ told
        told_is = ap (λ (u : Shape). told_text letter ans.refusal s.post u xs ms) d

        at_is : k.at ≡ h'.at + length (print_text (h'.number + 1) y 0 told)
        at_is = v.at_is ∙ ap₂ (λ (u : ℕ) (t : List ℕ). h'.at + length (print_text (h'.number + 1) u 0 t)) same told_is

        out_is : out' ≡ overwrite h'.at (print_text (h'.number + 1) y 0 told) out
        out_is = v.out_is ∙ ap₂ (λ (u : ℕ) (t : List ℕ). overwrite h'.at (print_text (h'.number + 1) u 0 t) out) same told_is

        state_is : state_of s' k ≡ held (settled s ans).session (cond (eqb letter 83) (eqb y 0) h'.started) h'.kept h'.triple
        state_is =
            ap (λ (u : Head). state_of s' u) w
            ∙ ap₂ (λ (u : Session) (j : ℕ). held u (cond (eqb letter 83) (eqb j 0) h'.started) h'.kept h'.triple) q same

        len_none : k.len ≡ 0
        len_none = ap (λ (u : Head). u.len) w

        number_next : k.number ≡ h'.number + 1
        number_next = ap (λ (u : Head). u.number) w

        says : running (feed_of s' k) store' line' out' ≡ left_by ended_line (changed (state_of s h') letter xs ans store' ms)
        unfolding changed
        says =
            answered_by h' out part_room s s' store store' k out' (changed (state_of s h') letter xs ans store' ms).given told len_none number_next state_is at_is out_is line'

        added : Added (feed_of s h') (feed_of s' k) out out'
        added = answered_added h' out part_room s s' k out' (print_text (h'.number + 1) y 0 told) at_is out_is

        pub changed_turned : running (feed_of s' k) store' line' out' ≡ turned closing before part
        changed_turned = taken_turned s' k store' out' _ changes lo says len_none number_next v.at_in added

        pub changed_fed : Fed (feed_of s h) (feed_of s' k) store' 1
        changed_fed = taken_fed s' k store' out' _ changes lo says len_none number_next v.at_in added

        pub changed_added : Added (feed_of s h) (feed_of s' k) out out'
        changed_added = taken_added s' k store' out' _ changes lo says len_none number_next v.at_in added
