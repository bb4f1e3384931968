-- Bytes of a line kept, a line read where it has ended, and the answer to one printed.
use Prim.Native.Nat.{ℕ, ◌+◌, ◌-◌, ◌≤◌, ◌<◌}
use mathlib.Core.Path.{◌≡◌, refl, ap, sym, ◌∙◌}
use mathlib.Core.List.{List, [], ◌∷◌, ◌++◌}
use mathlib.Core.Bool.{Bool, true, false, not, cond}
use native.Mathlib.Omega.{arith}
use borrow.Author.Tests.{ne_eqb}
use lib.ListN.{length, get_or, take, length-append}
use lib.Seq.{length-take-le}
use lib.Dec.{eqb}
use Rattle.shape.specs.declared.Shape.{Shape}
use Rattle.shape.specs.Lengths.{Valid, masks_length}
use Rattle.refusal.proofs.Endings.{refused, accepted}
use Rattle.csv_fields.specs.Fields.{overwrite}
use Rattle.csv_fields.proofs.Overwriting.{length_fields_le}
use Rattle.csv_fields.proofs.Laying.{length_written}
use Rattle.forms.specs.Lines as Lines
use Rattle.session.specs.declared.Session.{Session}
use Rattle.street_store.specs.Sizes.{most_masks, street_posts, told_room}
use Rattle.street_store.proofs.Keeping.{street_valid, v_room}
use Rattle.street_states.specs.declared.State.{State}
use Rattle.street_states.specs.declared.Head.{Head}
use Rattle.street_states.specs.States.{Stepped, first_state, state_of}
use Rattle.street_orders.specs.declared.Order.{Order}
use Rattle.street_interpreter.specs.declared.Outcome.{Outcome}
use Rattle.street_orders.specs.Orders.{Reads}
use Rattle.street_interpreter.specs.Changes.{Looked, looked}
use Rattle.street_answers.specs.Text.{answer_text, print_text, longest_print}
use Rattle.street_answers.proofs.Printing.{written_front, written_behind, answer_length}
use Rattle.street_splitting.specs.Lines.{kept_length, cut, laid}
use Rattle.street_feeds.specs.declared.Feed.{Feed}
use Rattle.street_feeds.specs.Program.{Running, left_by, answered, grown, closed, first_feed, running}
use Rattle.street_feeds.specs.Between.{Added, feed_of, grown_head, answered_head, turned, PartRead, told_text, TellRoom, Answered, Seen}

pub begin_is : (st : State) → st ≡ first_state → ◌≡◌ {A = Feed} (record { state = st; number = 0; len = 0; at = 0 }) first_feed
begin_is st e = ap (λ (s : State). record { state = s; number = 0; len = 0; at = 0 }) e

-- ---- bytes are kept
module _ (h : Head) (line part : List ℕ) (closing : Bool) where
  pub closing_line : closing ≡ true → line ≡ cond closing line (laid h.len part line)
  closing_line e = rw e

  pub closing_front : closing ≡ true → take h.len line ≡ cond closing (take h.len line) (cut (take h.len line ++ part))
  closing_front e = rw e

  pub closing_len : closing ≡ true → h.len ≡ cond closing h.len h.len
  closing_len e = rw e

  module _ (n : closing ≡ false) (len : ℕ) (line' : List ℕ) where
    pub grown_line : line' ≡ laid h.len part line → line' ≡ cond closing line (laid h.len part line)
    grown_line q = q ∙ rw n

    pub grown_front : take len line' ≡ cut (take h.len line ++ part) → take len line' ≡ cond closing (take h.len line) (cut (take h.len line ++ part))
    grown_front q = q ∙ rw n

    pub grown_len : len ≡ cond closing h.len len
    grown_len = rw n

-- ---- a line ends
module _ (part : List ℕ) (closing : Bool) (len : ℕ) where
  abbrev Ends : Bool
  Ends = cond closing (not (eqb len 0)) (eqb (get_or part (length part - 1) 0) 10)

  pub ends_closing : closing ≡ true → (b : Bool) → b ≡ not (eqb len 0) → b ≡ Ends
  ends_closing e b q = q ∙ rw e

  pub ends_feed : closing ≡ false → (b : Bool) → b ≡ eqb (get_or part (length part - 1) 0) 10 → b ≡ Ends
  ends_feed e b q = q ∙ rw e

-- ---- a start line is accepted
module _ (letter refusal : ℕ) (started : Bool) where
  pub starts_by : letter ≡ 83 → (b : Bool) → b ≡ eqb refusal 0 → b ≡ cond (eqb letter 83) (eqb refusal 0) started
  starts_by e b q = q ∙ rw e

  pub starts_not : (letter ≡ 83 → ⊥) → started ≡ cond (eqb letter 83) (eqb refusal 0) started
  starts_not n = rw (ne_eqb letter 83 n)

pub head_answered : (h : Head) (letter refusal at : ℕ) (b : Bool) → b ≡ cond (eqb letter 83) (eqb refusal 0) h.started
    → ◌≡◌ {A = Head} (record { started = b; kept = h.kept; triple = h.triple; number = h.number + 1; len = 0; at = at }) (answered_head h letter refusal at)
head_answered h letter refusal at b e =
    ap (λ (x : Bool). record { started = x; kept = h.kept; triple = h.triple; number = h.number + 1; len = 0; at = at }) e

-- ---- a part is read
module _ (g : Shape) (h grown-head : Head) (line part line' : List ℕ) (closing : Bool) (l : length line ≡ kept_length) (a : h.len ≤ kept_length)
    (p : grown-head ≡ grown_head h grown-head.len) (q : grown-head.len ≤ kept_length)
    (e : line' ≡ cond closing line (laid h.len part line))
    (f : take grown-head.len line' ≡ cond closing (take h.len line) (cut (take h.len line ++ part)))
    (k : grown-head.len ≡ cond closing h.len grown-head.len) where
  pub line_within : length line' ≡ length line → grown-head.len ≤ length line'
  line_within m = omega arith

  pub line_prefix : length line' ≡ length line → grown-head.len ≡ length (take grown-head.len line')
  line_prefix m = sym (length-take-le grown-head.len line' (line_within m))

  module _ (s : Session) (store out : List ℕ) where
    abbrev before : Running
    before = running (feed_of s h) store line out

    abbrev now' : Running
    now' = running (feed_of s grown-head) store line' out

    after_is : now' ≡ record { state = state_of s h; store = store; line = take grown-head.len line'; number = h.number; out = take h.at out }
    after_is = ap (λ (x : Head). record { state = state_of s x; store = store; line = take grown-head.len line'; number = x.number; out = take x.at out }) p

    turns : (b : Bool) → closing ≡ b → (ended : Bool) → ended ≡ cond b (not (eqb grown-head.len 0)) (eqb (get_or part (length part - 1) 0) 10)
        → turned b before part ≡ cond ended (answered now') now'
    unfolding closed grown
    turns true c ended t =
        let same : now' ≡ before =
        after_is ∙ ap (λ (x : List ℕ). record { state = state_of s h; store = store; line = x; number = h.number; out = take h.at out }) (rw c at f) in
        let len : grown-head.len ≡ h.len = rw c at k in
        let begun : length (take h.len line) ≡ h.len = length-take-le h.len line (omega arith) in
        rw (t, same, len, begun) (pick (eqb h.len 0))
      where
        pick : (z : Bool) → cond z before (answered before) ≡ cond (not z) (answered before) before
        pick true = refl
        pick false = refl
    turns false c ended t =
        let same : now' ≡ grown before part =
        after_is ∙ ap (λ (x : List ℕ). record { state = state_of s h; store = store; line = x; number = h.number; out = take h.at out }) (rw c at f) in
        rw (t, same)

  abbrev Ended : Bool
  Ended = cond closing (not (eqb grown-head.len 0)) (eqb (get_or part (length part - 1) 0) 10)

  pub part_ended : (b : Bool) (o : Order) (xs : List ℕ) → b ≡ Ended → b ≡ true → Reads h.started g (take grown-head.len line') o xs
      → PartRead g h line part closing (record { ended = true; order = o; head = grown-head }) line' xs
  part_ended b o xs t z r =
      record {
        head_is = p;
        len_in = q;
        line_is = e;
        reads = λ _. r;
        says = λ s store out. turns s store out closing refl true (sym z ∙ t);
      }

  pub part_begun : (b : Bool) (o : Order) (xs : List ℕ) → b ≡ Ended → b ≡ false
      → PartRead g h line part closing (record { ended = false; order = o; head = grown-head }) line' xs
  part_begun b o xs t z =
      record {
        head_is = p;
        len_in = q;
        line_is = e;
        reads = λ y. absurd (let x : ◌≡◌ {A = ℕ} 0 1 = cc in omega arith);
        says = λ s store out. turns s store out closing refl false (sym z ∙ t);
      }

-- ---- a line is answered
module _ (h : Head) (out : List ℕ) (room : h.at + longest_print ≤ length out) where
  pub print_limit : (number refusal value : ℕ) (told : List ℕ) → length told ≤ told_room → length (print_text number refusal value told) ≤ longest_print
  print_limit number refusal value told t =
      omega (arith, length-append (answer_text number refusal value) told, answer_length number refusal value)

  module _ (s s' : Session) (store store' : List ℕ) (r : Head) (out' : List ℕ) (given : Stepped) (told : List ℕ) where
    pub answered_by : r.len ≡ 0 → r.number ≡ h.number + 1 → state_of s' r ≡ given.state
        → r.at ≡ h.at + length (print_text (h.number + 1) given.refusal given.value told)
        → out' ≡ overwrite h.at (print_text (h.number + 1) given.refusal given.value told) out
        → (line : List ℕ) → running (feed_of s' r) store' line out' ≡ left_by (running (feed_of s h) store line out) (record { given = given; store = store'; told = told })
    answered_by z n st p q line =
        let text : List ℕ = print_text (h.number + 1) given.refusal given.value told in
        let w : take r.at out' ≡ take h.at out ++ text = rw (p, q) (written_front h.at text out (omega arith)) in
        rw (z, n, w, st)

  pub answered_added : (s s' : Session) (r : Head) (out' text : List ℕ) → r.at ≡ h.at + length text → out' ≡ overwrite h.at text out
      → Added (feed_of s h) (feed_of s' r) out out'
  answered_added s s' r out' text p q =
      record { grows = omega arith; behind = rw (p, q) (written_behind h.at text out (omega arith)) }

module _ (s : Session) (h : Head) (o : Order) (xs store out store' out' : List ℕ) (room : h.at + longest_print ≤ length out) (v : Outcome)
    (d : Looked s h.kept h.triple o xs store v store') (at : ℕ)
    (p : at ≡ h.at + length (print_text (h.number + 1) v.refusal v.value []))
    (q : out' ≡ overwrite h.at (print_text (h.number + 1) v.refusal v.value []) out) where
  abbrev next : Head
  next = record { started = h.started; kept = v.kept; triple = v.triple; number = h.number + 1; len = 0; at = at }

  pub line_seen : Seen s h o xs store out next store' out'
  line_seen =
      record {
        says = λ line.
            answered_by h out room s s store store' next out' (looked (state_of s h) v store').given [] refl refl refl p q line
            ∙ ap (left_by (running (feed_of s h) store line out)) (d.says h.started);
        len_none = refl;
        number_next = refl;
        at_in = omega (arith, print_limit h out room (h.number + 1) v.refusal v.value [] (omega arith));
        added = answered_added h out room s s next out' (print_text (h.number + 1) v.refusal v.value []) p q;
      }

-- ---- a change is answered
module _ (h : Head) (letter refusal post : ℕ) (g : Shape) (xs ms out : List ℕ) (t : TellRoom letter refusal post g xs ms) (room : h.at + longest_print ≤ length out) where
  abbrev told : List ℕ
  told = told_text letter refusal post g xs ms

  pub tell_number : 2 < length xs
  tell_number = omega (arith, t.number_in)

  module _ (at : ℕ) (out' : List ℕ) where
    pub told_plain : (letter ≡ 88 → ⊥) → at ≡ h.at + length (print_text (h.number + 1) refusal 0 [])
        → out' ≡ overwrite h.at (print_text (h.number + 1) refusal 0 []) out → Answered h letter refusal told out at out'
    told_plain n p q =
        rw (ne_eqb letter 88 n)
        (record { at_is = p; out_is = q; at_in = omega (arith, print_limit h out room (h.number + 1) refusal 0 [] (omega arith)) })

    pub told_refused : letter ≡ 88 → (refusal ≡ 0 → ⊥) → at ≡ h.at + length (print_text (h.number + 1) refusal 0 [])
        → out' ≡ overwrite h.at (print_text (h.number + 1) refusal 0 []) out → Answered h letter refusal told out at out'
    told_refused e n p q =
        let none : [] ≡ told = rw e (refused {A = List ℕ} refusal refusal _ [] refl n) in
        rw (← none)
        (record { at_is = p; out_is = q; at_in = omega (arith, print_limit h out room (h.number + 1) refusal 0 [] (omega arith)) })

    module _ (e : letter ≡ 88) (z : refusal ≡ 0) where
      pub tell_post : post ≤ street_posts
      tell_post = t.post_in e z

      pub tell_valid : Valid g
      tell_valid = street_valid g (t.street e z)

      module _ (count : ℕ) (k : count ≡ masks_length g) where
        pub tell_count : count ≤ length ms
        tell_count = omega (arith, t.masks_room, v_room g (t.street e z))

        pub tell_prefix : count ≡ length (take count ms)
        tell_prefix = sym (length-take-le count ms tell_count)

        pub tell_few : length (take count ms) ≤ most_masks
        tell_few = omega (arith, t.masks_room, tell_prefix, v_room g (t.street e z))

        abbrev line : List ℕ
        line = Lines.text (Lines.masks (get_or xs 2 0) post (take count ms))

        line_limit : length line ≤ told_room
        line_limit =
            omega (arith, length_written 77 (get_or xs 2 0 ∷ post ∷ []) (take count ms), length_fields_le (get_or xs 2 0 ∷ post ∷ []), length_fields_le (take count ms), tell_few)

        pub told_masks : at ≡ h.at + length (print_text (h.number + 1) 0 0 line)
            → out' ≡ overwrite h.at (print_text (h.number + 1) 0 0 line) out → Answered h letter refusal told out at out'
        told_masks p q =
            let all : line ≡ told = rw (e, ← k) (accepted {A = List ℕ} refusal refusal line line [] refl z refl) in
            rw (← all, z)
            (record { at_is = p; out_is = q; at_in = omega (arith, print_limit h out room (h.number + 1) 0 0 line line_limit) })
