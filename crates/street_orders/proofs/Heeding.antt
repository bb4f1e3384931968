-- The order of a broadcast line leads to what the line does.
use Prim.Native.Nat.{ℕ, zero, suc, ◌≤◌}
use mathlib.Core.Path.{◌≡◌, refl, ap, sym, ◌∙◌}
use mathlib.Core.List.{List, ◌++◌}
use mathlib.Core.Bool.{Bool, true, false}
use native.Mathlib.Omega.{arith}
use lib.ListN.{length, get_or, take, drop}
use lib.Seq.{take_at, take-take, length-take-le, get_or-take}
use Rattle.shape.specs.declared.Shape.{Shape}
use Rattle.shape.specs.Lengths.{v_length, masks_length}
use Rattle.refusal.specs.Refusal.{first, outcome}
use Rattle.forms.specs.Lines.{Message}
use Rattle.forms.specs.Forms.{message, line_tests}
use Rattle.lines.specs.declared.Line.{Line}
use Rattle.lines.specs.Reading.{read_refusal, line_as, list_as}
use Rattle.session.specs.declared.Session.{Session}
use Rattle.session.specs.Sessions.{shape_of, no_points, session_of}
use Rattle.street_store.specs.Sizes.{InStreet, numbers_room}
use Rattle.street_store.proofs.Keeping.{v_room}
use Rattle.street_states.specs.declared.State.{State}
use Rattle.street_states.specs.States.{refusing, leaving, unless}
use Rattle.street_postlines.specs.Steps.{heard_refusal, heard, dealing, keep_step, keep_halves_step, saying, hear_step}
use Rattle.street_orders.specs.declared.Order.{Order}
use Rattle.street_steps.specs.Stepping.{letters_step}
use Rattle.street_orders.specs.Orders.{changing, looking, acting, said_order, is_kept, Heard, Leads, lettered}
use Rattle.street_orders.proofs.Hearing as hearing

pub masks_count : (g : Shape) (xs : List ℕ) (k : ℕ) → InStreet g → length xs ≡ numbers_room → k ≡ masks_length g → k ≤ length xs
masks_count g xs k i l e = omega (arith, l, e, v_room g i)

pub masks_front : (g : Shape) (xs : List ℕ) (k : ℕ) → InStreet g → length xs ≡ numbers_room → k ≡ masks_length g → k ≡ length (take k xs)
masks_front g xs k i l e = sym (length-take-le k xs (masks_count g xs k i l e))

pub heard_is : (g : Shape) (s xs part : List ℕ) (k : ℕ) (said : Line) → InStreet g → length xs ≡ numbers_room → k ≡ masks_length g
    → said ≡ line_as (read_refusal g.n g.t g.points s (take k xs)) (message (v_length g) s)
    → part ≡ list_as (read_refusal g.n g.t g.points s (take k xs)) (message (v_length g) s) (take k xs) → length part ≡ length (take k xs)
    → Heard g s (said_order said) (part ++ drop k xs)
heard_is g s xs part k said i l e p q m =
    let n : length (take k xs) ≡ masks_length g = sym (masks_front g xs k i l e) ∙ e in
    record { before = take k xs; room = n; order_is = ap said_order p; numbers_are = take_at part (drop k xs) (masks_length g) (m ∙ n) ∙ q }

-- ---- by the letter
module _ (st : State) (store xs s : List ℕ) (letter row post : ℕ) where
  abbrev said : Order
  said = record { letter = letter; refusal = 0; row = row; post = post }

  act_deal : letter ≡ 68 → acting st store said xs s ≡ dealing st store row (get_or xs 0 0)
  unfolding changing
  act_deal e = rw e

  act_keep : letter ≡ 79 → acting st store said xs s ≡ keep_step st store row post (take (v_length (shape_of st.session)) xs)
  unfolding looking
  act_keep e = rw e

  act_masks : letter ≡ 77 → acting st store said xs s ≡ keep_halves_step st store row post (take (masks_length (shape_of st.session)) xs)
  unfolding looking
  act_masks e = rw e

module _ (st : State) (store : List ℕ) (m : Message) where
  say_deal : m.letter ≡ 68 → saying st store m ≡ dealing st store m.row (get_or m.numbers 0 0)
  say_deal e = rw e

  say_keep : m.letter ≡ 79 → saying st store m ≡ keep_step st store m.row m.post m.numbers
  say_keep e = rw e

  say_masks : m.letter ≡ 77 → saying st store m ≡ keep_halves_step st store m.row m.post m.numbers
  say_masks e = rw e

refused_acts : (st : State) (store xs s : List ℕ) (x : ℕ) → acting st store (record { letter = 0; refusal = x; row = 0; post = 0 }) xs s ≡ leaving (refusing st x) store
unfolding looking
refused_acts st store xs s x = refl

-- ---- whatever the state
module _ (g : Shape) (i : InStreet g) (s xs : List ℕ) (o : Order) (h : Heard g s o xs) where
  abbrev own : Session
  own = session_of g.n g.t 0 g.points no_points

  abbrev x₀ : ℕ
  x₀ = read_refusal g.n g.t g.points s h.before

  abbrev m₀ : Message
  m₀ = message (v_length g) s

  same : x₀ ≡ heard_refusal own s
  same = hearing.no_posts_lem own s h.before i h.room

  heard_same : (st : State) → shape_of st.session ≡ g → heard_refusal st.session s ≡ x₀
  unfolding heard_refusal
  heard_same st d = ap (λ (q : Shape). first (line_tests q.n (v_length q) s)) d ∙ sym same

  module _ (z : x₀ ≡ 0) where
    -- what the reader says, as the laws of `Hearing` have it
    zero_said : (line_as x₀ m₀).refusal ≡ 0
    zero_said = hearing.line_refusal_lem x₀ m₀ ∙ z

    numbers : take (masks_length g) xs ≡ list_as x₀ m₀ h.before
    numbers = h.numbers_are

    first_number : get_or xs 0 0 ≡ get_or m₀.numbers 0 0
    first_number =
        sym (get_or-take (masks_length g) xs 0 0 (omega arith))
        ∙ ap (λ (l : List ℕ). get_or l 0 0) (hearing.list_is own s h.before i h.room (line_as x₀ m₀) refl (take (masks_length g) xs) zero_said numbers)
        ∙ hearing.padded_first (masks_length g) m₀.numbers

    opening_numbers : get_or s 0 0 ≡ 79 → take (v_length g) xs ≡ m₀.numbers
    opening_numbers e =
        sym (shorter (v_length g) (masks_length g) (omega arith))
        ∙ hearing.opening_numbers own s h.before i h.room (line_as x₀ m₀) refl (take (masks_length g) xs) zero_said numbers e
      where
        shorter : (a b : ℕ) → a ≤ b → take a (take b xs) ≡ take a xs
        shorter a b l = take-take a b xs l

    masks_numbers : get_or s 0 0 ≡ 77 → take (masks_length g) xs ≡ m₀.numbers
    masks_numbers e = hearing.masks_numbers own s h.before i h.room (line_as x₀ m₀) refl (take (masks_length g) xs) zero_said numbers e

    post_in : (get_or s 0 0 ≡ 68 → ⊥) → (1 ≤ (line_as x₀ m₀).post) × ((line_as x₀ m₀).post ≤ g.n)
    post_in n = hearing.hear_post own s h.before i h.room (line_as x₀ m₀) refl (take (masks_length g) xs) zero_said numbers n

  abbrev Acted : Type 0
  Acted = x₀ ≡ 0 → (st : State) (store : List ℕ) → shape_of st.session ≡ g
      → acting st store (record { letter = get_or s 0 0; refusal = 0; row = m₀.row; post = m₀.post }) xs s ≡ saying st store m₀

  post_of_lem : x₀ ≡ 0 → (get_or s 0 0 ≡ 68 → ⊥) → (1 ≤ m₀.post) × (m₀.post ≤ g.n)
  unfolding outcome
  post_of_lem z n = rw z at (post_in z n)

  hears : (st : State) (store : List ℕ) → shape_of st.session ≡ g → (x : ℕ) → x₀ ≡ x → hear_step st store s ≡ unless x st store (saying st store m₀)
  unfolding hear_step
  hears st store d x p =
      ap (λ (y : ℕ). unless y st store (saying st store (heard st.session s))) (heard_same st d ∙ p)
      ∙ ap (λ (q : Shape). unless x st store (saying st store (message (v_length q) s))) d

  no_letter : (b : Bool) → b ≡ false → b ≡ true → ⊥
  no_letter true p q = let z : ◌≡◌ {A = ℕ} 0 1 = cc in omega arith
  no_letter false p q = let z : ◌≡◌ {A = ℕ} 0 1 = cc in omega arith

  leads_by : (l : ℕ) → get_or s 0 0 ≡ l → (l ≡ 83 → ⊥) → ((st : State) (store : List ℕ) → lettered s st store ≡ hear_step st store s) → Acted
      → (x : ℕ) → x₀ ≡ x → Leads g s (said_order (line_as x m₀)) xs (lettered s)
  unfolding outcome
  leads_by l e n t f zero p =
      record {
        says = λ st store d. f p st store d ∙ sym (hears st store d 0 p) ∙ sym (t st store);
        post_in = λ k. post_of_lem p (λ q. no_letter (is_kept 68) refl (rw q at k));
        no_start = λ z. n (sym e ∙ z);
      }
  leads_by l e n t f (suc k) p =
      record {
        says = λ st store d. refused_acts st store xs s (suc k) ∙ sym (hears st store d (suc k) p) ∙ sym (t st store);
        post_in = λ j. absurd (no_letter false refl j);
        no_start = λ z. omega (arith, z);
      }

  pub leads_deal : get_or s 0 0 ≡ 68 → Leads g s o xs (lettered s)
  unfolding letters_step
  leads_deal e =
      rw h.order_is
      (leads_by 68 e (λ z. omega (arith, z)) (λ st store. rw e)
      (λ z st store d. act_deal st store xs s (get_or s 0 0) m₀.row m₀.post e ∙ ap (dealing st store m₀.row) (first_number z) ∙ sym (say_deal st store m₀ e)) x₀ refl)

  pub leads_opening : get_or s 0 0 ≡ 79 → Leads g s o xs (lettered s)
  unfolding letters_step
  leads_opening e =
      rw h.order_is
      (leads_by 79 e (λ z. omega (arith, z)) (λ st store. rw e)
      (λ z st store d.
      act_keep st store xs s (get_or s 0 0) m₀.row m₀.post e
      ∙ ap (keep_step st store m₀.row m₀.post) (ap (λ (q : Shape). take (v_length q) xs) d ∙ opening_numbers z e)
      ∙ sym (say_keep st store m₀ e)) x₀ refl)

  pub leads_product : get_or s 0 0 ≡ 77 → Leads g s o xs (lettered s)
  unfolding letters_step
  leads_product e =
      rw h.order_is
      (leads_by 77 e (λ z. omega (arith, z)) (λ st store. rw e)
      (λ z st store d.
      act_masks st store xs s (get_or s 0 0) m₀.row m₀.post e
      ∙ ap (keep_halves_step st store m₀.row m₀.post) (ap (λ (q : Shape). take (masks_length q) xs) d ∙ masks_numbers z e)
      ∙ sym (say_masks st store m₀ e)) x₀ refl)
