-- What the example and the counterexamples share: three posts, two raw rows and a triple; and how premises are shown by computing.
use Prim.Native.Nat.{ℕ, zero, suc, ◌-◌, ◌≤◌, ◌<◌}
use mathlib.Core.Path.{◌≡◌, refl, sym}
use mathlib.Core.Logic.{◌≢◌}
use mathlib.Core.Bool.{true}
use mathlib.Core.List.{List, [], ◌∷◌, ◌++◌}
use native.Mathlib.Omega.{arith}
use borrow.Author.Tests.{eqb-true, ne_eqb}
use lib.Dec.{lit<, lit≤}
use lib.ListN.{length, get_or, replicate}
use Rattle.callers.specs.Sets.{shared}
use Rattle.field.specs.Arithmetic as Arithmetic
use Rattle.poly.specs.Counting.{All, Elements, count_from}
use Rattle.poly.specs.Polynomial.{value}
use Rattle.poly.specs.Interpolation.{nodal, weight, terms, interpolated}
use Rattle.shape.specs.Bounds.{row_count_of, last_row_at}
use Rattle.refusal.specs.Refusal.{outcome}
use Rattle.refusal.specs.Conditions.{any_beyond, bad_points}
use Rattle.parts.specs.Draw.{each_from, part}
use Rattle.factory.specs.Calls.{dealer_refusal}
use Rattle.session.specs.Rows.{combined, plus_sums}
use Rattle.session.specs.Sessions.{created}
use Rattle.load.specs.Load.{load_row_refusal_of, load_triple_refusal_of, with_triple}
use Rattle.deal.specs.Deal.{deal_refusal_of}
use Rattle.linear.specs.Linear.{linear_refusal_of}
use Rattle.message.specs.Message.{message_refusal_of}
use Rattle.blocks.specs.Blocks as Blocks
use Rattle.agreement.specs.Agreement.{all_pairs}
use Rattle.session.specs.declared.Session.{Session}
use Rattle.accepting.specs.Accepting as Accepting
use Rattle.opening.specs.Walking.{sent, accepts}
use Rattle.opening.specs.Opening.{open_refusal_of}
use Rattle.product_masks.specs.Masks.{masks_refusal_of, mask_numbers_of}
use Rattle.collect.specs.Collect.{collect_refusal}
use Rattle.multiply.specs.Multiply.{product_row, with_product, multiply_refusal_of}
use Rattle.terms.specs.Listed.{products_of, padded}
use Rattle.relation.specs.Tests.{each_at_of, named_in, named_twice_of}
use Rattle.relation.specs.Masks.{relation_masks_refusal, masked_terms, term_masks}
use Rattle.relation.specs.Finish.{record_tests, relation_finish_refusal, with_products, plus_terms, finished_terms}
use Rattle.csv_fields.specs.Fields.{fields, fields_at}
use Rattle.decimal.specs.Numeral.{last_digits, size_within, leading, value_after, field_of}
use Rattle.forms.specs.Forms.{form_of}
use Rattle.dealers.specs.State.{overlong, bad_state, first_after, chosen, line_in}
use Rattle.dealers.specs.Calls.{place_refusal_of, count_refusal, taken_refusal, said_row, said_number, whose}
use Rattle.runs.specs.Draws.{Draw, IsRaw, Sound, IsDraw, raw_length, triple_length, point_of, raw_draw, triple_draw, raw_pack, triple_pack}
use Rattle.runs.specs.Outline.{Taking, nothing_taken, a_row_pack, a_triple_pack, a_number, a_record, two_records, takes, Given, Move, moves}
use Rattle.runs.specs.Calls.{Post, Actual, Call, deal, perform, new_post, at}
use Rattle.runs.specs.Orders as Orders
use Rattle.runs.specs.Orders.{Order, place, turn, Desk, carry, no_call, a_call, said_call, turn_call, comes_to}
use Rattle.runs.proofs.Outlines.{all_every}
use Rattle.factory.proofs.Laws.{passes_elements}
use Rattle.correctness.specs.History.{Event, World, desk, step, history, Each}
use Rattle.correctness.specs.Ledger.{Written, Plain, of_deal, of_row, of_times, of_fee, of_more, of_product}
use Rattle.correctness.specs.Truth.{OwnPart, EnoughTrue, TrueWith, TrueFinish}
use Rattle.correctness_examples.specs.Station.{plan, draw_with, ledger, Everyone}

-- `refl` proves it where `unfolding Computes` opens the calls' definitions
unfoldable pub Computes : {A : Type 0} → A → A → Type 0
unfolding Arithmetic.sum Arithmetic.product Arithmetic.difference Arithmetic.euclid Arithmetic.inverse value count_from nodal weight terms interpolated outcome any_beyond each_from part dealer_refusal combined plus_sums created bad_points load_row_refusal_of load_triple_refusal_of with_triple deal_refusal_of linear_refusal_of message_refusal_of Blocks.bad_block_of Blocks.bad_blocks Blocks.sent Accepting.accepts Accepting.share Accepting.passing Accepting.walk Accepting.opened Accepting.disagree all_pairs open_refusal_of masks_refusal_of mask_numbers_of collect_refusal multiply_refusal_of product_row with_product products_of padded each_at_of named_in named_twice_of relation_masks_refusal masked_terms term_masks record_tests relation_finish_refusal with_products plus_terms finished_terms fields last_digits size_within point_of raw_draw triple_draw raw_pack triple_pack perform new_post at shared leading value_after field_of fields_at form_of carry turn_call overlong bad_state first_after chosen place_refusal_of count_refusal taken_refusal
Computes x y = x ≡ y

-- ---- plan, draws and ledger

pub sound : Sound plan
unfolding plan
sound = record { posts = refl; counted = refl; raws = raws; triples = λ r e. let g = eqb-true r 2 e in omega arith }
  where
    raws : (r : ℕ) → IsRaw (plan.raw r) → r ≤ last_row_at
    raws zero h = lit≤ tt
    raws (suc zero) h = lit≤ tt
    raws (suc (suc r)) h = absurd h

pub none_there : (k r : ℕ) → ◌≡◌ {A = List ℕ} (get_or (replicate k []) r []) []
none_there zero r = refl
none_there (suc k) zero = refl
none_there (suc k) (suc r) = none_there k r

pub is_draw : (x : List ℕ) → length x ≡ 23 → Elements x → IsDraw plan (draw_with x)
unfolding Computes plan draw_with
is_draw x many low = record {
  posts = refl;
  points = ((lit≤ tt, lit< tt), ((lit≤ tt, lit< tt), ((lit≤ tt, lit< tt), tt)));
  raws = record { count = refl; each = raws };
  triples = record { count = refl; each = triples };
}
  where
    raws : (r : ℕ) → r < row_count_of → (length (get_or (draw_with x).raws r []) ≡ raw_length plan r) × Elements (get_or (draw_with x).raws r [])
    raws zero h = (refl, passes_elements (get_or (draw_with x).raws 0 []) refl)
    raws (suc zero) h = (refl, passes_elements (get_or (draw_with x).raws 1 []) refl)
    raws (suc (suc r)) h = rw (none_there (row_count_of - 2) r) (refl, tt)

    triples : (r : ℕ) → r < row_count_of → (length (get_or (draw_with x).triples r []) ≡ triple_length plan r) × Elements (get_or (draw_with x).triples r [])
    triples zero h = (refl, tt)
    triples (suc zero) h = (refl, tt)
    triples (suc (suc zero)) h = (many, low)
    triples (suc (suc (suc r))) h = rw (none_there (row_count_of - 3) r, ne_eqb (suc (suc (suc r))) 2 (omega arith)) (refl, tt)

pub plain_6 : Plain ledger 0 6
unfolding ledger
plain_6 = of_deal

pub plain_18 : Plain ledger 7 18
unfolding Computes ledger
plain_18 = of_more (of_row {a = 0} {x = 6} of_deal) (of_more (of_times {s = 2} {b = 0} {y = 6} of_deal) (of_fee {k = 0}))

pub plain_42 : Plain ledger 4 42
unfolding Computes ledger
plain_42 = of_product {k = 2} {a = 0} {b = 1} {x = 6} {y = 7} of_deal of_deal

-- ---- premises, part by part

-- two accepted posts with true polynomials, where t is 1
abbrev Counts : (ℕ → List ℕ → Type 0) → Session → List ℕ → List ℕ → ℕ → Type 0
Counts P s row blocks j = (1 ≤ j) × (j ≤ s.n) × (accepts s row blocks j ≡ true) × (j ≢ s.post → P j (sent s row blocks j))

pub two_true : {P : ℕ → List ℕ → Type 0} {s : Session} {row blocks : List ℕ} (j k : ℕ) → s.t ≡ 1 → j ≢ k → Counts P s row blocks j → Counts P s row blocks k
    → EnoughTrue P s row blocks
two_true j k t ne a b =
    record { good = j ∷ k ∷ []; many = omega arith; different = (((λ e. ne (sym e)), tt), (tt, tt)); theirs = (a, (b, tt)) }

-- the premises with truth by all posts, each asked of posts of its own: A load their own parts, B keep to the ledger, C finish truly
pub record Asked (draw : Draw) (A B C : ℕ → Type 0) (es : List Event) (w : World) : Type 0 where
  pub is_draw : IsDraw plan draw
  pub parts : Each A (λ i c v. OwnPart plan draw i c) es w
  pub ledger : Each B (λ i c v. Written draw ledger c) es w
  pub finishes : Each C (λ i c v. TrueFinish Everyone v (v.posts i) c) es w

pub all_join : (P : Event → Type 0) (xs ys : List Event) → All P xs → All P ys → All P (xs ++ ys)
all_join P [] ys a b = b
all_join P (x ∷ xs) ys a b = (a.0, all_join P xs ys a.1 b)

-- what is asked of the call that a turn comes to, which is a deal if it is one
turn_deals : (P : Call → Type 0) → ((r c : ℕ) → P (deal r c)) → (s : Session) (rows state : List ℕ) → Orders.Asked P (turn_call s rows state)
unfolding turn_call outcome
turn_deals P h s rows state = by_count (count_refusal s rows state)
  where
    by_line : (line : List ℕ) (t : ℕ) → Orders.Asked P (outcome t (a_call (deal (said_row line) (said_number line))) no_call)
    by_line line zero = h (said_row line) (said_number line)
    by_line line (suc k) = tt

    by_dealer : (d : ℕ) → Orders.Asked P (whose d no_call (λ x. said_call (line_in state x)))
    by_dealer zero = tt
    by_dealer (suc d) = by_line (line_in state (suc d)) (taken_refusal (line_in state (suc d)))

    by_count : (k : ℕ) → Orders.Asked P (outcome k (whose (chosen state) no_call (λ x. said_call (line_in state x))) no_call)
    by_count zero = by_dealer (chosen state)
    by_count (suc k) = tt

-- what holds of an event's call, whatever the posts are then; of a turn, of every deal
abbrev of_order : (ℕ → Call → Type 0) → ℕ → Order → Type 0
of_order P i (Orders.call c) = P i c
of_order P i (place d line) = Unit {0}
of_order P i turn = (r c : ℕ) → P i (deal r c)

abbrev pub Of : (ℕ → Call → Type 0) → Event → Type 0
Of P e = of_order P e.post e.order

module _ (S : ℕ → Type 0) where
  pub each_join : (P : ℕ → Call → World → Type 0) (xs ys : List Event) (w : World) → Each S P xs w → Each S P ys (history xs w) → Each S P (xs ++ ys) w
  each_join P [] ys w a b = b
  each_join P (x ∷ xs) ys w a b = (a.0, each_join P xs ys (step x w) a.1 b)

  asks : (P : ℕ → Call → Type 0) (i : ℕ) (o : Order) (q : Desk) → of_order P i o → Orders.Asked (P i) (comes_to o q)
  asks P i (Orders.call c) q h = h
  asks P i (place d line) q h = tt
  asks P i turn q h = turn_deals (P i) h q.post.session q.post.rows q.state

  pub each_of : (P : ℕ → Call → Type 0) (es : List Event) (w : World) → All (Of P) es → Each S (λ i c v. P i c) es w
  each_of P [] w a = tt
  each_of P (e ∷ es) w a = ((λ m z. asks P e.post e.order (desk w e.post) a.0), each_of P es (step e w) a.1)

-- no records of masks among what the events' calls are given
abbrev QuietWith : Taking → Type 0 → Type 0
QuietWith nothing_taken A = A
QuietWith (a_row_pack r) A = A
QuietWith (a_triple_pack r) A = A
QuietWith (a_number r) A = A
QuietWith (a_record r) A = A
QuietWith (two_records r) A = ⊥

abbrev QuietThen : List (Move Actual) → Type 0 → Type 0
QuietThen [] A = A
QuietThen (m ∷ ms) A = QuietWith (takes m.0) (QuietThen ms A)

abbrev quiet_order : Order → Type 0 → Type 0
quiet_order (Orders.call c) A = QuietThen (moves c) A
quiet_order (place d line) A = A
quiet_order turn A = A

abbrev pub Quiet : List Event → Type 0
Quiet [] = Unit {0}
Quiet (e ∷ es) = quiet_order e.order (Quiet es)

module _ (S : ℕ → Type 0) (w : World) (q : Post) where
  quiet_with : (A : Type 0) (t : Taking) (x : Given Actual t) → QuietWith t A → TrueWith S w q t x × A
  quiet_with A nothing_taken x a = (tt, a)
  quiet_with A (a_row_pack r) x a = (tt, a)
  quiet_with A (a_triple_pack r) x a = (tt, a)
  quiet_with A (a_number r) x a = (tt, a)
  quiet_with A (a_record r) x a = (tt, a)
  quiet_with A (two_records r) x a = absurd a

  quiet_call : (A : Type 0) (ms : List (Move Actual)) → QuietThen ms A → All (λ m. TrueWith S w q (takes m.0) m.1) ms × A
  quiet_call A [] a = (tt, a)
  quiet_call A (m ∷ ms) a =
      let h = quiet_with (QuietThen ms A) (takes m.0) m.1 a in
      let k = quiet_call A ms h.1 in
      ((h.0, k.0), k.1)

  quiet_order_lem : (A : Type 0) (o : Order) (state : List ℕ) → quiet_order o A → Orders.Asked (TrueFinish S w q) (comes_to o (record { post = q; state = state })) × A
  quiet_order_lem A (Orders.call c) state a = let k = quiet_call A (moves c) a in (all_every _ (moves c) k.0, k.1)
  quiet_order_lem A (place d line) state a = (tt, a)
  quiet_order_lem A turn state a = (turn_deals (TrueFinish S w q) (λ r c. tt) q.session q.rows state, a)

-- of orders of the posts S, with truth by the posts T
pub each_quiet : (S T : ℕ → Type 0) (es : List Event) (w : World) → Quiet es
    → Each S (λ i c v. TrueFinish T v (v.posts i) c) es w
each_quiet S T [] w h = tt
each_quiet S T (e ∷ es) w h =
    let k = quiet_order_lem T w (w.posts e.post) (Quiet es) e.order (w.states e.post) h in
    ((λ m z. k.0), each_quiet S T es (step e w) k.1)
