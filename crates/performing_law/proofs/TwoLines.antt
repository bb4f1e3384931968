-- The records of `O` and `M` lines over one line and over two.
use Prim.Native.Nat.{ℕ, zero, suc, ◌+◌, ◌*◌, ◌≤◌}
use mathlib.Core.Path.{◌≡◌, refl, ap, sym, subst, ◌∙◌}
use mathlib.Core.Bool.{Bool, true, false}
use mathlib.Core.List.{List}
use native.Mathlib.Omega.{arith}
use borrow.Author.Tests.{eqb-true, eqb-false}
use lib.Dec.{eqb}
use lib.ListN.{length, drop, replicate, length-drop, take-append-drop}
use lib.Seq.{length-take-le}
use Rattle.shape.specs.Lengths.{record_length, rows_length}
use Rattle.refusal.specs.Refusal.{outcome}
use Rattle.session.specs.declared.Session.{Session}
use Rattle.session.specs.Sessions.{shape_of, answer}
use Rattle.street_store.specs.Sizes.{openings_at, masks_a_at, masks_b_at, store_room, record_room, InStreet}
use Rattle.street_store.specs.Records.{record_if, kept, record_for}
use Rattle.street_store.proofs.Keeping.{record_room_is}
use Rattle.street_states.specs.declared.State.{State}
use Rattle.street_states.specs.States.{After, keeping_row, keeping_triple, refusing, leaving, session_rows}
use Rattle.street_postlines.specs.Steps.{keep_step, keep_masks_step}
use Rattle.street_steps.specs.Stepping.{Ready}
use Rattle.performing_law.specs.Records.{Stored}
use Rattle.performing_law.specs.TwoLines.{record_of, no_blocks, put_into, KeptFor, FromPost, Finds, Opens, FinishesWith, opening_line, masks_line, open_line, finish_line, OneLine, BehindOpening, BehindMasks, StreetRecords}
use Rattle.performing_law.proofs.Theorems.{street_performs}
use Rattle.performing_law.proofs.Keeping.{kept_length_is, opening_is, opening_done, masks_is, masks_room, masks_done}

-- ---- one line
-- an opening leaves the session, refused or not
unchanged : (x v : ℕ) (s : Session) → (answer x v s s).session ≡ s
unfolding outcome
unchanged zero v s = refl
unchanged (suc x) v s = refl

pub same_state : (a b : State) → a.session ≡ b.session → a.started ≡ b.started → a.kept ≡ b.kept → a.triple ≡ b.triple → a ≡ b
same_state a b e f g h =
    ap (λ (x : Session). record { session = x; started = a.started; kept = a.kept; triple = a.triple }) e
    ∙ ap (λ (x : Bool). record { session = b.session; started = x; kept = a.kept; triple = a.triple }) f
    ∙ ap (λ (x : ℕ). record { session = b.session; started = b.started; kept = x; triple = a.triple }) g
    ∙ ap (λ (x : ℕ). record { session = b.session; started = b.started; kept = b.kept; triple = x }) h

module _ (st : State) (store : List ℕ) (started : st.started ≡ true) (ready : Ready st store) where
  abbrev own : Session
  own = st.session

  street : InStreet (shape_of own)
  street = ready.in_range started

  -- the record that a line finds
  found : (at last named : ℕ) (blocks : List ℕ) → at + record_room ≤ store_room → Finds st store at last named blocks
      → blocks ≡ record_for at (shape_of st.session) last named store
  found at last named blocks place f = go (eqb last named) refl
    where
      long : length (record_of st at store) ≡ own.n * (own.points * own.t + 2)
      long =
          let k : own.points * own.t + 1 + 1 ≡ own.points * own.t + 2 = omega arith in
          length-take-le (record_length (shape_of own)) (drop at store) (omega (arith, record_room_is (shape_of own) street, length-drop at store, ready.store_room_is))
          ∙ ap (λ (j : ℕ). own.n * j) k

      go : (b : Bool) → eqb last named ≡ b → blocks ≡ record_if b (record_of st at store)
      go true e = f.same (eqb-true last named e)
      go false e = f.other (eqb-false last named e) ∙ ap (λ (j : ℕ). replicate j 0) (sym long)

  -- ---- `G` and `F`
  opened : (row : ℕ) (blocks : List ℕ) → row ≤ 95 → Finds st store openings_at st.kept row blocks
      → Opens own (session_rows st store) st store row blocks (open_line st store row)
  opened row blocks low f =
      let d = (street_performs st store started).opened row low in
      rw (found openings_at st.kept row blocks (omega arith) f)
      (record {
        refusal = d.acts.refusal;
        value = d.acts.value;
        state = same_state _ st (d.acts.session ∙ unchanged _ _ own) d.acts.started d.acts.kept d.acts.triple;
        store_kept = d.acts.rows_left ∙ take-append-drop (rows_length (shape_of own)) store;
        quiet = d.quiet;
      })

  finish : (first : ℕ) (blocks_a blocks_b : List ℕ) → first ≤ 93 → Finds st store masks_a_at st.triple first blocks_a
      → Finds st store masks_b_at st.triple first blocks_b
      → FinishesWith own (session_rows st store) st store first blocks_a blocks_b (finish_line st store first)
  finish first blocks_a blocks_b low f g =
      rw (found masks_a_at st.triple first blocks_a (omega arith) f, found masks_b_at st.triple first blocks_b (omega arith) g)
      ((street_performs st store started).finish first low)

  -- ---- `O`
  module _ (row post : ℕ) (xs blocks : List ℕ) (low : row ≤ 95) (from : FromPost own post xs) (f : Finds st store openings_at st.kept row blocks) where
    abbrev opening_store : List ℕ
    opening_store = kept openings_at (shape_of own) (eqb st.kept row) post xs store

    opening_step : opening_line st store row post xs ≡ leaving (refusing (keeping_row st row) 0) opening_store
    unfolding keep_step
    opening_step =
        opening_is st street store started ready.store_room_is post from.low from.high row xs low from.long from.elements

    opening_kept : KeptFor st row st.triple (opening_line st store row post xs)
    opening_kept =
        rw opening_step
        (record {
          session = refl;
          started = refl;
          kept = refl;
          triple_is = refl;
          refusal = refl;
          value = refl;
          quiet = record { told = refl };
        })

    abbrev OpeningStored : After → Type 0
    OpeningStored a = Stored st store (put_into st blocks post xs) (record_of st masks_a_at store) (record_of st masks_b_at store) a

    opening_stored : OpeningStored (opening_line st store row post xs)
    opening_stored =
        rw (found openings_at st.kept row blocks (omega arith) f)
        (opening_done st street store started ready.store_room_is post from.low from.high row xs low from.long from.elements).1

    opening_ready : Ready (keeping_row st row) opening_store
    opening_ready =
        record {
          store_room_is =
              kept_length_is st street store ready.store_room_is openings_at (omega arith) (eqb st.kept row) post from.low from.high xs from.long
              from.elements;
          in_range = ready.in_range;
        }

  -- ---- `M`
  module _ (first post : ℕ) (xs ys blocks_a blocks_b : List ℕ) (low : first ≤ 93) (from : FromPost own post xs) (from' : FromPost own post ys)
      (f : Finds st store masks_a_at st.triple first blocks_a) (g : Finds st store masks_b_at st.triple first blocks_b) where
    abbrev masks_store : List ℕ
    masks_store =
        let same = eqb st.triple first in kept masks_b_at (shape_of own) same post ys (kept masks_a_at (shape_of own) same post xs store)

    masks_step : masks_line st store first post xs ys ≡ leaving (refusing (keeping_triple st first) 0) masks_store
    unfolding keep_masks_step
    masks_step =
        masks_is st street store started ready.store_room_is post from.low from.high first xs ys low from.long from'.long from.elements
        from'.elements

    masks_kept : KeptFor st st.kept first (masks_line st store first post xs ys)
    masks_kept =
        rw masks_step
        (record {
          session = refl;
          started = refl;
          kept = refl;
          triple_is = refl;
          refusal = refl;
          value = refl;
          quiet = record { told = refl };
        })

    abbrev MasksStored : After → Type 0
    MasksStored a = Stored st store (record_of st openings_at store) (put_into st blocks_a post xs) (put_into st blocks_b post ys) a

    masks_stored : MasksStored (masks_line st store first post xs ys)
    masks_stored =
        rw (found masks_a_at st.triple first blocks_a (omega arith) f, found masks_b_at st.triple first blocks_b (omega arith) g)
        (masks_done st street store started ready.store_room_is post from.low from.high first xs ys low from.long from'.long from.elements
        from'.elements).1

    masks_ready : Ready (keeping_triple st first) masks_store
    masks_ready =
        record {
          store_room_is =
              masks_room st street store started ready.store_room_is post from.low from.high first xs ys low from.long from'.long
              from.elements from'.elements;
          in_range = ready.in_range;
        }

  one_line : OneLine st store
  one_line =
      record {
        opening = λ row post xs blocks low from f. (opening_kept row post xs blocks low from f, opening_stored row post xs blocks low from f);
        masks =
            λ first post xs ys a b low from from' f g.
            (masks_kept first post xs ys a b low from from' f g, masks_stored first post xs ys a b low from from' f g);
        opened = opened;
        finish = finish;
      }

-- ---- two lines
-- what the first line named, the second finds as it was left; another finds nothing
module _ (st : State) (store : List ℕ) (at named : ℕ) where
  finds_left : (blocks : List ℕ) → record_of st at store ≡ blocks → Finds st store at named named blocks
  finds_left blocks e = record { same = λ _. sym e; other = λ n. absurd (n refl) }

  finds_none : (other : ℕ) → (named ≡ other → ⊥) → Finds st store at named other (no_blocks st)
  finds_none other n = record { same = λ e. absurd (n e); other = λ _. refl }

module _ (st : State) (store : List ℕ) (started : st.started ≡ true) (ready : Ready st store) where
  module _ (row post : ℕ) (xs blocks : List ℕ) (low : row ≤ 95) (from : FromPost st.session post xs)
      (f : Finds st store openings_at st.kept row blocks) where
    abbrev left : State
    left = keeping_row st row

    abbrev behind : List ℕ
    behind = opening_store st store started ready row post xs blocks low from f

    second : OneLine left behind
    second = one_line left behind started (opening_ready st store started ready row post xs blocks low from f)

    stored : Stored st store (put_into st blocks post xs) (record_of st masks_a_at store) (record_of st masks_b_at store) (leaving (refusing left 0) behind)
    stored =
        subst (OpeningStored st store started ready row post xs blocks low from f) (opening_step st store started ready row post xs blocks low from f)
        (opening_stored st store started ready row post xs blocks low from f)

    behind_opening : BehindOpening st store row post xs blocks (opening_line st store row post xs)
    behind_opening =
        rw (opening_step st store started ready row post xs blocks low from f)
        (record {
          open_same = rw (← stored.rows) (second.opened row _ low (finds_left left behind openings_at row _ stored.openings_are));
          open_other = λ row' low' n. rw (← stored.rows) (second.opened row' _ low' (finds_none left behind openings_at row row' n));
          opening_same =
              λ post' xs' from'. (second.opening row post' xs' _ low from' (finds_left left behind openings_at row _ stored.openings_are)).1.openings_are;
          opening_other = λ row' post' xs' low' n from'. (second.opening row' post' xs' _ low' from' (finds_none left behind openings_at row row' n)).1.openings_are;
        })

  module _ (first post : ℕ) (xs ys blocks_a blocks_b : List ℕ) (low : first ≤ 93) (from : FromPost st.session post xs) (from' : FromPost st.session post ys)
      (f : Finds st store masks_a_at st.triple first blocks_a) (g : Finds st store masks_b_at st.triple first blocks_b) where
    abbrev masked : State
    masked = keeping_triple st first

    abbrev put : List ℕ
    put = masks_store st store started ready first post xs ys blocks_a blocks_b low from from' f g

    next : OneLine masked put
    next = one_line masked put started (masks_ready st store started ready first post xs ys blocks_a blocks_b low from from' f g)

    stored_masks : Stored st store (record_of st openings_at store) (put_into st blocks_a post xs) (put_into st blocks_b post ys) (leaving (refusing masked 0) put)
    stored_masks =
        subst (MasksStored st store started ready first post xs ys blocks_a blocks_b low from from' f g)
        (masks_step st store started ready first post xs ys blocks_a blocks_b low from from' f g)
        (masks_stored st store started ready first post xs ys blocks_a blocks_b low from from' f g)

    found_a : Finds masked put masks_a_at first first (put_into st blocks_a post xs)
    found_a = finds_left masked put masks_a_at first _ stored_masks.masks_a_are

    found_b : Finds masked put masks_b_at first first (put_into st blocks_b post ys)
    found_b = finds_left masked put masks_b_at first _ stored_masks.masks_b_are

    none : (at first' : ℕ) → (first ≡ first' → ⊥) → Finds masked put at first first' (no_blocks st)
    none at first' n = finds_none masked put at first first' n

    behind_masks : BehindMasks st store first post xs ys blocks_a blocks_b (masks_line st store first post xs ys)
    behind_masks =
        rw (masks_step st store started ready first post xs ys blocks_a blocks_b low from from' f g)
        (record {
          finish_same = rw (← stored_masks.rows) (next.finish first _ _ low found_a found_b);
          finish_other = λ first' low' n. rw (← stored_masks.rows) (next.finish first' _ _ low' (none masks_a_at first' n) (none masks_b_at first' n));
          masks_same =
              λ post' xs' ys' fx fy.
              let r = (next.masks first post' xs' ys' _ _ low fx fy found_a found_b).1 in
              (r.masks_a_are, r.masks_b_are);
          masks_other =
              λ first' post' xs' ys' low' n fx fy.
              let r = (next.masks first' post' xs' ys' _ _ low' fx fy (none masks_a_at first' n) (none masks_b_at first' n)).1 in
              (r.masks_a_are, r.masks_b_are);
        })

pub street_records : StreetRecords
street_records st store started ready = (
  one_line st store started ready,
  record {
    opening = λ row post xs blocks low from f. behind_opening st store started ready row post xs blocks low from f;
    masks =
        λ first post xs ys a b low from from' f g. behind_masks st store started ready first post xs ys a b low from from' f g;
  },
)
