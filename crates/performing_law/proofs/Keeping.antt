-- An `O` and an `M` line put their message into the record of their kind, and leave the rest of the store.
use Prim.Native.Nat.{ℕ, ◌+◌, ◌-◌, ◌≤◌, ◌<◌}
use mathlib.Core.Path.{◌≡◌, refl, ap, ap₂, sym, subst, ◌∙◌}
use mathlib.Core.Bool.{Bool, true, false, not, ◌||◌}
use mathlib.Core.List.{List, ◌∷◌, ◌++◌}
use native.Mathlib.Omega.{arith}
use borrow.Author.Tests.{le-ltb, eq-eqb}
use lib.Dec.{eqb}
use lib.ListN.{length, take, drop, length-drop, length-append, length-replicate}
use lib.Seq.{length-take-le, take_at, drop_at}
use Rattle.lists.proofs.Parts.{length_put, part_same, part_before, part_after}
use Rattle.poly.specs.Counting.{Elements}
use Rattle.parts.proofs.Laws.{elements_append}
use Rattle.shape.specs.Bounds.{fewest_posts, most_posts, most_points, last_row_at, last_triple}
use Rattle.shape.specs.Lengths.{v_length, block_length, record_length, rows_length}
use Rattle.refusal.specs.Refusal.{outcome}
use Rattle.refusal.proofs.Laws.{not_refused}
use Rattle.decimal.specs.Numeral.{tens}
use Rattle.csv_fields.specs.Fields.{written}
use Rattle.forms.specs.Lines.{Message, opening, masks, text}
use Rattle.forms.specs.Forms.{Sent}
use Rattle.forms.proofs.RoundTrip.{written_reads_back}
use Rattle.session.specs.Sessions.{shape_of}
use Rattle.session.proofs.RowLaws.{length_with_row}
use Rattle.records.specs.Records.{put_tests, put_refusal_of, put_record, with_block, block_of}
use Rattle.factory.proofs.Laws.{elements_pass}
use Rattle.street_store.specs.Sizes.{openings_at, masks_a_at, masks_b_at, store_room, record_room, InStreet, longest_line}
use Rattle.street_store.specs.Records.{record_at, record_if, kept, record_for}
use Rattle.street_store.proofs.Keeping.{v_room, row_room, record_room_is}
use Rattle.street_states.specs.declared.State.{State}
use Rattle.street_states.specs.States.{After, keeping_row, keeping_triple, refusing}
use Rattle.street_postlines.specs.Steps.{heard_refusal, keep_step, keep_masks_step, keep_halves_step, saying, hear_step}
use Rattle.street_steps.specs.Stepping.{letters_step, late_step, step}
use Rattle.performing_law.specs.Records.{Stored, StreetKeeps}
use Rattle.performing_law.proofs.Heard.{line_short}

none : {a b : Bool} → a ≡ false → b ≡ false → (a || b) ≡ false
none e f = ap₂ ◌||◌ e f

module _ (st : State) (i : InStreet (shape_of st.session)) where
  abbrev n : ℕ
  n = st.session.n

  abbrev size : ℕ
  size = record_length (shape_of st.session)

  fits : size ≤ record_room
  fits = record_room_is (shape_of st.session) i

  -- ---- the record that a line finds
  found_long : (same : Bool) (l : List ℕ) → length (record_if same l) ≡ length l
  found_long true l = refl
  found_long false l = length-replicate (length l) 0

  module _ (l : List ℕ) (room : length l ≡ store_room) (at : ℕ) (place : at + record_room ≤ store_room) (same : Bool) (post : ℕ) (low : 1 ≤ post) (high : post ≤ n)
      (xs : List ℕ) (long : length xs ≡ v_length (shape_of st.session)) (elements : Elements xs) where
    abbrev found : List ℕ
    found = record_if same (record_at at (shape_of st.session) l)

    length_found : length found ≡ size
    length_found = found_long same _ ∙ length-take-le size (drop at l) (omega (arith, fits, length-drop at l))

    -- the library's call does not refuse it
    put_passes : put_refusal_of n st.session.t st.session.points found post xs ≡ 0
    unfolding put_refusal_of
    put_passes =
        let g = shape_of st.session in
        let v = i.valid in
        not_refused (put_tests n st.session.t st.session.points found post xs) (
          none (le-ltb n fewest_posts v.n_in.0) (le-ltb most_posts n v.n_in.1),
          (
            none (le-ltb g.t 1 v.t_in.0) (le-ltb (n - 1) g.t v.t_in.1),
            (
              none (le-ltb post 1 low) (le-ltb n post high),
              (
                none (le-ltb g.points 1 v.points_in_is.0) (le-ltb most_points g.points v.points_in_is.1),
                (ap not (eq-eqb (length found) size length_found), (ap not (eq-eqb (length xs) (v_length g) long), (elements_pass xs elements, tt))),
              ),
            ),
          ),
        )

    put_is : put_record n st.session.t st.session.points found post xs ≡ with_block (shape_of st.session) post (block_of xs) found
    unfolding outcome
    put_is = rw put_passes

    abbrev new : List ℕ
    new = with_block (shape_of st.session) post (block_of xs) found

    length_new : length new ≡ size
    length_new =
        length_with_row (block_length (shape_of st.session)) n found (post - 1) length_found (omega arith) (block_of xs) (omega arith) ∙ length_found

    within : at + size ≤ length l
    within = omega (arith, fits)

    abbrev after : List ℕ
    after = kept at (shape_of st.session) same post xs l

    pub kept_length_is : length after ≡ store_room
    unfolding kept
    kept_length_is = length_put at size l new within length_new ∙ room

    pub kept_here : record_at at (shape_of st.session) after ≡ put_record n st.session.t st.session.points found post xs
    unfolding kept
    kept_here = part_same at size l new within length_new ∙ sym put_is

    pub kept_before : (b m : ℕ) → b + m ≤ at → take m (drop b after) ≡ take m (drop b l)
    unfolding kept
    kept_before b m h = part_before at size l new within length_new b m h

    pub kept_after : (b m : ℕ) → at + record_room ≤ b → take m (drop b after) ≡ take m (drop b l)
    unfolding kept
    kept_after b m h = part_after at size l new within length_new b m (omega (arith, fits))

  -- ---- the lines
  few : n < tens 10
  few = omega (arith, i.few)

  module _ (store : List ℕ) (started : st.started ≡ true) (room : length store ≡ store_room) (post : ℕ) (low : 1 ≤ post) (high : post ≤ n) where
    rows_in : 0 + rows_length (shape_of st.session) ≤ openings_at
    rows_in = omega (arith, row_room (shape_of st.session) i)

    -- what is read of a line that posts send
    hears : (m : Message) → Sent n (v_length (shape_of st.session)) m → hear_step st store (text m) ≡ saying st store m
    unfolding hear_step heard_refusal outcome
    hears m sent =
        let back = written_reads_back n (v_length (shape_of st.session)) m few sent in
        rw back.0 (ap (saying st store) back.1)

    module _ (row : ℕ) (xs : List ℕ) (named : row ≤ last_row_at) (long : length xs ≡ v_length (shape_of st.session)) (elements : Elements xs) where
      sent_opening : Sent n (v_length (shape_of st.session)) (opening row post xs)
      sent_opening =
          record {
            letter_is = refl;
            count = long;
            no_post = λ e. absurd (omega arith);
            in_range = none (le-ltb last_row_at row named) (none (none (le-ltb post 1 low) (le-ltb n post high)) (elements_pass xs elements));
          }

      opening_letter : step st store (written 79 (row ∷ post ∷ xs)) ≡ hear_step st store (written 79 (row ∷ post ∷ xs))
      unfolding step late_step letters_step
      opening_letter =
          rw (
            started,
            le-ltb longest_line (length (written 79 (row ∷ post ∷ xs)))
                (line_short 79 (row ∷ post ∷ xs) (omega (arith, v_room (shape_of st.session) i))),
          )

      abbrev OpeningDone : After → Type 0
      OpeningDone a =
          (a.given ≡ refusing (keeping_row st row) 0)
          × Stored st store (put_record n st.session.t st.session.points (record_for openings_at (shape_of st.session) st.kept row store) post xs)
          (record_at masks_a_at (shape_of st.session) store) (record_at masks_b_at (shape_of st.session) store) a

      opening_kept : OpeningDone (keep_step st store row post xs)
      unfolding keep_step
      opening_kept =
          let same = eqb st.kept row in (
            refl,
            record {
              rows = kept_before store room openings_at (omega arith) same post low high xs long elements 0 (rows_length (shape_of st.session)) rows_in;
              openings_are = kept_here store room openings_at (omega arith) same post low high xs long elements;
              masks_a_are = kept_after store room openings_at (omega arith) same post low high xs long elements masks_a_at size (omega arith);
              masks_b_are = kept_after store room openings_at (omega arith) same post low high xs long elements masks_b_at size (omega arith);
            },
          )

      pub opening_is : step st store (written 79 (row ∷ post ∷ xs)) ≡ keep_step st store row post xs
      opening_is = opening_letter ∙ hears (opening row post xs) sent_opening

      pub opening_done : OpeningDone (step st store (written 79 (row ∷ post ∷ xs)))
      opening_done = subst OpeningDone (sym opening_is) opening_kept

    -- each half to its own record
    module _ (first : ℕ) (xs ys : List ℕ) (named : first ≤ last_triple) (long : length xs ≡ v_length (shape_of st.session))
        (long' : length ys ≡ v_length (shape_of st.session)) (elements : Elements xs) (elements' : Elements ys) where
      sent_masks : Sent n (v_length (shape_of st.session)) (masks first post (xs ++ ys))
      sent_masks =
          record {
            letter_is = refl;
            count = omega (arith, length-append xs ys);
            no_post = λ e. absurd (omega arith);
            in_range =
                none (le-ltb last_triple first named)
                (none (none (le-ltb post 1 low) (le-ltb n post high)) (elements_pass (xs ++ ys) (elements_append xs ys elements elements')));
          }

      masks_letter : step st store (written 77 (first ∷ post ∷ (xs ++ ys))) ≡ hear_step st store (written 77 (first ∷ post ∷ (xs ++ ys)))
      unfolding step late_step letters_step
      masks_letter =
          rw (
            started,
            le-ltb longest_line (length (written 77 (first ∷ post ∷ (xs ++ ys))))
                (line_short 77 (first ∷ post ∷ (xs ++ ys)) (omega (arith, length-append xs ys, v_room (shape_of st.session) i))),
          )

      masks_halves : keep_halves_step st store first post (xs ++ ys) ≡ keep_masks_step st store first post xs ys
      unfolding keep_halves_step
      masks_halves =
          let k = v_length (shape_of st.session) in
          ap₂ (keep_masks_step st store first post) (take_at xs ys k long) (drop_at xs ys k long)

      abbrev MasksDone : After → Type 0
      MasksDone a =
          (a.given ≡ refusing (keeping_triple st first) 0)
          × Stored st store (record_at openings_at (shape_of st.session) store)
          (put_record n st.session.t st.session.points (record_for masks_a_at (shape_of st.session) st.triple first store) post xs)
          (put_record n st.session.t st.session.points (record_for masks_b_at (shape_of st.session) st.triple first store) post ys) a

      abbrev same : Bool
      same = eqb st.triple first

      -- the store with the first half
      abbrev half : List ℕ
      half = kept masks_a_at (shape_of st.session) same post xs store

      half_room : length half ≡ store_room
      half_room = kept_length_is store room masks_a_at (omega arith) same post low high xs long elements

      masks_kept : MasksDone (keep_masks_step st store first post xs ys)
      unfolding keep_masks_step
      masks_kept =
          let all = rows_length (shape_of st.session) in (
            refl,
            record {
              rows =
                  kept_before half half_room masks_b_at (omega arith) same post low high ys long' elements' 0 all (omega (arith, rows_in))
                  ∙ kept_before store room masks_a_at (omega arith) same post low high xs long elements 0 all (omega (arith, rows_in));
              openings_are =
                  kept_before half half_room masks_b_at (omega arith) same post low high ys long' elements' openings_at size (omega (arith, fits))
                  ∙ kept_before store room masks_a_at (omega arith) same post low high xs long elements openings_at size (omega (arith, fits));
              masks_a_are =
                  kept_before half half_room masks_b_at (omega arith) same post low high ys long' elements' masks_a_at size (omega (arith, fits))
                  ∙ kept_here store room masks_a_at (omega arith) same post low high xs long elements;
              masks_b_are =
                  kept_here half half_room masks_b_at (omega arith) same post low high ys long' elements'
                  ∙ ap (λ (l : List ℕ). put_record n st.session.t st.session.points (record_if same l) post ys)
                  (kept_after store room masks_a_at (omega arith) same post low high xs long elements masks_b_at size (omega arith));
            },
          )

      pub masks_is : step st store (written 77 (first ∷ post ∷ (xs ++ ys))) ≡ keep_masks_step st store first post xs ys
      masks_is = masks_letter ∙ hears (masks first post (xs ++ ys)) sent_masks ∙ masks_halves

      -- the store keeps its length
      pub masks_room : length (kept masks_b_at (shape_of st.session) same post ys half) ≡ store_room
      masks_room = kept_length_is half half_room masks_b_at (omega arith) same post low high ys long' elements'

      pub masks_done : MasksDone (step st store (written 77 (first ∷ post ∷ (xs ++ ys))))
      masks_done = subst MasksDone (sym masks_is) masks_kept

pub street_keeps : StreetKeeps
street_keeps st store started ready =
    let i = ready.in_range started in
    let room = ready.store_room_is in
    record {
      opening = λ row post xs named low high long elements. opening_done st i store started room post low high row xs named long elements;
      masks =
          λ first post xs ys named low high long long' elements elements'.
          masks_done st i store started room post low high first xs ys named long long' elements elements';
    }
