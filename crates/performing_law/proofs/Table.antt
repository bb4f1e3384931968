-- The table of the street program's lines: each letter's step, and no other letter.
use Prim.Native.Nat.{ℕ, zero, suc, ◌+◌, ◌*◌, ◌≤◌}
use mathlib.Core.Path.{◌≡◌, refl, ap, ap₂, sym, ◌∙◌}
use mathlib.Core.Bool.{Bool, true, false}
use mathlib.Core.List.{List, [], ◌∷◌}
use native.Mathlib.Omega.{arith}
use borrow.Author.Tests.{le-ltb, ltb-true, ltb-false}
use lib.Dec.{eqb, ltb}
use lib.ListN.{length, get_or}
use Rattle.shape.specs.Bounds.{last_row_at, last_triple}
use Rattle.refusal.proofs.Laws.{or_false}
use Rattle.refusal.specs.Refusal.{◌when◌, first, or_else, outcome}
use Rattle.csv_fields.specs.Fields.{parsed, malformed}
use Rattle.forms.specs.Forms.{form_of, message_of, beyond_range}
use Rattle.product_masks.specs.Masks.{masks_refusal_of, masks_answer, mask_numbers_of}
use Rattle.collect.specs.Collect.{collect_refusal}
use Rattle.multiply.specs.Multiply.{multiply_refusal_of}
use Rattle.street_store.specs.Sizes.{masks_a_at, masks_b_at, longest_line}
use Rattle.street_reading.specs.Numbers.{number_form}
use Rattle.street_states.specs.declared.State.{State}
use Rattle.street_states.proofs.Calling.{answer_refusal}
use Rattle.street_states.specs.States.{Stepped, After, answering, refusing, leaving, session_rows}
use Rattle.street_rowlines.specs.Loads.{loading, load_step, loading_triple, load_triple_step}
use Rattle.street_rowlines.specs.Steps.{adding, linear_step, opening, open_step}
use Rattle.street_postlines.specs.Steps.{heard_refusal, heard, keep_step, keep_masks_step, keep_halves_step, saying, hear_step}
use Rattle.street_finishlines.specs.Masks.{mask_line, no_masks, masking, masking_of, mask_step}
use Rattle.street_finishlines.specs.Steps.{masks_for, between, pair_refusal, finishing, finish_step}
use Rattle.street_steps.specs.Stepping.{letters_step, late_step, step}
use Rattle.performing_law.specs.Lines.{letters, is_one_of, v_numbers, row_numbers, Range, ◌to◌, any_outside, refusal_of, Letter, deal_call, load_call, triple_call, open_call, linear_call, masks_call, finish_call, no_call, StreetTable}
use Rattle.performing_law.proofs.Lines.{elements_outside, letter_of_is, unless_refusal, over_step, over, numbers_letter}
use Rattle.performing_law.proofs.Access.{access_letter}
use Rattle.performing_law.proofs.StartText.{start_letter_lem}

told_refusal : (x : ℕ) (v : Stepped) (store line : List ℕ)
    → (outcome x (record { given = v; store = store; told = line }) (leaving v store)).given.refusal ≡ v.refusal
unfolding outcome
told_refusal zero v store line = refl
told_refusal (suc x) v store line = refl

module _ (st : State) (store : List ℕ) (started : st.started ≡ true) where
  -- ---- lines of numbers
  module _ (rest : List ℕ) where
    load_is : length (82 ∷ rest) ≤ 5252 → step st store (82 ∷ rest) ≡ load_step st store (82 ∷ rest)
    unfolding step late_step letters_step
    load_is h = rw (started, le-ltb longest_line (length (82 ∷ rest)) h)

    triple_is : length (84 ∷ rest) ≤ 5252 → step st store (84 ∷ rest) ≡ load_triple_step st store (84 ∷ rest)
    unfolding step late_step letters_step
    triple_is h = rw (started, le-ltb longest_line (length (84 ∷ rest)) h)

    open_is : length (71 ∷ rest) ≤ 5252 → step st store (71 ∷ rest) ≡ open_step st store (71 ∷ rest)
    unfolding step late_step letters_step
    open_is h = rw (started, le-ltb longest_line (length (71 ∷ rest)) h)

    linear_is : length (76 ∷ rest) ≤ 5252 → step st store (76 ∷ rest) ≡ linear_step st store (76 ∷ rest)
    unfolding step late_step letters_step
    linear_is h = rw (started, le-ltb longest_line (length (76 ∷ rest)) h)

    mask_is : length (88 ∷ rest) ≤ 5252 → step st store (88 ∷ rest) ≡ mask_step st store (88 ∷ rest)
    unfolding step late_step letters_step
    mask_is h = rw (started, le-ltb longest_line (length (88 ∷ rest)) h)

    finish_is : length (70 ∷ rest) ≤ 5252 → step st store (70 ∷ rest) ≡ finish_step st store (70 ∷ rest)
    unfolding step late_step letters_step
    finish_is h = rw (started, le-ltb longest_line (length (70 ∷ rest)) h)

  loading_refusal : (xs : List ℕ) → (loading st store xs).given.refusal ≡ load_call st store xs
  unfolding loading
  loading_refusal xs = refl

  tripling_refusal : (xs : List ℕ) → (loading_triple st store xs).given.refusal ≡ triple_call st store xs
  unfolding loading_triple
  tripling_refusal xs = refl

  adding_refusal : (xs : List ℕ) → (adding st store xs).given.refusal ≡ linear_call st store xs
  unfolding adding
  adding_refusal xs = refl

  masking_refusal : (xs : List ℕ) → (masking_of st store xs).given.refusal ≡ masks_call st store xs
  unfolding masking_of masking
  masking_refusal xs =
      let own = st.session in
      let rows = session_rows st store in
      let a = get_or xs 0 0 in
      let b = get_or xs 1 0 in
      let first = get_or xs 2 0 in
      told_refusal (masks_refusal_of own rows a b first (no_masks st)) (answering st (masks_answer own rows a b first (no_masks st))) store
      (mask_line st first (mask_numbers_of own rows a b first))

  finishing_refusal : (xs : List ℕ) → (finishing st store (get_or xs 0 0)).given.refusal ≡ finish_call st store xs
  unfolding finishing
  finishing_refusal xs =
      let own = st.session in
      let rows = session_rows st store in
      let first = get_or xs 0 0 in
      let a = masks_for masks_a_at st store first in
      let b = masks_for masks_b_at st store first in
      answer_refusal (pair_refusal own rows first a b) 0 _ _
      ∙ ap₂ or_else (sym (answer_refusal (collect_refusal own rows first a b) 0 _ _))
      (sym (answer_refusal (multiply_refusal_of (between own rows first a b) rows first) 0 _ _))

  abbrev n : ℕ
  n = st.session.n

  load_letter : Letter st store 82 (1 + row_numbers st store) (0 to 95 ∷ []) (load_call st store)
  unfolding load_step
  load_letter =
      numbers_letter st store started 81 (last_row_at ∷ []) (omega arith, tt) (1 + row_numbers st store) (loading st store) load_is (load_call st store) loading_refusal

  triple_letter : Letter st store 84 (1 + 3 * row_numbers st store) (0 to 93 ∷ []) (triple_call st store)
  unfolding load_triple_step
  triple_letter =
      numbers_letter st store started 83 (last_triple ∷ []) (omega arith, tt) (1 + 3 * row_numbers st store) (loading_triple st store) triple_is (triple_call st store)
      tripling_refusal

  open_letter : Letter st store 71 1 (0 to 95 ∷ []) (open_call st store)
  unfolding open_step
  open_letter =
      numbers_letter st store started 70 (last_row_at ∷ []) (omega arith, tt) 1 (opening st store) open_is (open_call st store) (λ xs. refl)

  linear_letter : Letter st store 76 5 (0 to 95 ∷ 0 to 95 ∷ 0 to 95 ∷ []) (linear_call st store)
  unfolding linear_step
  linear_letter =
      numbers_letter st store started 75 (last_row_at ∷ last_row_at ∷ last_row_at ∷ []) (omega arith, (omega arith, (omega arith, tt))) 5 (adding st store) linear_is
      (linear_call st store) adding_refusal

  mask_letter : Letter st store 88 3 (0 to 95 ∷ 0 to 95 ∷ 0 to 93 ∷ []) (masks_call st store)
  unfolding mask_step
  mask_letter =
      numbers_letter st store started 87 (last_row_at ∷ last_row_at ∷ last_triple ∷ []) (omega arith, (omega arith, (omega arith, tt))) 3 (masking_of st store) mask_is
      (masks_call st store) masking_refusal

  finish_letter : Letter st store 70 1 (0 to 93 ∷ []) (finish_call st store)
  unfolding finish_step
  finish_letter =
      numbers_letter st store started 69 (last_triple ∷ []) (omega arith, tt) 1 (λ xs. finishing st store (get_or xs 0 0)) finish_is (finish_call st store)
      finishing_refusal

  -- ---- lines of posts
  hear_wrong : (s : List ℕ) → form_of (v_numbers st store) s ≡ malformed → heard_refusal st.session s ≡ 10
  unfolding heard_refusal
  hear_wrong s e = rw e

  hear_right : (s xs : List ℕ) (next : ℕ) → form_of (v_numbers st store) s ≡ parsed xs next
      → heard_refusal st.session s ≡ first (11 when beyond_range n (message_of (get_or s 0 0) xs) ∷ [])
  unfolding heard_refusal
  hear_right s xs next e = rw e

  module _ (b count : ℕ) (ranges : List Range) (call : List ℕ → ℕ)
      (is : (rest : List ℕ) → length (suc b ∷ rest) ≤ 5252 → step st store (suc b ∷ rest) ≡ hear_step st store (suc b ∷ rest))
      (form : (rest : List ℕ) → form_of (v_numbers st store) (suc b ∷ rest) ≡ number_form count (suc b ∷ rest))
      (range : (xs : List ℕ) → length xs ≡ count → beyond_range n (message_of (suc b) xs) ≡ any_outside ranges xs)
      (says : (xs : List ℕ) → (saying st store (message_of (suc b) xs)).given.refusal ≡ call xs) where
    hear_refusal : (rest : List ℕ) → length (suc b ∷ rest) ≤ 5252
        → refusal_of st store (suc b ∷ rest)
        ≡ or_else (heard_refusal st.session (suc b ∷ rest)) (saying st store (heard st.session (suc b ∷ rest))).given.refusal
    unfolding hear_step
    hear_refusal rest l =
        ap (λ (a : After). a.given.refusal) (is rest l) ∙ unless_refusal st store (heard_refusal st.session (suc b ∷ rest)) _

    hear_letter : Letter st store (suc b) count ranges call
    hear_letter =
        letter_of_is st store (over st store started) b count ranges call
        (λ rest l e. hear_refusal rest l ∙ rw (hear_wrong (suc b ∷ rest) (form rest ∙ e)))
        (λ rest xs next l q e.
        let f : form_of (v_numbers st store) (suc b ∷ rest) ≡ parsed xs next = form rest ∙ e in
        hear_refusal rest l ∙ rw (hear_right (suc b ∷ rest) xs next f, f, range xs q, says xs))

  module _ (rest : List ℕ) where
    deal_is : length (68 ∷ rest) ≤ 5252 → step st store (68 ∷ rest) ≡ hear_step st store (68 ∷ rest)
    unfolding step late_step letters_step
    deal_is h = rw (started, le-ltb longest_line (length (68 ∷ rest)) h)

    opening_is : length (79 ∷ rest) ≤ 5252 → step st store (79 ∷ rest) ≡ hear_step st store (79 ∷ rest)
    unfolding step late_step letters_step
    opening_is h = rw (started, le-ltb longest_line (length (79 ∷ rest)) h)

    masks_is : length (77 ∷ rest) ≤ 5252 → step st store (77 ∷ rest) ≡ hear_step st store (77 ∷ rest)
    unfolding step late_step letters_step
    masks_is h = rw (started, le-ltb longest_line (length (77 ∷ rest)) h)

    deal_form : form_of (v_numbers st store) (68 ∷ rest) ≡ number_form 2 (68 ∷ rest)
    unfolding form_of number_form
    deal_form = refl

    opening_form : form_of (v_numbers st store) (79 ∷ rest) ≡ number_form (2 + v_numbers st store) (79 ∷ rest)
    unfolding form_of number_form
    opening_form = refl

    masks_form : form_of (v_numbers st store) (77 ∷ rest) ≡ number_form (2 + 2 * v_numbers st store) (77 ∷ rest)
    unfolding form_of number_form
    masks_form = refl

  module _ (x y : ℕ) (ys : List ℕ) where
    deal_range : beyond_range n (message_of 68 (x ∷ ys)) ≡ any_outside (0 to 95 ∷ []) (x ∷ ys)
    deal_range = rw (le-ltb x 0 (omega arith), elements_outside ys)

    opening_range : beyond_range n (message_of 79 (x ∷ y ∷ ys)) ≡ any_outside (0 to 95 ∷ 1 to n ∷ []) (x ∷ y ∷ ys)
    opening_range = rw (le-ltb x 0 (omega arith), elements_outside ys)

    masks_range : beyond_range n (message_of 77 (x ∷ y ∷ ys)) ≡ any_outside (0 to 93 ∷ 1 to n ∷ []) (x ∷ y ∷ ys)
    masks_range = rw (le-ltb x 0 (omega arith), elements_outside ys)

  deal_letter : Letter st store 68 2 (0 to 95 ∷ []) (deal_call st store)
  deal_letter = hear_letter 67 2 (0 to 95 ∷ []) (deal_call st store) deal_is deal_form range says
    where
      range : (xs : List ℕ) → length xs ≡ 2 → beyond_range n (message_of 68 xs) ≡ any_outside (0 to 95 ∷ []) xs
      range [] e = absurd (omega arith)
      range (x ∷ xs) e = deal_range x 0 xs

      says : (xs : List ℕ) → (saying st store (message_of 68 xs)).given.refusal ≡ deal_call st store xs
      says [] = refl
      says (x ∷ xs) = refl

  opening_letter : Letter st store 79 (2 + v_numbers st store) (0 to 95 ∷ 1 to n ∷ []) (no_call st store)
  unfolding keep_step
  opening_letter = hear_letter 78 (2 + v_numbers st store) (0 to 95 ∷ 1 to n ∷ []) (no_call st store) opening_is opening_form range (λ xs. refl)
    where
      range : (xs : List ℕ) → length xs ≡ 2 + v_numbers st store → beyond_range n (message_of 79 xs) ≡ any_outside (0 to 95 ∷ 1 to n ∷ []) xs
      range [] e = absurd (omega arith)
      range (x ∷ []) e = absurd (omega arith)
      range (x ∷ y ∷ ys) e = opening_range x y ys

  masks_letter : Letter st store 77 (2 + 2 * v_numbers st store) (0 to 93 ∷ 1 to n ∷ []) (no_call st store)
  unfolding keep_halves_step keep_masks_step
  masks_letter = hear_letter 76 (2 + 2 * v_numbers st store) (0 to 93 ∷ 1 to n ∷ []) (no_call st store) masks_is masks_form range (λ xs. refl)
    where
      range : (xs : List ℕ) → length xs ≡ 2 + 2 * v_numbers st store → beyond_range n (message_of 77 xs) ≡ any_outside (0 to 93 ∷ 1 to n ∷ []) xs
      range [] e = absurd (omega arith)
      range (x ∷ []) e = absurd (omega arith)
      range (x ∷ y ∷ ys) e = masks_range x y ys

  -- ---- no other letter
  short_step : (s : List ℕ) → is_one_of letters (get_or s 0 0) ≡ false → length s ≤ 5252 → step st store s ≡ leaving (refusing st 10) store
  unfolding step late_step letters_step
  short_step s n l =
      let x = get_or s 0 0 in
      let r = or_false (eqb x 82) _ n in
      let t = or_false (eqb x 84) _ r.1 in
      let d = or_false (eqb x 68) _ t.1 in
      let o = or_false (eqb x 79) _ d.1 in
      let m = or_false (eqb x 77) _ o.1 in
      let g = or_false (eqb x 71) _ m.1 in
      let f = or_false (eqb x 76) _ g.1 in
      let e = or_false (eqb x 88) _ f.1 in
      let i = or_false (eqb x 70) _ e.1 in
      let a = or_false (eqb x 65) false i.1 in
      rw (started, le-ltb longest_line (length s) l, e.0, r.0, t.0, g.0, f.0, i.0, a.0, d.0, o.0, m.0)

  pub other_step : (s : List ℕ) → is_one_of letters (get_or s 0 0) ≡ false → step st store s ≡ leaving (refusing st 10) store
  other_step s n = go (ltb 5252 (length s)) refl
    where
      go : (x : Bool) → ltb 5252 (length s) ≡ x → step st store s ≡ leaving (refusing st 10) store
      go true q = over_step st store started s (ltb-true 5252 (length s) q)
      go false q = short_step s n (ltb-false 5252 (length s) q)

  other : (s : List ℕ) → is_one_of letters (get_or s 0 0) ≡ false → refusal_of st store s ≡ 10
  other s n = ap (λ (v : After). v.given.refusal) (other_step s n)

pub street_table : StreetTable
street_table st store started =
    record {
      overlong = over st store started;
      second_start = λ b rest h. other st store started (b ∷ rest) (start_letter_lem b h).no_other;
      no_letter = other st store started [] refl;
      other_letter = λ b rest. other st store started (b ∷ rest);
      load = load_letter st store started;
      triple = triple_letter st store started;
      deal = deal_letter st store started;
      opening = opening_letter st store started;
      masks = masks_letter st store started;
      opened = open_letter st store started;
      linear = linear_letter st store started;
      mask = mask_letter st store started;
      finish = finish_letter st store started;
      access = access_letter st store started;
    }
