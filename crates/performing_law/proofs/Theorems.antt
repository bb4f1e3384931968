-- Each line does what the library's call does.
use Prim.Native.Nat.{ℕ, zero, suc, ◌+◌, ◌≤◌, ◌<◌}
use mathlib.Core.Path.{◌≡◌, refl, sym, subst, ◌∙◌}
use mathlib.Core.Bool.{true, false}
use mathlib.Core.List.{List, [], ◌∷◌, ◌++◌}
use native.Mathlib.Omega.{arith}
use borrow.Author.Tests.{le-ltb}
use lib.ListN.{length, drop, take-append-drop}
use Rattle.field.specs.Modulus.{p}
use Rattle.poly.specs.Counting.{Elements}
use Rattle.shape.specs.Bounds.{last_row_at, last_triple}
use Rattle.shape.specs.Lengths.{rows_length, v_length}
use Rattle.refusal.specs.Refusal.{or_else, outcome}
use Rattle.csv_fields.specs.Fields.{fields, written, parsed}
use Rattle.forms.specs.Lines as Lines
use Rattle.forms.specs.Forms.{form_of}
use Rattle.forms.proofs.Forms.{form_read}
use Rattle.forms.proofs.RoundTrip.{none_beyond}
use Rattle.factory.proofs.Laws.{elements_pass}
use Rattle.session.specs.declared.Session.{Session}
use Rattle.session.specs.declared.Answer.{Answer}
use Rattle.session.specs.Sessions.{shape_of, opened_a_of, opened_b_of, masked_triple, collected_triple, finished_triple, answer}
use Rattle.deal.specs.Deal.{deal_answer, deal_rows_of}
use Rattle.collect.specs.Collect.{number_a, number_b, collect_refusal, collect_answer}
use Rattle.multiply.specs.Multiply.{multiply_refusal_of, with_product, multiply_answer, multiply_rows_of}
use Rattle.street_store.specs.Sizes.{masks_a_at, masks_b_at, longest_line}
use Rattle.opening.specs.Opening.{open_answer}
use Rattle.product_masks.specs.Masks.{masks_refusal_of, masks_answer, masks_out_of, mask_numbers_of}
use Rattle.linear.specs.Linear.{linear_answer, linear_rows_of}
use Rattle.street_reading.specs.Numbers.{rows_beyond}
use Rattle.street_states.specs.declared.State.{State}
use Rattle.street_states.specs.States.{Stepped, After, answering, leaving, session_rows, calling}
use Rattle.street_rowlines.specs.Steps.{adding, linear_step, openings_for, opening, open_step}
use Rattle.street_postlines.specs.Steps.{heard_refusal, dealing, hear_step}
use Rattle.street_finishlines.specs.Steps.{masks_for, finishing, finish_step}
use Rattle.street_finishlines.specs.Masks.{mask_line, no_masks, masking, masking_of, mask_step}
use Rattle.street_steps.specs.Stepping.{letters_step, late_step, step}
use Rattle.performing_law.specs.Claims.{Acts, Quiet, Does, LinearLine, MasksLine, DealLine, OpenLine, Finishes, FinishLine, StreetPerforms}
use Rattle.performing_law.proofs.Heard.{says, passes, line_short}
use Rattle.performing_law.proofs.Access.{access_line}

succ : (k : ℕ) → suc k ≡ 0 → ⊥
succ k e = omega arith

module _ (st : State) (store : List ℕ) (started : st.started ≡ true) where
  acted : (text : List ℕ) (a : Answer) (rows l : List ℕ) → l ≡ rows ++ drop (rows_length (shape_of st.session)) store
      → Acts st store a rows (record { given = answering st a; store = l; told = text })
  acted text a rows l e =
      record { session = refl; started = refl; kept = refl; triple = refl; rows_left = e; refusal = refl; value = refl }

  quiet : (v : Stepped) (l : List ℕ) → Quiet (leaving v l)
  quiet v l = record { told = refl }

  pub does_call : (a : Answer) (rows : List ℕ) → Does st store a rows (calling st store a rows)
  does_call a rows = record { acts = acted [] a rows _ refl; quiet = quiet (answering st a) _ }

  whole : session_rows st store ++ drop (rows_length (shape_of st.session)) store ≡ store
  whole = take-append-drop (rows_length (shape_of st.session)) store

  -- ---- `L`
  module _ (dest a b scale fee : ℕ) (d : dest ≤ last_row_at) (x : a ≤ last_row_at) (y : b ≤ last_row_at) (s : scale < p) (f : fee < p) where
    abbrev five : List ℕ
    five = dest ∷ a ∷ b ∷ scale ∷ fee ∷ []

    elements : Elements five
    elements = (omega arith, (omega arith, (omega arith, (s, (f, tt)))))

    linear_rows_lem : rows_beyond (last_row_at ∷ last_row_at ∷ last_row_at ∷ []) five ≡ false
    unfolding rows_beyond
    linear_rows_lem = rw (le-ltb last_row_at dest d, le-ltb last_row_at a x, le-ltb last_row_at b y)

    linear_letter : step st store (written 76 five) ≡ linear_step st store (written 76 five)
    unfolding step late_step letters_step
    linear_letter = rw (started, le-ltb longest_line (length (written 76 five)) (line_short 76 five (omega arith)))

    linear_numbers : linear_step st store (written 76 five) ≡ adding st store five
    unfolding linear_step outcome
    linear_numbers = rw (passes 76 five elements (last_row_at ∷ last_row_at ∷ last_row_at ∷ []) linear_rows_lem, says 76 five elements)

    linear_called : Does st store (linear_answer st.session (session_rows st store) dest a b scale fee)
        (linear_rows_of st.session (session_rows st store) dest a b scale fee) (adding st store five)
    unfolding adding
    linear_called = does_call _ _

    linear_does : Does st store (linear_answer st.session (session_rows st store) dest a b scale fee)
        (linear_rows_of st.session (session_rows st store) dest a b scale fee) (step st store (written 76 five))
    linear_does = rw (linear_letter, linear_numbers) linear_called

  linear_line : LinearLine st store
  linear_line dest a b scale fee d x y s f = linear_does dest a b scale fee d x y s f

  -- ---- `X`
  masked : (x : ℕ) (new : Session) (first : ℕ) (xs out : List ℕ)
      → (let given = answer x 0 new st.session in
      let line = mask_line st first xs in
      let a = outcome x (record { given = answering st given; store = store; told = line }) (leaving (answering st given) store) in
      Acts st store given (session_rows st store) a
      × (a.told ≡ outcome given.refusal (Lines.text (Lines.masks first st.session.post (outcome x xs out))) []))
  unfolding outcome
  masked zero new first xs out = (acted _ _ _ store (sym whole), refl)
  masked (suc x) new first xs out = (acted _ _ _ store (sym whole), refl)

  module _ (a b first : ℕ) (x : a ≤ last_row_at) (y : b ≤ last_row_at) (z : first ≤ last_triple) where
    abbrev three : List ℕ
    three = a ∷ b ∷ first ∷ []

    three_elements : Elements three
    three_elements = (omega arith, (omega arith, (omega arith, tt)))

    masks_rows : rows_beyond (last_row_at ∷ last_row_at ∷ last_triple ∷ []) three ≡ false
    unfolding rows_beyond
    masks_rows = rw (le-ltb last_row_at a x, le-ltb last_row_at b y, le-ltb last_triple first z)

    masks_letter : step st store (written 88 three) ≡ mask_step st store (written 88 three)
    unfolding step late_step
    masks_letter = rw (started, le-ltb longest_line (length (written 88 three)) (line_short 88 three (omega arith)))

    masks_numbers : mask_step st store (written 88 three) ≡ masking st store a b first
    unfolding mask_step masking_of outcome
    masks_numbers =
        rw (passes 88 three three_elements (last_row_at ∷ last_row_at ∷ last_triple ∷ []) masks_rows, says 88 three three_elements)

    abbrev MasksDone : After → Type 0
    MasksDone line =
        let own = st.session in
        let rows = session_rows st store in
        let given = masks_answer own rows a b first (no_masks st) in
        Acts st store given rows line
        × (line.told ≡ outcome given.refusal (Lines.text (Lines.masks first own.post (masks_out_of own rows a b first (no_masks st)))) [])

    masks_called : MasksDone (masking st store a b first)
    unfolding masking
    masks_called =
        let own = st.session in
        let rows = session_rows st store in
        masked (masks_refusal_of own rows a b first (no_masks st)) (masked_triple own first a b) first (mask_numbers_of own rows a b first) (no_masks st)

    masks_does : MasksDone (step st store (written 88 three))
    masks_does = subst MasksDone (sym (masks_letter ∙ masks_numbers)) masks_called

  masks_line_lem : MasksLine st store
  masks_line_lem a b first x y z = masks_does a b first x y z

  -- ---- `G`
  module _ (row : ℕ) (low : row ≤ last_row_at) where
    abbrev one : List ℕ
    one = row ∷ []

    one_elements : Elements one
    one_elements = (omega arith, tt)

    open_rows : rows_beyond (last_row_at ∷ []) one ≡ false
    unfolding rows_beyond
    open_rows = rw (le-ltb last_row_at row low)

    open_letter : step st store (written 71 one) ≡ open_step st store (written 71 one)
    unfolding step late_step letters_step
    open_letter = rw (started, le-ltb longest_line (length (written 71 one)) (line_short 71 one (omega arith)))

    open_numbers_lem : open_step st store (written 71 one) ≡ opening st store one
    unfolding open_step outcome
    open_numbers_lem = rw (passes 71 one one_elements (last_row_at ∷ []) open_rows, says 71 one one_elements)

    abbrev OpenDone : After → Type 0
    OpenDone a = Does st store (open_answer st.session (session_rows st store) row (openings_for st store row)) (session_rows st store) a

    open_called : OpenDone (opening st store one)
    open_called = record { acts = acted [] _ _ store (sym whole); quiet = quiet (opening st store one).given store }

    open_does : OpenDone (step st store (written 71 one))
    open_does = subst OpenDone (sym (open_letter ∙ open_numbers_lem)) open_called

  open_line_lem : OpenLine st store
  open_line_lem row low = open_does row low

  -- ---- `D`
  module _ (row c : ℕ) (low : row ≤ last_row_at) (element : c < p) where
    abbrev two : List ℕ
    two = row ∷ c ∷ []

    two_elements : Elements two
    two_elements = (omega arith, (element, tt))

    deal_form : form_of (v_length (shape_of st.session)) (written 68 two) ≡ parsed two (1 + length (fields two))
    deal_form = form_read (v_length (shape_of st.session)) 68 two refl refl (none_beyond two (elements_pass two two_elements))

    deal_passes : heard_refusal st.session (written 68 two) ≡ 0
    unfolding heard_refusal
    deal_passes = rw (deal_form, le-ltb last_row_at row low, elements_pass (c ∷ []) (element, tt))

    deal_letter : step st store (written 68 two) ≡ hear_step st store (written 68 two)
    unfolding step late_step letters_step
    deal_letter = rw (started, le-ltb longest_line (length (written 68 two)) (line_short 68 two (omega arith)))

    deal_numbers : hear_step st store (written 68 two) ≡ dealing st store row c
    unfolding hear_step outcome
    deal_numbers = rw (deal_passes, deal_form)

    abbrev DealDone : After → Type 0
    DealDone a = Does st store (deal_answer st.session (session_rows st store) row c) (deal_rows_of st.session (session_rows st store) row c) a

    deal_does : DealDone (step st store (written 68 two))
    deal_does = subst DealDone (sym (deal_letter ∙ deal_numbers)) (does_call _ _)

  deal_line : DealLine st store
  deal_line row c low element = deal_does row c low element

  -- ---- `F`
  finished : (x y : ℕ) (opened between new : Session) (product : List ℕ)
      → (let collected = answer x 0 opened st.session in
      let multiplied = answer y 0 new between in
      let rows = session_rows st store in
      let left = outcome y product rows in
      Finishes st store collected multiplied left
      (calling st store (answer (or_else x y) 0 multiplied.session st.session) (outcome (or_else x y) left rows)))
  unfolding outcome
  finished zero zero opened between new product =
      record {
        not_collected = λ n. absurd (n refl);
        not_multiplied = λ e n. absurd (n refl);
        done = λ e f. does_call _ _;
      }
  finished zero (suc y) opened between new product =
      record {
        not_collected = λ n. absurd (n refl);
        not_multiplied = λ e n. (refl, refl, whole, quiet _ _);
        done = λ e f. absurd (succ y f);
      }
  finished (suc x) y opened between new product =
      record {
        not_collected = λ n. does_call _ _;
        not_multiplied = λ e n. absurd (succ x e);
        done = λ e f. absurd (succ x e);
      }

  module _ (first : ℕ) (low : first ≤ last_triple) where
    abbrev alone : List ℕ
    alone = first ∷ []

    alone_elements : Elements alone
    alone_elements = (omega arith, tt)

    finish_rows_lem : rows_beyond (last_triple ∷ []) alone ≡ false
    unfolding rows_beyond
    finish_rows_lem = rw (le-ltb last_triple first low)

    finish_letter : step st store (written 70 alone) ≡ finish_step st store (written 70 alone)
    unfolding step late_step letters_step
    finish_letter = rw (started, le-ltb longest_line (length (written 70 alone)) (line_short 70 alone (omega arith)))

    finish_numbers_lem : finish_step st store (written 70 alone) ≡ finishing st store first
    unfolding finish_step outcome
    finish_numbers_lem = rw (passes 70 alone alone_elements (last_triple ∷ []) finish_rows_lem, says 70 alone alone_elements)

    abbrev FinishDone : After → Type 0
    FinishDone a =
        let own = st.session in
        let rows = session_rows st store in
        let collected = collect_answer own rows first (masks_for masks_a_at st store first) (masks_for masks_b_at st store first) in
        let between = collected.session in
        Finishes st store collected (multiply_answer between rows first) (multiply_rows_of between rows first) a

    finish_called : FinishDone (finishing st store first)
    unfolding finishing
    finish_called =
        let own = st.session in
        let rows = session_rows st store in
        let a = masks_for masks_a_at st store first in
        let b = masks_for masks_b_at st store first in
        let between = (collect_answer own rows first a b).session in
        finished (collect_refusal own rows first a b) (multiply_refusal_of between rows first)
        (collected_triple own first (number_a own rows first a) (number_b own rows first b)) between (finished_triple between first)
        (with_product between (opened_a_of between first) (opened_b_of between first) first rows)

    finish_does : FinishDone (step st store (written 70 alone))
    finish_does = subst FinishDone (sym (finish_letter ∙ finish_numbers_lem)) finish_called

  finish_line_lem : FinishLine st store
  finish_line_lem first low = finish_does first low

pub street_performs : StreetPerforms
street_performs st store started =
    record {
      linear = linear_line st store started;
      masks = masks_line_lem st store started;
      deal = deal_line st store started;
      opened = open_line_lem st store started;
      finish = finish_line_lem st store started;
      access = access_line st store started;
    }
