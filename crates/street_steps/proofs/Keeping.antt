-- A refused line changes nothing: letter by letter, from what a refused call of the library leaves.
use Prim.Native.Nat.{ℕ, zero, suc}
use mathlib.Core.Path.{refl}
use mathlib.Core.List.{List}
use mathlib.Core.Bool.{Bool, true, false, cond}
use lib.ListN.{length, get_or, take-append-drop}
use lib.Dec.{eqb, ltb}
use Rattle.shape.specs.declared.Points.{Points}
use Rattle.shape.specs.Lengths.{rows_length}
use Rattle.refusal.specs.Refusal.{first, outcome}
use Rattle.forms.specs.Forms.{is_letter}
use Rattle.session.specs.declared.Session.{Session}
use Rattle.session.specs.Sessions.{shape_of, answer, as_many_of, session_of, masked_triple}
use Rattle.product_masks.specs.Masks.{masks_refusal_of, mask_numbers_of}
use Rattle.street_reading.specs.Numbers.{numbers}
use Rattle.std.specs.Prelude.{Option, Some, None}
use Rattle.street_reading.specs.declared.Settings.{Settings}
use Rattle.street_reading.specs.Starting.{is_start_of, start_said}
use Rattle.street_states.specs.declared.State.{State}
use Rattle.street_states.specs.States.{Stepped, After, begun_with, refusing, answering, leaving, unless, session_rows, calling}
use Rattle.street_store.specs.Sizes.{longest_line}
use Rattle.street_startlines.specs.Steps.{start_tests, settings_step, start_step, early_step}
use Rattle.street_rowlines.specs.Loads.{loading, load_step, loading_triple, load_triple_step}
use Rattle.street_rowlines.specs.Steps.{adding, linear_step, open_step}
use Rattle.street_postlines.specs.Steps.{heard, keep_step, keep_masks_step, keep_halves_step, hear_step}
use Rattle.street_finishlines.specs.Masks.{mask_line, no_masks, masking, masking_of, mask_step}
use Rattle.street_finishlines.specs.Steps.{finishing, finish_step}
use Rattle.street_steps.specs.Stepping.{access_step, letters_step, late_step, step}
use Rattle.street_steps.specs.Claims.{Unchanged, Refused, StepKeeps}

module _ (st : State) (store : List ℕ) where
  abbrev Kept : After → Type 0
  Kept a = Refused a → Unchanged st store a

  same : (x : ℕ) → Unchanged st store (leaving (refusing st x) store)
  same x = record { state = refl; store_kept = refl; value = refl; told = refl }

  kept_unless : (x : ℕ) (new : After) → Kept new → Kept (unless x st store new)
  unfolding outcome
  kept_unless zero new k = k
  kept_unless (suc x) new k = λ n. same (suc x)

  kept_if : (b : Bool) (v w : After) → Kept v → Kept w → Kept (cond b v w)
  kept_if true v w f g = f
  kept_if false v w f g = g

  -- ---- the library's calls: refused, they hand back the session and leave the rows as they came
  kept_call : (x value : ℕ) (new : Session) (rows : List ℕ)
      → Kept (calling st store (answer x value new st.session) (outcome x rows (session_rows st store)))
  unfolding outcome
  kept_call zero value new rows n = absurd (n refl)
  kept_call (suc x) value new rows n =
      record { state = refl; store_kept = take-append-drop (rows_length (shape_of st.session)) store; value = refl; told = refl }

  kept_answer : (x value : ℕ) (new : Session) → Kept (leaving (answering st (answer x value new st.session)) store)
  unfolding outcome
  kept_answer zero value new n = absurd (n refl)
  kept_answer (suc x) value new n = same (suc x)

  kept_told : (x value : ℕ) (new : Session) (line : List ℕ)
      → (let v = answering st (answer x value new st.session) in Kept (outcome x (record { given = v; store = store; told = line }) (leaving v store)))
  unfolding outcome
  kept_told zero value new line n = absurd (n refl)
  kept_told (suc x) value new line n = same (suc x)

  kept_masking : (a b first : ℕ) → Kept (masking st store a b first)
  unfolding masking
  kept_masking a b first =
      let own = st.session in
      let rows = session_rows st store in
      kept_told (masks_refusal_of own rows a b first (no_masks st)) 0 (masked_triple own first a b) (mask_line st first (mask_numbers_of own rows a b first))

  module _ (s : List ℕ) where
    kept_load : Kept (load_step st store s)
    unfolding load_step loading
    kept_load = kept_unless _ _ (kept_call _ 0 _ _)

    kept_triple : Kept (load_triple_step st store s)
    unfolding load_triple_step loading_triple
    kept_triple = kept_unless _ _ (kept_call _ 0 _ _)

    kept_linear : Kept (linear_step st store s)
    unfolding linear_step adding
    kept_linear = kept_unless _ _ (kept_call _ 0 _ _)

    kept_open : Kept (open_step st store s)
    unfolding open_step
    kept_open = kept_unless _ _ (kept_answer _ _ _)

    kept_finish : Kept (finish_step st store s)
    unfolding finish_step finishing
    kept_finish = kept_unless _ _ (kept_call _ 0 _ _)

    kept_mask : Kept (mask_step st store s)
    unfolding mask_step masking_of
    kept_mask = let xs = numbers 3 s in kept_unless _ _ (kept_masking (get_or xs 0 0) (get_or xs 1 0) (get_or xs 2 0))

    kept_access : Kept (access_step st store s)
    unfolding access_step
    kept_access = kept_answer _ _ _

    -- an `O` or an `M` that is read is not refused
    kept_hear : Kept (hear_step st store s)
    unfolding hear_step keep_step keep_masks_step keep_halves_step
    kept_hear =
        kept_unless _ _
        (kept_if (eqb (heard st.session s).letter 68) _ _ (kept_call _ 0 _ _)
        (kept_if (eqb (heard st.session s).letter 79) _ _ (λ n. absurd (n refl)) (λ n. absurd (n refl))))

    kept_letters : Kept (letters_step st store s)
    unfolding letters_step
    kept_letters =
        let letter = get_or s 0 0 in
        kept_if (eqb letter 82) _ _ kept_load
        (kept_if (eqb letter 84) _ _ kept_triple
        (kept_if (eqb letter 71) _ _ kept_open
        (kept_if (eqb letter 76) _ _ kept_linear
        (kept_if (eqb letter 70) _ _ kept_finish
        (kept_if (eqb letter 65) _ _ kept_access (kept_if (is_letter letter) _ _ kept_hear (λ n. same 10)))))))

    kept_late : Kept (late_step st store s)
    unfolding late_step
    kept_late = kept_if (ltb longest_line (length s)) _ _ (λ n. same 10) (kept_if (eqb (get_or s 0 0) 88) _ _ kept_mask kept_letters)

    -- ---- before a start line is accepted
    abbrev KeptEarly : Stepped → Type 0
    KeptEarly v = Kept (leaving v store)

    early_if : (b : Bool) (v w : Stepped) → KeptEarly v → KeptEarly w → KeptEarly (cond b v w)
    early_if true v w f g = f
    early_if false v w f g = g

    kept_begin : (x : ℕ) (new : Session) → KeptEarly (outcome x (refusing (begun_with st new) 0) (refusing st x))
    unfolding outcome
    kept_begin zero new n = absurd (n refl)
    kept_begin (suc x) new n = same (suc x)

    kept_settings : (v : Option Settings) → KeptEarly (settings_step st v)
    kept_settings (Some g) =
        let w : Points = record { first = g.first; second = g.second } in
        kept_begin (first (start_tests g.n g.t g.post g.points w)) (session_of g.n g.t g.post g.points (as_many_of g.points w))
    kept_settings None = λ n. same 10

    kept_early : KeptEarly (early_step st s)
    unfolding early_step start_step
    kept_early = early_if (is_start_of s) _ _ (early_if (ltb longest_line (length s)) _ _ (λ n. same 10) (kept_settings (start_said s))) (λ n. same 1)

    kept_step : Kept (step st store s)
    unfolding step
    kept_step = kept_if st.started _ _ kept_late kept_early

pub step_keeps : StepKeeps
step_keeps st store line = kept_step st store line
