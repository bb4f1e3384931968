-- A session that was accepted stays one of the street's, whatever the line.
use Prim.Native.Nat.{ℕ, zero, suc}
use mathlib.Core.Path.{◌≡◌, refl, ◌∙◌}
use mathlib.Core.List.{List}
use mathlib.Core.Bool.{Bool, true, false, cond}
use lib.ListN.{length, get_or}
use lib.Dec.{eqb, ltb}
use borrow.Author.Tests.{ltb-false}
use Rattle.shape.specs.declared.Points.{Points}
use Rattle.shape.specs.Lengths.{shape}
use Rattle.refusal.specs.Refusal.{first, outcome}
use Rattle.refusal.proofs.Laws.{all_fail}
use Rattle.refusal.proofs.Ranges.{posts_valid, points_good}
use Rattle.forms.specs.Forms.{is_letter}
use Rattle.session.specs.declared.Session.{Session}
use Rattle.session.specs.Sessions.{shape_of, answer, collected_triple, finished_triple}
use Rattle.collect.specs.Collect.{number_a, number_b, collect_refusal}
use Rattle.multiply.specs.Multiply.{multiply_refusal_of, multiply_answer}
use Rattle.street_store.specs.Sizes.{street_posts, masks_a_at, masks_b_at, InStreet, longest_line}
use Rattle.street_reading.specs.Numbers.{numbers}
use Rattle.std.specs.Prelude.{Option, Some, None}
use Rattle.street_reading.specs.declared.Settings.{Settings}
use Rattle.street_reading.specs.Starting.{is_start_of, start_said}
use Rattle.street_states.specs.declared.State.{State}
use Rattle.street_states.specs.States.{Stepped, After, leaving, session_rows}
use Rattle.street_startlines.specs.Steps.{start_tests, settings_step, start_step, early_step}
use Rattle.street_rowlines.specs.Loads.{loading, load_step, loading_triple, load_triple_step}
use Rattle.street_rowlines.specs.Steps.{adding, linear_step, open_step}
use Rattle.street_postlines.specs.Steps.{heard, keep_step, keep_masks_step, keep_halves_step, hear_step}
use Rattle.street_finishlines.specs.Masks.{masking, masking_of, mask_step}
use Rattle.street_finishlines.specs.Steps.{between, pair_refusal, masks_for, finishing, finish_step}
use Rattle.street_steps.specs.Stepping.{access_step, letters_step, late_step, step, Ready}

-- the state after a line, if it has a session, has one of the street's
abbrev Fine : Stepped → Type 0
Fine v = v.state.started ≡ true → InStreet (shape_of v.state.session)

fine_if : (b : Bool) (v w : Stepped) → Fine v → Fine w → Fine (cond b v w)
fine_if true v w f g = f
fine_if false v w f g = g

fine_outcome : (x : ℕ) (v w : Stepped) → (x ≡ 0 → Fine v) → Fine w → Fine (outcome x v w)
unfolding outcome
fine_outcome zero v w f g = f refl
fine_outcome (suc k) v w f g = g

-- ---- before a start line is accepted
accepted_range : (n t post points : ℕ) (w : Points) → first (start_tests n t post points w) ≡ 0 → InStreet (shape n t points)
accepted_range n t post points w e =
    let a = all_fail (start_tests n t post points w) tt e in
    record { valid = posts_valid n t points (a.1.0, (a.1.1.0, tt)) (points_good points w a.1.1.1.1.0).0; few = ltb-false street_posts n a.0 }

module _ (st : State) (f : st.started ≡ true → InStreet (shape_of st.session)) where
  fine_settings : (v : Option Settings) → Fine (settings_step st v)
  fine_settings (Some g) =
      fine_outcome _ _ _ (λ z e. accepted_range g.n g.t g.post g.points (record { first = g.first; second = g.second }) z) f
  fine_settings None = f

  fine_start : (s : List ℕ) → Fine (start_step st s)
  unfolding start_step
  fine_start s = fine_if (ltb longest_line (length s)) _ _ f (fine_settings (start_said s))

  fine_early : (s : List ℕ) → Fine (early_step st s)
  unfolding early_step
  fine_early s = fine_if (is_start_of s) _ _ (fine_start s) f

-- ---- after it
abbrev InAfter : After → Type 0
InAfter a = InStreet (shape_of a.given.state.session)

in_if : (b : Bool) (v w : After) → InAfter v → InAfter w → InAfter (cond b v w)
in_if true v w f g = f
in_if false v w f g = g

in_outcome : (x : ℕ) (v w : After) → InAfter v → InAfter w → InAfter (outcome x v w)
unfolding outcome
in_outcome zero v w f g = f
in_outcome (suc k) v w f g = g

answer_in : (x value : ℕ) (new old : Session) → InStreet (shape_of new) → InStreet (shape_of old)
    → InStreet (shape_of (answer x value new old).session)
unfolding outcome
answer_in zero value new old f g = f
answer_in (suc k) value new old f g = g

module _ (st : State) (i : InStreet (shape_of st.session)) (store s : List ℕ) where
  in_load : InAfter (load_step st store s)
  unfolding load_step loading
  in_load = in_outcome _ _ _ (answer_in _ 0 _ _ i i) i

  in_triple : InAfter (load_triple_step st store s)
  unfolding load_triple_step loading_triple
  in_triple = in_outcome _ _ _ (answer_in _ 0 _ _ i i) i

  in_linear : InAfter (linear_step st store s)
  unfolding linear_step adding
  in_linear = in_outcome _ _ _ (answer_in _ 0 _ _ i i) i

  in_open : InAfter (open_step st store s)
  unfolding open_step
  in_open = in_outcome _ _ _ (answer_in _ _ _ _ i i) i

  in_finish : InAfter (finish_step st store s)
  unfolding finish_step finishing
  in_finish =
      let own = st.session in
      let rows = session_rows st store in
      let first = get_or (numbers 1 s) 0 0 in
      let a = masks_for masks_a_at st store first in
      let b = masks_for masks_b_at st store first in
      let half = between own rows first a b in
      let h : InStreet (shape_of half) =
      answer_in (collect_refusal own rows first a b) 0 (collected_triple own first (number_a own rows first a) (number_b own rows first b)) own i i in
      in_outcome _ _ _
      (answer_in (pair_refusal own rows first a b) 0 (multiply_answer half rows first).session own
      (answer_in (multiply_refusal_of half rows first) 0 (finished_triple half first) half h h) i) i

  in_access : InAfter (access_step st store s)
  unfolding access_step
  in_access = answer_in _ 0 _ _ i i

  in_hear : InAfter (hear_step st store s)
  unfolding hear_step keep_step keep_masks_step keep_halves_step
  in_hear =
      in_outcome _ _ _
      (in_if (eqb (heard st.session s).letter 68) _ _ (answer_in _ 0 _ _ i i) (in_if (eqb (heard st.session s).letter 79) _ _ i i)) i

  in_letters : InAfter (letters_step st store s)
  unfolding letters_step
  in_letters =
      let letter = get_or s 0 0 in
      in_if (eqb letter 82) _ _ in_load
      (in_if (eqb letter 84) _ _ in_triple
      (in_if (eqb letter 71) _ _ in_open
      (in_if (eqb letter 76) _ _ in_linear
      (in_if (eqb letter 70) _ _ in_finish (in_if (eqb letter 65) _ _ in_access (in_if (is_letter letter) _ _ in_hear i))))))

  in_mask : InAfter (mask_step st store s)
  unfolding mask_step masking_of masking
  in_mask = in_outcome _ _ _ (in_outcome _ _ _ (answer_in _ 0 _ _ i i) (answer_in _ 0 _ _ i i)) i

  in_late : InAfter (late_step st store s)
  unfolding late_step
  in_late = in_if (ltb longest_line (length s)) _ _ i (in_if (eqb (get_or s 0 0) 88) _ _ in_mask in_letters)

fine_step : (st : State) (store s : List ℕ) → (st.started ≡ true → InStreet (shape_of st.session)) → Fine (step st store s).given
unfolding step
fine_step st store s f = go st.started refl
  where
    go : (b : Bool) → st.started ≡ b → Fine (cond b (late_step st store s) (leaving (early_step st s) store)).given
    go true e = λ _. in_late st (f e) store s
    go false e = fine_early st f s

-- what holds between lines holds after a line, where the store keeps its length
pub step_ready : (st : State) (store s : List ℕ) (a : After) → Ready st store → a ≡ step st store s → length a.store ≡ length store
    → Ready a.given.state a.store
step_ready st store s a r e p = record { store_room_is = p ∙ r.store_room_is; in_range = rw (← e) at (fine_step st store s r.in_range) }
