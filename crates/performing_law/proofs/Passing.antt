-- No line changes a session's n, t, post and check points, and a start line leaves none of 1 to 4.
use Prim.Native.Nat.{ℕ, zero, suc, ◌-◌}
use mathlib.Core.Path.{◌≡◌, refl, ap, ◌∙◌}
use mathlib.Core.List.{List, [], ◌∷◌}
use mathlib.Core.Bool.{Bool, true, false, cond, ◌||◌, ◌&&◌}
use native.Mathlib.Omega.{arith}
use borrow.Author.Tests.{le-ltb, ltb-false}
use lib.ListN.{length, get_or}
use lib.Dec.{eqb, ltb}
use Rattle.refusal.specs.Refusal.{Test, ◌when◌, first, outcome}
use Rattle.refusal.specs.Conditions.{outside}
use Rattle.refusal.proofs.Laws.{all_fail, or_false}
use Rattle.forms.specs.Forms.{is_letter}
use Rattle.session.specs.declared.Session.{Session}
use Rattle.session.specs.Sessions.{answer, collected_triple, finished_triple}
use Rattle.collect.specs.Collect.{number_a, number_b, collect_refusal}
use Rattle.multiply.specs.Multiply.{multiply_refusal_of, multiply_answer}
use Rattle.street_store.specs.Sizes.{masks_a_at, masks_b_at, longest_line}
use Rattle.street_reading.specs.Numbers.{numbers}
use Rattle.street_states.specs.declared.State.{State}
use Rattle.street_states.specs.States.{After, leaving, session_rows}
use Rattle.street_startlines.specs.Steps.{early_step}
use Rattle.street_rowlines.specs.Loads.{loading, load_step, loading_triple, load_triple_step}
use Rattle.street_rowlines.specs.Steps.{adding, linear_step, open_step}
use Rattle.street_postlines.specs.Steps.{heard, keep_step, keep_masks_step, keep_halves_step, hear_step}
use Rattle.street_finishlines.specs.Masks.{masking, masking_of, mask_step}
use Rattle.street_finishlines.specs.Steps.{between, pair_refusal, masks_for, finishing, finish_step}
use Rattle.street_steps.specs.Stepping.{access_step, letters_step, late_step, step}
use Rattle.performing_law.specs.Starting.{OneOrTwo, settings_table, any_no_point}
use Rattle.performing_law.specs.Passing.{StreetPasses}
use Rattle.performing_law.proofs.Starting.{street_starts}

-- ---- every line
-- n, t, post and check points
abbrev settings_in : Session → List ℕ
settings_in s = s.n ∷ s.t ∷ s.post ∷ s.points ∷ s.first ∷ s.second ∷ []

abbrev table_in : List ℕ → List Test
table_in l =
    1 when outside 2 255 (get_or l 0 0)
    ∷ 2 when outside 1 (get_or l 0 0 - 1) (get_or l 1 0)
    ∷ 3 when outside 1 (get_or l 0 0) (get_or l 2 0)
    ∷ 4 when (outside 1 2 (get_or l 3 0) || (outside 1 2147483646 (get_or l 4 0) || (eqb (get_or l 3 0) 2 && outside 1 2147483646 (get_or l 5 0))))
    ∷ []

pub record SameSettings (s x : Session) : Type 0 where
  pub same : settings_in x ≡ settings_in s

module _ (st : State) (store s : List ℕ) where
  abbrev Same : Session → Type 0
  Same x = SameSettings st.session x

  abbrev After-same : After → Type 0
  After-same a = Same a.given.state.session

  if_same : (b : Bool) (v w : After) → After-same v → After-same w → After-same (cond b v w)
  if_same true v w f g = f
  if_same false v w f g = g

  outcome_same : (x : ℕ) (v w : After) → After-same v → After-same w → After-same (outcome x v w)
  unfolding outcome
  outcome_same zero v w f g = f
  outcome_same (suc k) v w f g = g

  answer_same : (x value : ℕ) (new old : Session) → Same new → Same old → Same (answer x value new old).session
  unfolding outcome
  answer_same zero value new old f g = f
  answer_same (suc k) value new old f g = g

  load_same : After-same (load_step st store s)
  unfolding load_step loading
  load_same = outcome_same _ _ _ (answer_same _ 0 _ _ (record { same = refl }) (record { same = refl })) (record { same = refl })

  triple_same : After-same (load_triple_step st store s)
  unfolding load_triple_step loading_triple
  triple_same = outcome_same _ _ _ (answer_same _ 0 _ _ (record { same = refl }) (record { same = refl })) (record { same = refl })

  linear_same : After-same (linear_step st store s)
  unfolding linear_step adding
  linear_same = outcome_same _ _ _ (answer_same _ 0 _ _ (record { same = refl }) (record { same = refl })) (record { same = refl })

  open_same : After-same (open_step st store s)
  unfolding open_step
  open_same = outcome_same _ _ _ (answer_same _ _ _ _ (record { same = refl }) (record { same = refl })) (record { same = refl })

  finished_same : (x : Session) (k : ℕ) → Same x → Same (finished_triple x k)
  finished_same x k h = record { same = h.same }

  finish_same : After-same (finish_step st store s)
  unfolding finish_step finishing
  finish_same =
      let own = st.session in
      let rows = session_rows st store in
      let first = get_or (numbers 1 s) 0 0 in
      let a = masks_for masks_a_at st store first in
      let b = masks_for masks_b_at st store first in
      let half = between own rows first a b in
      let h : Same half = answer_same (collect_refusal own rows first a b) 0 (collected_triple own first (number_a own rows first a) (number_b own rows first b)) own (record { same = refl }) (record { same = refl }) in
      outcome_same _ _ _
      (answer_same (pair_refusal own rows first a b) 0 (multiply_answer half rows first).session own
      (answer_same (multiply_refusal_of half rows first) 0 (finished_triple half first) half (finished_same half first h) h) (record { same = refl })) (record { same = refl })

  access_same : After-same (access_step st store s)
  unfolding access_step
  access_same = answer_same _ 0 _ _ (record { same = refl }) (record { same = refl })

  hear_same : After-same (hear_step st store s)
  unfolding hear_step keep_step keep_masks_step keep_halves_step
  hear_same =
      outcome_same _ _ _
      (if_same (eqb (heard st.session s).letter 68) _ _ (answer_same _ 0 _ _ (record { same = refl }) (record { same = refl })) (if_same (eqb (heard st.session s).letter 79) _ _ (record { same = refl }) (record { same = refl }))) (record { same = refl })

  letters_same : After-same (letters_step st store s)
  unfolding letters_step
  letters_same =
      let letter = get_or s 0 0 in
      if_same (eqb letter 82) _ _ load_same
      (if_same (eqb letter 84) _ _ triple_same
      (if_same (eqb letter 71) _ _ open_same
      (if_same (eqb letter 76) _ _ linear_same
      (if_same (eqb letter 70) _ _ finish_same (if_same (eqb letter 65) _ _ access_same (if_same (is_letter letter) _ _ hear_same (record { same = refl })))))))

  mask_same : After-same (mask_step st store s)
  unfolding mask_step masking_of masking
  mask_same = outcome_same _ _ _ (outcome_same _ _ _ (answer_same _ 0 _ _ (record { same = refl }) (record { same = refl })) (answer_same _ 0 _ _ (record { same = refl }) (record { same = refl }))) (record { same = refl })

  late_same : After-same (late_step st store s)
  unfolding late_step
  late_same = if_same (ltb longest_line (length s)) _ _ (record { same = refl }) (if_same (eqb (get_or s 0 0) 88) _ _ mask_same letters_same)

  step_same : st.started ≡ true → After-same (step st store s)
  unfolding step
  step_same e = go st.started e
    where
      go : (b : Bool) → b ≡ true → After-same (cond b (late_step st store s) (leaving (early_step st s) store))
      go true q = late_same
      go false q = let z : ◌≡◌ {A = ℕ} 0 1 = cc in absurd (omega arith)

-- ---- a start line
no_point : (ws : List ℕ) → OneOrTwo ws → any_no_point ws ≡ false
    → (outside 1 2 (length ws) || (outside 1 2147483646 (get_or ws 0 0) || (eqb (length ws) 2 && outside 1 2147483646 (get_or ws 1 0)))) ≡ false
no_point [] o e = absurd (omega (arith, o.0))
no_point (w ∷ []) o e = rw (or_false (outside 1 2147483646 w) _ e).0
no_point (w ∷ v ∷ []) o e =
    let a = or_false (outside 1 2147483646 w) _ e in
    rw (a.0, (or_false (outside 1 2147483646 v) _ a.1).0)
no_point (w ∷ v ∷ u ∷ us) o e = absurd (omega (arith, o.1))

none : (a b c d : Bool) → a ≡ false → b ≡ false → c ≡ false → d ≡ false → first (1 when a ∷ 2 when b ∷ 3 when c ∷ 4 when d ∷ []) ≡ 0
none a b c d e f g h = rw (e, f, g, h)

passes : (n t post : ℕ) (ws : List ℕ) → OneOrTwo ws → first (settings_table n t post ws) ≡ 0
    → first (table_in (n ∷ t ∷ post ∷ length ws ∷ get_or ws 0 0 ∷ get_or ws 1 0 ∷ [])) ≡ 0
passes n t post ws o z =
    let f = all_fail (settings_table n t post ws) tt z in
    let a = or_false (ltb n 2) (ltb 32 n) f.0 in
    let one : outside 2 255 n ≡ false = rw (a.0, le-ltb 255 n (omega (arith, ltb-false 32 n a.1))) in
    none (outside 2 255 n) (outside 1 (n - 1) t) (outside 1 n post) _ one f.1.0 f.1.1.0 (no_point ws o f.1.1.1.0)

pub street_passes : StreetPasses
street_passes =
    record {
      begun =
          λ st store e n t post ws o h z.
          ap (λ (x : Session). first (table_in (settings_in x))) ((street_starts st store e).begins n t post ws o h z).session ∙ passes n t post ws o z;
      kept = λ st store s e z. ap (λ (l : List ℕ). first (table_in l)) (step_same st store s e).same ∙ z;
    }
