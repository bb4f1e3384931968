-- Demand 1 of the three calls.
use Prim.Native.Nat.{ℕ, zero, suc}
use mathlib.Core.Path.{◌≡◌, refl, sym, ◌∙◌, ap}
use mathlib.Core.Bool.{Bool, true, false, not, ◌||◌}
use mathlib.Core.List.{List, [], ◌∷◌, ◌++◌}
use native.Mathlib.Omega.{arith}
use native.Mathlib.Decide.{ℕ_discrete}
use borrow.Author.Tests.{eq-eqb, ne_eqb}
use lib.Dec.{ltb}
use lib.ListN.{length, get_or}
use Rattle.refusal.specs.Refusal.{Test, ◌when◌, first, or_else, outcome}
use Rattle.refusal.specs.Conditions.{beyond, any_beyond}
use Rattle.refusal.proofs.Laws.{first_join, or_else_zero}
use Rattle.refusal.proofs.Endings.{refused, accepted}
use Rattle.refusal.proofs.Figures.{beyond_figures, points_figures}
use Rattle.session.specs.declared.Session.{Session}
use Rattle.session.specs.declared.Answer.{Answer}
use Rattle.session.specs.Sessions.{shape_of, points_of, marked, holding, answer}
use Rattle.session.specs.Rows.{width, row_at, with_row, plus_sums, sums_at_of}
use Rattle.session.specs.Checks.{frame_tests, no_row, wrong_mark_of}
use Rattle.shape.specs.Lengths.{v_length}
use Rattle.shape.specs.Marks.{raw, held}
use Rattle.forms.specs.Lines.{Message}
use Rattle.forms.specs.Forms.{form_of, message, line_tests}
use Rattle.deal.specs.Deal.{deal_refusal_of, deal_answer, deal_rows_of}
use Rattle.dealers.specs.State.{overlong, bad_state, new_state_of, chosen, line_in, served, placed}
use Rattle.dealers.specs.Calls.{new_state_refusal, state_tests, place_refusal_of, count_refusal, count_tests, taken_refusal, said_row, said_number, taken_answer, taken_rows}
use Rattle.dealers.specs.Calls.{counted_answer, counted_rows, counted_state, whose, turn_answer, turn_rows, turn_state}
use Rattle.dealers.specs.Table.{byte, wrong_state, SoundState, line_table, count_table, taken_table, turn_table, read_here}
use Rattle.dealers.specs.Between.{Good}
use Rattle.dealers.specs.Claims.{NewStatesLawful, PlaceLawful, TurnsLawful, SameEverywhere}

-- ---- 16 in figures

or_none : (b : Bool) → b || false ≡ b
or_none true = refl
or_none false = refl

pub bad_figures : (state : List ℕ) → bad_state state ≡ wrong_state state
unfolding bad_state overlong
bad_figures state = rw (or_none (ltb 16 (byte state 120)))

pub good_is : (state : List ℕ) → SoundState state → Good state
good_is state h = record { long = h.long; fine = bad_figures state ∙ h.fine }

pub sound_is : (state : List ℕ) → Good state → SoundState state
sound_is state g = record { long = g.long; fine = sym (bad_figures state) ∙ g.fine }

-- ---- a `D` line is the same at every station

module _ (line : List ℕ) (d : get_or line 0 0 ≡ 68) (n k n' k' : ℕ) where
  form_same : form_of k line ≡ form_of k' line
  unfolding form_of
  form_same = rw d

  message_same : message k line ≡ message k' line
  message_same = rw form_same

  tests_same : first (line_tests n k line) ≡ first (line_tests n' k' line)
  tests_same = rw (form_same, d)

pub same_everywhere : SameEverywhere
same_everywhere line d n k n' k' = (message_same line d n k n' k', tests_same line d n k n' k')

pub new_states_lawful : NewStatesLawful
new_states_lawful state =
    let r = new_state_refusal state in
    record {
      order = refl;
      untouched = λ n. sym (refused r r new_state_of state refl n);
      done = λ z. sym (accepted r r new_state_of new_state_of state refl z refl);
    }

pub place_lawful : PlaceLawful
unfolding place_refusal_of
place_lawful =
    record {
      order = λ state d len. rw (← bad_figures state);
      table = λ state d len. rw (← bad_figures state);
      untouched = λ state d line n. sym (refused (place_refusal_of state d (length line)) (place_refusal_of state d (length line)) (placed state d line) state refl n);
      done = λ state d line z.
          sym (accepted (place_refusal_of state d (length line)) (place_refusal_of state d (length line))
          (placed state d line) (placed state d line) state refl z refl);
    }

-- ---- the refusal of an outcome

answered : (k : ℕ) (new old : Session) → (answer k 0 new old).refusal ≡ k
unfolding outcome
answered zero new old = refl
answered (suc k) new old = refl

either : (k : ℕ) (a : Answer) (s : Session) → (outcome k a (holding k 0 s)).refusal ≡ or_else k a.refusal
unfolding outcome
either zero a s = refl
either (suc k) a s = refl

module _ (s : Session) (rows : List ℕ) where
  abbrev own : ℕ → ℕ → List Test
  own r c = 6 when no_row r ∷ 7 when wrong_mark_of s r raw ∷ 8 when beyond c ∷ 8 when any_beyond (row_at (width s) rows r) ∷ []

  deal_own_lem : (r c : ℕ) → first (frame_tests s rows) ≡ 0 → (deal_answer s rows r c).refusal ≡ first (own r c)
  unfolding deal_refusal_of
  deal_own_lem r c z =
      answered (deal_refusal_of s rows r c) (marked s r held) s ∙ first_join (frame_tests s rows) (own r c) tt ∙ ap (λ (k : ℕ). or_else k (first (own r c))) z

  -- a deal that is refused
  deal_refused : (r c k : ℕ) → (deal_answer s rows r c).refusal ≡ suc k → (deal_answer s rows r c ≡ holding (suc k) 0 s) × (deal_rows_of s rows r c ≡ rows)
  unfolding outcome
  deal_refused r c k e =
      let z : deal_refusal_of s rows r c ≡ suc k = sym (answered (deal_refusal_of s rows r c) (marked s r held) s) ∙ e in (
        ap (λ (x : ℕ). answer x 0 (marked s r held) s) z,
        ap (λ (x : ℕ). outcome x (with_row (width s) r (plus_sums (sums_at_of s) c (row_at (width s) rows r)) rows) rows) z,
      )

  module _ (line : List ℕ) where
    abbrev row : ℕ
    row = said_row line

    abbrev number : ℕ
    number = said_number line

    abbrev k : ℕ
    k = v_length (shape_of s)

    line_refusal_lem : first (frame_tests s rows) ≡ 0 → (taken_answer s rows line).refusal ≡ first (line_table s rows line)
    unfolding taken_refusal
    line_refusal_lem z =
        either (taken_refusal line) (deal_answer s rows row number) s ∙ ap (or_else (taken_refusal line)) (deal_own_lem row number z)
        ∙ by (ℕ_discrete (get_or line 0 0) 68)
      where
        here : get_or line 0 0 ≡ 68 → first (line_tests 2 2 line ++ own row number)
            ≡ first (line_tests s.n k line ++ own (read_here s line).row (get_or (read_here s line).numbers 0 0))
        here d =
            first_join (line_tests 2 2 line) (own row number) tt
            ∙ ap (λ (x : ℕ). or_else x (first (own row number))) (tests_same line d 2 2 s.n k)
            ∙ ap (λ (m : Message). or_else (first (line_tests s.n k line)) (first (own m.row (get_or m.numbers 0 0)))) (message_same line d 2 2 2 k)
            ∙ sym (first_join (line_tests s.n k line) (own (read_here s line).row (get_or (read_here s line).numbers 0 0)) tt)

        tail : (b : Bool) (m : Message) → List Test
        tail b m = 6 when ltb 95 m.row ∷ 7 when wrong_mark_of s m.row 1 ∷ 8 when b ∷ 8 when any_beyond (row_at (width s) rows m.row) ∷ []

        whole : List Test
        whole = line_tests s.n k line ++ tail (ltb 2147483646 (get_or (read_here s line).numbers 0 0)) (read_here s line)

        by : Dec (get_or line 0 0 ≡ 68) → or_else (taken_refusal line) (first (own row number)) ≡ first (line_table s rows line)
        by (yes d) =
            ap (λ (b : Bool). or_else (first (10 when not b ∷ line_tests 2 2 line)) (first (own row number))) (eq-eqb (get_or line 0 0) 68 d)
            ∙ sym (first_join (line_tests 2 2 line) (own row number) tt) ∙ here d
            ∙ ap (λ (b : Bool). first (line_tests s.n k line ++ tail b (read_here s line))) (beyond_figures (get_or (read_here s line).numbers 0 0))
            ∙ sym (ap (λ (b : Bool). first (10 when not b ∷ whole)) (eq-eqb (get_or line 0 0) 68 d))
        by (no n) =
            ap (λ (b : Bool). or_else (first (10 when not b ∷ line_tests 2 2 line)) (first (own row number))) (ne_eqb (get_or line 0 0) 68 n)
            ∙ sym (ap (λ (b : Bool). first (10 when not b ∷ whole)) (ne_eqb (get_or line 0 0) 68 n))

    dealt_here : taken_refusal line ≡ 0 → message 2 line ≡ read_here s line
    unfolding taken_refusal
    dealt_here z = by (ℕ_discrete (get_or line 0 0) 68)
      where
        by : Dec (get_or line 0 0 ≡ 68) → message 2 line ≡ read_here s line
        by (yes d) = message_same line d 2 2 2 k
        by (no n) = absurd (let w : 10 ≡ 0 = rw (ne_eqb (get_or line 0 0) 68 n) at z in omega arith)

    abbrev Refused : ℕ → Type 0
    Refused k = (taken_answer s rows line ≡ holding k 0 s) × (taken_rows s rows line ≡ rows)

    line_refused : (k : ℕ) → (taken_answer s rows line).refusal ≡ suc k → Refused (suc k)
    unfolding outcome
    line_refused k e = go (taken_refusal line) e
      where
        go : (t : ℕ) → (outcome t (deal_answer s rows row number) (holding t 0 s)).refusal ≡ suc k
            → (outcome t (deal_answer s rows row number) (holding t 0 s) ≡ holding (suc k) 0 s) × (outcome t (deal_rows_of s rows row number) rows ≡ rows)
        go zero e = deal_refused row number k e
        go (suc t) e = (ap (λ (x : ℕ). holding x 0 s) e, refl)

    abbrev there : Message → (Answer × List ℕ)
    there m = (deal_answer s rows m.row (get_or m.numbers 0 0), deal_rows_of s rows m.row (get_or m.numbers 0 0))

    line_dealt : (taken_answer s rows line).refusal ≡ 0
        → (taken_answer s rows line ≡ (there (read_here s line)).0) × (taken_rows s rows line ≡ (there (read_here s line)).1)
    unfolding outcome
    line_dealt e = go (taken_refusal line) refl e
      where
        go : (t : ℕ) → taken_refusal line ≡ t → (outcome t (deal_answer s rows row number) (holding t 0 s)).refusal ≡ 0
            → (outcome t (deal_answer s rows row number) (holding t 0 s) ≡ (there (read_here s line)).0)
            × (outcome t (deal_rows_of s rows row number) rows ≡ (there (read_here s line)).1)
        go zero q e = (ap (λ (m : Message). (there m).0) (dealt_here q), ap (λ (m : Message). (there m).1) (dealt_here q))
        go (suc t) q e = absurd (omega arith)

  module _ (state : List ℕ) where
    counted_refusal : first (frame_tests s rows) ≡ 0 → (counted_answer s rows state).refusal ≡ first (taken_table s rows state (chosen state))
    counted_refusal z = go (chosen state)
      where
        go : (d : ℕ) → (whose d (holding 0 0 s) (λ x. taken_answer s rows (line_in state x))).refusal ≡ first (taken_table s rows state d)
        go zero = refl
        go (suc d) = line_refusal_lem (line_in state (suc d)) z

    turn_counting : count_refusal s rows state ≡ first (count_table s rows state)
    unfolding count_refusal
    turn_counting = rw (points_figures s.points (points_of s), bad_figures state)

    turn_order : (turn_answer s rows state).refusal ≡ first (turn_table s rows state)
    unfolding count_refusal
    turn_order =
        either (count_refusal s rows state) (counted_answer s rows state) s ∙ go (count_refusal s rows state) refl
        ∙ sym (first_join (count_tests s rows state) (taken_table s rows state (chosen state)) tt)
        ∙ rw (points_figures s.points (points_of s), bad_figures state)
      where
        go : (r : ℕ) → count_refusal s rows state ≡ r
            → or_else r (counted_answer s rows state).refusal ≡ or_else r (first (taken_table s rows state (chosen state)))
        go zero e =
            counted_refusal (or_else_zero (first (frame_tests s rows)) (first (state_tests state))
            (sym (first_join (frame_tests s rows) (state_tests state) tt) ∙ e)).0
        go (suc k) e = refl

    module _ (z : count_refusal s rows state ≡ 0) where
      counted_is : (turn_answer s rows state ≡ counted_answer s rows state) × (turn_rows s rows state ≡ counted_rows s rows state)
          × (turn_state s rows state ≡ counted_state state)
      unfolding outcome
      counted_is = (
        ap (λ (k : ℕ). outcome k (counted_answer s rows state) (holding k 0 s)) z,
        ap (λ (k : ℕ). outcome k (counted_rows s rows state) rows) z,
        ap (λ (k : ℕ). outcome k (counted_state state) state) z,
      )

      module _ (d : ℕ) (c : chosen state ≡ suc d) where
        line_is : (turn_answer s rows state ≡ taken_answer s rows (line_in state (suc d))) × (turn_rows s rows state ≡ taken_rows s rows (line_in state (suc d)))
            × (turn_state s rows state ≡ served state (suc d))
        line_is = (
          counted_is.0 ∙ ap (λ (x : ℕ). whose x (holding 0 0 s) (λ y. taken_answer s rows (line_in state y))) c,
          counted_is.1 ∙ ap (λ (x : ℕ). whose x rows (λ y. taken_rows s rows (line_in state y))) c,
          counted_is.2 ∙ ap (λ (x : ℕ). whose x state (served state)) c,
        )

        turn_refused : (k : ℕ) → (turn_answer s rows state).refusal ≡ k → (k ≡ 0 → ⊥)
            → (turn_answer s rows state ≡ holding k 0 s) × (turn_rows s rows state ≡ rows) × (turn_state s rows state ≡ served state (suc d))
        turn_refused zero e n = absurd (n refl)
        turn_refused (suc k) e n =
            let h = line_refused (line_in state (suc d)) k (sym (ap (λ (a : Answer). a.refusal) line_is.0) ∙ e) in
            (line_is.0 ∙ h.0, line_is.1 ∙ h.1, line_is.2)

pub turns_lawful : TurnsLawful
unfolding outcome
turns_lawful s rows state =
    record {
      order = turn_order s rows state;
      counting = turn_counting s rows state;
      untouched = λ n. (
        sym (refused (count_refusal s rows state) (count_refusal s rows state) _ _ refl n),
        sym (refused (count_refusal s rows state) (count_refusal s rows state) _ rows refl n),
        sym (refused (count_refusal s rows state) (count_refusal s rows state) _ state refl n),
      );
      idle = λ z c. (
        (counted_is s rows state z).0 ∙ ap (λ (x : ℕ). whose x (holding 0 0 s) (λ y. taken_answer s rows (line_in state y))) c,
        (counted_is s rows state z).1 ∙ ap (λ (x : ℕ). whose x rows (λ y. taken_rows s rows (line_in state y))) c,
        (counted_is s rows state z).2 ∙ ap (λ (x : ℕ). whose x state (served state)) c,
      );
      refused = λ z d c n. turn_refused s rows state z d c (turn_answer s rows state).refusal refl n;
      dealt = λ z d c e.
          let l = line_is s rows state z d c in
          let h = line_dealt s rows (line_in state (suc d)) (sym (ap (λ (a : Answer). a.refusal) l.0) ∙ e) in
          (l.0 ∙ h.0, l.1 ∙ h.1, l.2);
    }
