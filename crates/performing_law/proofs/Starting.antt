-- The table of start lines and of the lines before one is accepted, and the dash.
use Prim.Native.Nat.{ℕ, zero, suc, ◌+◌, ◌*◌, ◌/◌, ◌%◌, ◌≤◌, ◌<◌}
use mathlib.Core.Path.{◌≡◌, refl, ap, sym, subst, ◌∙◌}
use mathlib.Core.Bool.{Bool, true, false, ◌||◌, cond}
use mathlib.Core.List.{List, [], ◌∷◌}
use native.Mathlib.Omega.{arith}
use native.Mathlib.Nat.{div-add-mod', mod-lt}
use borrow.Author.Tests.{lt-ltb, le-ltb, ne_eqb, ltb-true, ltb-false}
use lib.Dec.{eqb, ltb, lit<}
use lib.ListN.{length, get_or}
use Rattle.shape.specs.declared.Points.{Points}
use Rattle.refusal.specs.Refusal.{first, outcome}
use Rattle.csv_fields.specs.Fields.{Parsed, parsed, malformed, fields_at}
use Rattle.session.specs.declared.Session.{Session}
use Rattle.session.specs.Sessions.{as_many_of, session_of}
use Rattle.street_store.specs.Sizes.{longest_line}
use Rattle.std.specs.Prelude.{None}
use Rattle.street_reading.specs.Starting.{starts_with, dash, start_form, start_of, start_said}
use Rattle.street_states.specs.declared.State.{State}
use Rattle.street_states.specs.States.{After, begun_with, refusing, leaving}
use Rattle.street_startlines.specs.Steps.{start_tests, begin_step, settings_step, start_step, early_step}
use Rattle.street_startlines.specs.Table.{start_table}
use Rattle.street_startlines.proofs.Tables.{start_table_lem}
use Rattle.street_steps.specs.Stepping.{step}
use Rattle.performing_law.specs.Lines.{TenDigits, start_letters, is_one_of, refusal_of}
use Rattle.performing_law.specs.Starting.{OneOrTwo, start_letter_of, figured, dashed, DashMeans, DashIsHalf, settings_table, Begins, StartText, LetterTable, StreetStarts}
use Rattle.performing_law.proofs.Heard.{line_short}
use Rattle.performing_law.proofs.StartText.{Starts, start_letter_lem, feed, line, figure_line, start_spells}
use Rattle.performing_law.proofs.StartRead.{figure_read, dash_read, dash_short}
use Rattle.performing_law.proofs.Lines.{or_none}
use Rattle.performing_law.proofs.Table.{other_step}

-- ---- the steps of a start line, and of no start line
either : {A : Type 0} (b : Bool) (a : A) → cond b a a ≡ a
either true a = refl
either false a = refl

module _ (st : State) (store : List ℕ) where
  module _ (e : st.started ≡ false) where
    early_empty : step st store [] ≡ leaving (refusing st 1) store
    unfolding step early_step
    early_empty = rw e

    early_other : (b : ℕ) (rest : List ℕ) → starts_with b ≡ false → step st store (b ∷ rest) ≡ leaving (refusing st 1) store
    unfolding step early_step
    early_other b rest n = rw (e, n)

    module _ (letter : ℕ) (a : Starts letter) where
      early : (rest : List ℕ) → length (letter ∷ 44 ∷ rest) ≤ 5252
          → step st store (letter ∷ 44 ∷ rest) ≡ leaving (settings_step st (start_said (letter ∷ 44 ∷ rest))) store
      unfolding step early_step start_step
      early rest h = rw (e, a.starts, le-ltb longest_line (length (letter ∷ 44 ∷ rest)) h, le-ltb (suc (suc (length rest))) 2 (omega arith))

      early_long : (rest : List ℕ) → 5252 < length (letter ∷ 44 ∷ rest) → step st store (letter ∷ 44 ∷ rest) ≡ leaving (refusing st 10) store
      unfolding step early_step start_step
      early_long rest h = rw (e, a.starts, lt-ltb longest_line (length (letter ∷ 44 ∷ rest)) h, le-ltb (suc (suc (length rest))) 2 (omega arith))

      early_bare : step st store (letter ∷ []) ≡ leaving (refusing st 10) store
      unfolding step early_step start_step start_said start_form fields_at
      early_bare = rw (e, a.starts)

      early_feed : (rest : List ℕ) → step st store (letter ∷ 10 ∷ rest) ≡ leaving (refusing st 10) store
      unfolding step early_step start_step start_said start_form fields_at
      early_feed rest =
          rw (e, a.starts, le-ltb (suc (suc (length rest))) 2 (omega arith))
          (ap (λ v. leaving v store) (either (ltb longest_line (length (letter ∷ 10 ∷ rest))) _))

      early_longer : (b : ℕ) (rest : List ℕ) → (b ≡ 44 → ⊥) → (b ≡ 10 → ⊥) → step st store (letter ∷ b ∷ rest) ≡ leaving (refusing st 1) store
      unfolding step early_step
      early_longer b rest n m = rw (e, a.starts, le-ltb (suc (suc (length rest))) 2 (omega arith), ne_eqb b 44 n, ne_eqb b 10 m)

  refusal_is : (s : List ℕ) (x : ℕ) → step st store s ≡ leaving (refusing st x) store → refusal_of st store s ≡ x
  refusal_is s x q = ap (λ (a : After). a.given.refusal) q

-- ---- a figure for t
-- its refusals in figures, and the points that the session remembers
abbrev points_in_of : List ℕ → Points
points_in_of ws = record { first = get_or ws 0 0; second = get_or ws 1 0 }

points_table : (n t post : ℕ) (ws : List ℕ) → OneOrTwo ws → first (start_table n t post (length ws) (points_in_of ws)) ≡ first (settings_table n t post ws)
points_table n t post [] o = absurd (omega arith)
points_table n t post (w ∷ []) o = refl
points_table n t post (w ∷ v ∷ []) o = rw (or_none (ltb v 1 || ltb 2147483646 v))
points_table n t post (w ∷ v ∷ u ∷ ws) o = absurd (omega arith)

stored : (ws : List ℕ) → OneOrTwo ws → as_many_of (length ws) (points_in_of ws) ≡ points_in_of ws
stored [] o = absurd (omega arith)
stored (w ∷ []) o = refl
stored (w ∷ v ∷ []) o = refl
stored (w ∷ v ∷ u ∷ ws) o = absurd (omega arith)

letter_of_is : (ws : List ℕ) → OneOrTwo ws → Starts (start_letter_of ws)
letter_of_is [] o = absurd (omega arith)
letter_of_is (w ∷ []) o = start_letter_lem 83 refl
letter_of_is (w ∷ v ∷ []) o = start_letter_lem 87 refl
letter_of_is (w ∷ v ∷ u ∷ ws) o = absurd (omega arith)

module _ (st : State) (store : List ℕ) (e : st.started ≡ false) (n t post : ℕ) (ws : List ℕ) (o : OneOrTwo ws) (h : TenDigits (n ∷ t ∷ post ∷ ws)) where
  abbrev k : ℕ
  k = length ws

  abbrev w : Points
  w = points_in_of ws

  settings_step_lem : step st store (figured n t post ws) ≡ leaving (begin_step st n t post k w) store
  settings_step_lem =
      let g : TenDigits (n ∷ post ∷ ws) = (h.0, h.1.1) in
      let whole : List ℕ = n ∷ t ∷ post ∷ ws in
      let short : length (figured n t post ws) ≤ 5252 = line_short (start_letter_of ws) whole (omega (arith, o.1)) in
      ap (step st store) (figure_line (start_letter_of ws) n (t ∷ post ∷ ws))
      ∙ early st store e (start_letter_of ws) (letter_of_is ws o) _
      (subst (λ (l : List ℕ). length l ≤ 5252) (figure_line (start_letter_of ws) n (t ∷ post ∷ ws)) short)
      ∙ ap (λ v. leaving (settings_step st v) store) (figure_read n post ws o g t h.1.0)

  tests_table : first (start_tests n t post k w) ≡ first (settings_table n t post ws)
  tests_table = start_table_lem n t post k w ∙ points_table n t post ws o

  begin_refusal : (x : ℕ) (s : Session) → (outcome x (refusing (begun_with st s) 0) (refusing st x)).refusal ≡ x
  unfolding outcome
  begin_refusal zero s = refl
  begin_refusal (suc x) s = refl

  settings_refusal : refusal_of st store (figured n t post ws) ≡ first (settings_table n t post ws)
  settings_refusal =
      ap (λ (a : After). a.given.refusal) settings_step_lem
      ∙ begin_refusal (first (start_tests n t post k w)) (session_of n t post k (as_many_of k w)) ∙ tests_table

  begun : first (settings_table n t post ws) ≡ 0 → step st store (figured n t post ws) ≡ leaving (refusing (begun_with st (session_of n t post k (as_many_of k w))) 0) store
  unfolding outcome
  begun z = settings_step_lem ∙ rw (tests_table ∙ z)

  begins : first (settings_table n t post ws) ≡ 0 → Begins st store n t post ws (step st store (figured n t post ws))
  begins z =
      rw (begun z)
      (record {
        session = ap (session_of n t post k) (stored ws o);
        started = refl;
        kept = refl;
        triple = refl;
        store_kept = refl;
        value = refl;
        quiet = record { told = refl };
      })

-- no other bytes
module _ (st : State) (store : List ℕ) (e : st.started ≡ false) (letter : ℕ) (a : Starts letter) (rest : List ℕ)
    (n : refusal_of st store (letter ∷ 44 ∷ rest) ≡ 10 → ⊥) where
  abbrev text : List ℕ
  text = letter ∷ 44 ∷ rest

  wrong : start_form a.points text ≡ malformed → start_said text ≡ None
  unfolding start_said
  wrong f = ap (λ (j : ℕ). start_of j (start_form j text)) a.says ∙ ap (start_of a.points) f

  start_form_lem : (x : Parsed) → length text ≤ 5252 → start_form a.points text ≡ x → StartText text
  start_form_lem malformed l f =
      absurd (n (refusal_is st store _ 10 (early st store e letter a rest l ∙ ap (λ v. leaving (settings_step st v) store) (wrong f))))
  start_form_lem (parsed xs next) l f = start_spells letter a rest xs next f

  start_text : (b : Bool) → ltb 5252 (length text) ≡ b → StartText text
  start_text true q = absurd (n (refusal_is st store _ 10 (early_long st store e letter a rest (ltb-true 5252 (length text) q))))
  start_text false q = start_form_lem (start_form a.points text) (ltb-false 5252 (length text) q) refl

letter_table : (st : State) (store : List ℕ) → st.started ≡ false → (letter : ℕ) → Starts letter → LetterTable st store letter
letter_table st store e letter a =
    record {
      longer_field = λ b rest n m. refusal_is st store (letter ∷ b ∷ rest) 1 (early_longer st store e letter a b rest n m);
      bare = refusal_is st store (letter ∷ []) 10 (early_bare st store e letter a);
      no_fields = λ rest. refusal_is st store (letter ∷ 10 ∷ rest) 10 (early_feed st store e letter a rest);
      overlong = λ rest h. refusal_is st store (letter ∷ 44 ∷ rest) 10 (early_long st store e letter a rest (omega arith));
      spelled = λ rest n. start_text st store e letter a rest n (ltb 5252 (length (letter ∷ 44 ∷ rest))) refl;
    }

pub street_starts : StreetStarts
street_starts st store e =
    record {
      empty = refusal_is st store [] 1 (early_empty st store e);
      other_letter = λ b rest n. refusal_is st store (b ∷ rest) 1 (early_other st store e b rest (no_start b n));
      letter = λ b h. letter_table st store e b (start_letter_lem b h);
      settings = settings_refusal st store e;
      begins = begins st store e;
    }
  where
    no_start : (b : ℕ) → is_one_of start_letters b ≡ false → starts_with b ≡ false
    no_start b n = sym (ap (λ (x : Bool). eqb b 83 || x) (or_none (eqb b 87))) ∙ n

-- ---- "S,n,-,post,w"
half_of : (n t : ℕ) → 2 * t ≤ n → n ≤ 2 * t + 1 → dash n ≡ t
half_of n t l h =
    let d : n / 2 * 2 + n % 2 ≡ n = div-add-mod' n 2 in
    let r : n % 2 < 2 = mod-lt n (lit< tt) in
    omega (arith, d, r, l, h)

dash_means : (n t : ℕ) → dash n ≡ t → t ≤ n → DashMeans n t
dash_means n t q l st store post ws o h = go st.started refl
  where
    letter : ℕ
    letter = start_letter_of ws

    figure_short : length (line letter n (feed (t ∷ post ∷ ws))) ≤ 5252
    figure_short =
        subst (λ (l : List ℕ). length l ≤ 5252) (figure_line letter n (t ∷ post ∷ ws)) (line_short letter (n ∷ t ∷ post ∷ ws) (omega (arith, o.1)))

    go : (b : Bool) → st.started ≡ b → step st store (dashed n post ws) ≡ step st store (figured n t post ws)
    go true e =
        let late : (rest : List ℕ) → step st store (letter ∷ rest) ≡ leaving (refusing st 10) store =
        λ rest. other_step st store e (letter ∷ rest) (letter_of_is ws o).no_other in
        late _ ∙ sym (late _)
    go false e =
        early st store e letter (letter_of_is ws o) _ (dash_short n post ws o h)
        ∙ ap (λ v. leaving (settings_step st v) store) (dash_read n post ws o h t q ∙ sym (figure_read n post ws o h t (omega (arith, l, h.0))))
        ∙ sym (early st store e letter (letter_of_is ws o) _ figure_short) ∙ ap (step st store) (sym (figure_line letter n (t ∷ post ∷ ws)))

pub dash_is_half : DashIsHalf
dash_is_half =
    record {
      of_two = dash_means 2 1 refl (omega arith);
      of_three = dash_means 3 1 refl (omega arith);
      of_four = dash_means 4 2 refl (omega arith);
      of_thirty_one = dash_means 31 15 refl (omega arith);
      of_thirty_two = dash_means 32 16 refl (omega arith);
      half = λ n t l h. dash_means n t (half_of n t l h) (omega (arith, l));
    }
