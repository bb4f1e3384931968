-- Start lines: each way in which their answer ends.
use Prim.Native.Nat.{ℕ, zero, suc, ◌≤◌, ◌<◌}
use mathlib.Core.Path.{◌≡◌, refl, ap, ap₂, sym, ◌∙◌}
use mathlib.Core.List.{List, [], ◌∷◌, ◌++◌}
use mathlib.Core.Bool.{Bool, true, false, cond, ◌||◌}
use native.Mathlib.Omega.{arith}
use borrow.Author.Tests.{lt-ltb, le-ltb, ne_eqb}
use lib.ListN.{length}
use lib.Dec.{eqb, ltb}
use Rattle.field.specs.Modulus.{p}
use Rattle.shape.specs.declared.Points.{Points}
use Rattle.shape.specs.Bounds.{most_points}
use Rattle.refusal.specs.Refusal.{◌when◌, first, outcome}
use Rattle.refusal.specs.Conditions.{outside, beyond, bad_point, bad_points, bad_point_count, posts_tests}
use Rattle.refusal.proofs.Laws.{or_false, all_fail}
use Rattle.refusal.proofs.Elements.{below_p}
use Rattle.refusal.proofs.Ranges.{points_good}
use Rattle.session.specs.Sessions.{answer, holding, as_many_of, no_points, session_tests, session_of, created}
use Rattle.session.specs.declared.Session.{Session}
use Rattle.session.specs.declared.Answer.{Answer}
use Rattle.street_store.specs.Sizes.{street_posts, longest_line}
use Rattle.std.specs.Prelude.{Option, Some, None}
use Rattle.street_reading.specs.declared.Settings.{Settings}
use Rattle.street_reading.specs.Starting.{start_said}
use Rattle.street_states.specs.declared.State.{State}
use Rattle.street_states.specs.States.{Stepped, begun_with, refusing, settled}
use Rattle.street_startlines.specs.Steps.{start_tests, settings_step, start_step}
use Rattle.street_startlines.specs.Between.{begin_answer, settings_answer, start_answer}
use Rattle.street_states.proofs.Building.{refused_session}

-- a refused start line has no session
abbrev pub unmade : Session
unmade = session_of 0 0 0 0 no_points

-- ---- a check point as an element, or p
abbrev narrowed : ℕ → ℕ
narrowed x = cond (ltb x p) x p

pub narrow_below : (x : ℕ) → x < p → x ≡ narrowed x
narrow_below x h = rw (lt-ltb x p h)

pub narrow_beyond : (x : ℕ) → p ≤ x → p ≡ narrowed x
narrow_beyond x h = rw (le-ltb x p h)

same_point : (x : ℕ) → bad_point (narrowed x) ≡ bad_point x
same_point x = go (ltb x p) refl
  where
    or_true : (b : Bool) → b || true ≡ true
    or_true true = refl
    or_true false = refl

    go : (b : Bool) → ltb x p ≡ b → bad_point (cond b x p) ≡ bad_point x
    go true h = refl
    go false h = rw h (sym (or_true (eqb x 0)))

good_same : (x : ℕ) → bad_point x ≡ false → narrowed x ≡ x
good_same x e = let b = below_p x (or_false (eqb x 0) (beyond x) e).1 in rw (lt-ltb x p b)

-- ---- the session, or 1 to 4
pub refused_is : (a r : Answer) (refusal : ℕ) → a ≡ created 0 0 0 0 no_points → r ≡ holding refusal 0 a.session → r ≡ holding refusal 0 unmade
refused_is a r refusal e q = q ∙ ap (holding refusal 0) (ap (λ (x : Answer). x.session) e ∙ refused_session)

module _ (n t post points first₀ second : ℕ) where
  -- the check points that the line says, and as the session takes them
  abbrev said : Points
  said = record { first = first₀; second = second }

  abbrev theirs : Points
  theirs = record { first = narrowed first₀; second = narrowed second }

  pub begin_many : (r : Answer) → street_posts < n → r ≡ holding 1 0 unmade → r ≡ begin_answer n t post points said
  unfolding outcome
  begin_many r h q = q ∙ rw (lt-ltb street_posts n h)

  same_points : bad_points points theirs ≡ bad_points points said
  unfolding bad_points
  same_points = ap₂ (λ (a b : Bool). bad_point_count points || (a || cond (eqb points most_points) b false)) (same_point first₀) (same_point second)

  same_tests : first (session_tests n t post points theirs) ≡ first (session_tests n t post points said)
  same_tests = ap (λ (b : Bool). first (posts_tests n t ++ (3 when outside 1 n post ∷ 4 when b ∷ []))) same_points

  -- the second is looked at, and stored, where there are two
  same_second : (b : Bool) → cond b (bad_point second) false ≡ false → cond b (narrowed second) 0 ≡ cond b second 0
  same_second true e = good_same second e
  same_second false e = refl

  same_stored : first (session_tests n t post points said) ≡ 0 → as_many_of points theirs ≡ as_many_of points said
  same_stored z =
      let f = all_fail (session_tests n t post points said) tt z in
      let good = points_good points said f.1.1.1.0 in
      ap₂ (λ (a b : ℕ). record { first = a; second = b }) (good_same first₀ good.1) (same_second (eqb points most_points) good.2)

  same_answer : (x : ℕ) → (x ≡ 0 → as_many_of points theirs ≡ as_many_of points said)
      → answer x 0 (session_of n t post points (as_many_of points theirs)) unmade ≡ answer x 0 (session_of n t post points (as_many_of points said)) unmade
  unfolding outcome
  same_answer zero f = ap (λ (w : Points). holding 0 0 (session_of n t post points w)) (f refl)
  same_answer (suc k) f = refl

  module _ (few : n ≤ street_posts) where
    few_tests_lem : first (session_tests n t post points said) ≡ first (start_tests n t post points said)
    few_tests_lem = rw (le-ltb street_posts n few)

    made_is : (made : Answer) → made ≡ created n t post points theirs → made ≡ begin_answer n t post points said
    unfolding created
    made_is made c =
        c ∙ ap (λ (x : ℕ). answer x 0 (session_of n t post points (as_many_of points theirs)) unmade) (same_tests ∙ few_tests_lem)
        ∙ same_answer (first (start_tests n t post points said)) (λ z. same_stored (few_tests_lem ∙ z))

    pub begin_made : (a b : ℕ) (made : Answer) → a ≡ narrowed first₀ → b ≡ narrowed second
        → made ≡ created n t post points (record { first = a; second = b }) → made ≡ begin_answer n t post points said
    begin_made a b made e f c = made_is made (rw (e, f) at c)

-- ---- the whole line
module _ (s : List ℕ) where
  pub start_long : (r : Answer) → longest_line < length s → r ≡ holding 10 0 unmade → r ≡ start_answer s
  unfolding start_answer
  start_long r h q = q ∙ rw (lt-ltb longest_line (length s) h)

  module _ (h : length s ≤ longest_line) (f : Option Settings) (e : f ≡ start_said s) where
    pub start_wrong : (r : Answer) → f ≡ None → r ≡ holding 10 0 unmade → r ≡ start_answer s
    unfolding start_answer
    start_wrong r w q = q ∙ rw (le-ltb longest_line (length s) h, ← e, w)

    pub start_settings : (r : Answer) (g : Settings) → f ≡ Some g
        → r ≡ begin_answer g.n g.t g.post g.points (record { first = g.first; second = g.second }) → r ≡ start_answer s
    unfolding start_answer
    start_settings r g w q = q ∙ rw (le-ltb longest_line (length s) h, ← e, w)

-- ---- what the program makes of it, before a start line was accepted
module _ (st : State) (n : st.started ≡ false) where
  abbrev begun_by : Answer → Stepped
  begun_by a =
      record {
        state = record { session = (settled st.session a).session; started = eqb (settled st.session a).refusal 0; kept = st.kept; triple = st.triple };
        refusal = (settled st.session a).refusal;
        value = 0;
      }

  kept_out : (x : ℕ) → (x ≡ 0 → ⊥) → begun_by (holding x 0 unmade) ≡ refusing st x
  unfolding outcome
  kept_out zero h = absurd (h refl)
  kept_out (suc k) h = rw (n, ne_eqb (suc k) 0 (λ z. absurd (omega arith)))

  begins : (x : ℕ) (new : Session) → begun_by (answer x 0 new unmade) ≡ outcome x (refusing (begun_with st new) 0) (refusing st x)
  unfolding outcome
  begins zero new = refl
  begins (suc k) new = rw (n, ne_eqb (suc k) 0 (λ z. absurd (omega arith)))

  settings_begun : (f : Option Settings) → begun_by (settings_answer f) ≡ settings_step st f
  settings_begun (Some g) =
      let w : Points = record { first = g.first; second = g.second } in
      begins (first (start_tests g.n g.t g.post g.points w)) (session_of g.n g.t g.post g.points (as_many_of g.points w))
  settings_begun None = kept_out 10 (λ z. absurd (omega arith))

  pub start_begun : (s : List ℕ) → begun_by (start_answer s) ≡ start_step st s
  unfolding start_answer start_step
  start_begun s = go (ltb longest_line (length s))
    where
      go : (b : Bool) → begun_by (cond b (holding 10 0 unmade) (settings_answer (start_said s))) ≡ cond b (refusing st 10) (settings_step st (start_said s))
      go true = kept_out 10 (λ z. absurd (omega arith))
      go false = settings_begun (start_said s)
