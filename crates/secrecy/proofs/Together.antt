-- Marks, vectors and books in the two runs: they stay side by side, one act after the other.
use Prim.Native.Nat.{ℕ, ◌+◌, ◌≤◌, ◌<◌}
use mathlib.Core.Path.{◌≡◌, refl, sym, ◌∙◌, ap, ap₂, subst}
use mathlib.Core.Logic.{◌≢◌, inl, inr}
use mathlib.Core.List.{List, [], ◌∷◌}
use native.Mathlib.Decide.{ℕ_discrete}
use native.Mathlib.Omega.{arith}
use lib.ListN.{set}
use lib.Seq.{get_or-set_other}
use Rattle.field.specs.Arithmetic.{product}
use Rattle.field.specs.Element.{Element, element}
use Rattle.poly.specs.Counting.{All}
use Rattle.poly.proofs.Lists.{all_map}
use Rattle.shape.specs.Bounds.{row_count_of, last_triple}
use Rattle.shape.specs.Marks.{empty, raw, held, unused, further, masked, spent, collected}
use Rattle.vectors.specs.Vector.{Vector, raised, number}
use Rattle.runs.specs.Draws.{point_of, plan_shape}
use Rattle.runs.specs.Outline.{Act, loads, loads_triple, deals, opens, Summand, once, times, fee, sums, factors, collects, multiplies, admits, takes, Given, Move, moves, acts_in, acts, sends}
use Rattle.runs.specs.Calls.{at}
use Rattle.runs.proofs.Outlines.{every_all}
use Rattle.runs.proofs.Marks.{Marks, Opened, opened_by, opened_all, mark_of, remarked, finished, mask_vector_a, mask_vector_b, zero_vector, worth_vector, total_vector, product_sum, written, Masking, none, of, masking, marks_by, vectors_by, marks_all, vectors_all, at_same, at_other}
use Rattle.runs.proofs.Facts.{HeldIn, AllowedBy, AllowedAll, Allowed, MasksBy, Tripled}
use Rattle.runs.proofs.Rows.{sized_by, five_by, nonzero}
use Rattle.secrecy.specs.Steps.{Fixed, Step, dealt_with, dealt_number}
use Rattle.secrecy.specs.Rules.{RuleWith, Rule}
use Rattle.secrecy.specs.Book.{Book, entered_by, entered_all, entered}
use Rattle.secrecy.proofs.Moves.{number_at, vectors_then, opened_then}
use Rattle.secrecy.proofs.Entered.{noted_a, noted_b, noted_is, notes_by}
use Rattle.secrecy.proofs.State.{Dealt, facts_step}
use Rattle.secrecy.proofs.Near.{Near, near_self, near_plus_times, near_raised}
use Rattle.secrecy.proofs.Pair.{Two, run_one, run_two, Moments, Pair, apart, Core, core, core_wait, FitBy, FitAll, Fit}
use Rattle.secrecy.proofs.Answers.{number_same}

module _ (T : Two) (lines : List (List ℕ)) (ds : Dealt (run_one T) lines) (ds' : Dealt (run_two T) lines) where
  abbrev Nearly : Vector → Vector → Type 0
  Nearly = Near (plan_shape T.plan) (point_of T.plan T.d) T.K

  -- every row with a mark
  abbrev AllNear : Marks → (ℕ → Vector) → (ℕ → Vector) → Type 0
  AllNear N v v' = (r : ℕ) → r < row_count_of → mark_of N r ≢ empty → Near (plan_shape T.plan) (point_of T.plan T.d) T.K (v r) (v' r)

  -- one row written
  near_put : (N : Marks) (v v' : ℕ → Vector) → AllNear N v v' → (x m : ℕ) (X X' : Vector) → Nearly X X' → AllNear (remarked N x m) (at v x X) (at v' x X')
  near_put N v v' h x m X X' new r lr ne = go (ℕ_discrete r x)
    where
      go : Dec (r ≡ x) → Nearly (at v x X r) (at v' x X' r)
      go (yes e) =
          subst (λ (y : ℕ). Near (plan_shape T.plan) (point_of T.plan T.d) T.K (at v x X y) (at v' x X' y)) (sym e)
          (subst (λ (Y : Vector). Near (plan_shape T.plan) (point_of T.plan T.d) T.K Y (at v' x X' x)) (sym (at_same v x X))
          (subst (λ (Y : Vector). Near (plan_shape T.plan) (point_of T.plan T.d) T.K X Y) (sym (at_same v' x X')) new))
      go (no e) =
          subst (λ (Y : Vector). Near (plan_shape T.plan) (point_of T.plan T.d) T.K Y (at v' x X' r)) (sym (at_other v x X r e))
          (subst (λ (Y : Vector). Near (plan_shape T.plan) (point_of T.plan T.d) T.K (v r) Y) (sym (at_other v' x X' r e))
          (h r lr (subst (λ (y : ℕ). y ≢ 0) (get_or-set_other N.marks x r m 0 e) ne)))

  -- a mark changed that was not 0
  near_mark : (N : Marks) (v v' : ℕ → Vector) → AllNear N v v' → (x m : ℕ) → mark_of N x ≢ empty → AllNear (remarked N x m) v v'
  near_mark N v v' h x m was r lr ne = go (ℕ_discrete r x)
    where
      go : Dec (r ≡ x) → Nearly (v r) (v' r)
      go (yes e) = h r lr (subst (λ (y : ℕ). mark_of N y ≢ empty) (sym e) was)
      go (no e) = h r lr (subst (λ (y : ℕ). y ≢ 0) (get_or-set_other N.marks x r m 0 e) ne)

  -- a sum of rows that are near
  module _ (vec vec' : ℕ → Vector) where
    abbrev NearIn : Summand → Type 0
    NearIn (once a) = Near (plan_shape T.plan) (point_of T.plan T.d) T.K (vec a) (vec' a)
    NearIn (times s b) = Near (plan_shape T.plan) (point_of T.plan T.d) T.K (vec b) (vec' b)
    NearIn (fee k) = Unit {0}

    near_worth : (t : Summand) → NearIn t → Nearly (worth_vector vec t) (worth_vector vec' t)
    near_worth (once a) h = h
    near_worth (times s b) h =
        near_plus_times (plan_shape T.plan) (point_of T.plan T.d) T.K s zero_vector zero_vector (vec b) (vec' b)
        (near_self (plan_shape T.plan) (point_of T.plan T.d) T.K zero_vector) h
    near_worth (fee k) h = near_self (plan_shape T.plan) (point_of T.plan T.d) T.K (raised (element k) zero_vector)

    near_total : (t : Summand) (ts : List Summand) → NearIn t → All NearIn ts → Nearly (total_vector vec t ts) (total_vector vec' t ts)
    near_total t [] h hs = near_worth t h
    near_total t (t' ∷ ts) h hs =
        near_plus_times (plan_shape T.plan) (point_of T.plan T.d) T.K 1 (worth_vector vec t) (worth_vector vec' t)
        (total_vector vec t' ts) (total_vector vec' t' ts) (near_worth t h) (near_total t' ts hs.0 hs.1)

  module _ (M : Marks) (vec vec' : ℕ → Vector) (b b' : Book) (K : Core T M vec vec' b b') where
    -- a sum of held rows
    near_of : (t : Summand) → HeldIn M t → NearIn vec vec' t
    near_of (once a) h = K.near a h.0 (nonzero M a h.1)
    near_of (times s x) h = K.near x h.0 (nonzero M x h.1)
    near_of (fee k) h = tt

    near_finish : (x : ℕ) → Tripled collected M x
        → AllNear (finished M x) (at vec (x + 2) (written M vec x)) (at vec' (x + 2) (written M vec' x))
    near_finish x al =
        near_put (remarked (remarked M x spent) (x + 1) spent) vec vec'
        (near_mark (remarked M x spent) vec vec' (near_mark M vec vec' K.near x spent (nonzero M x al.first)) (x + 1) spent second) (x + 2) held (written M vec x) (written M vec' x) new
      where
        second : mark_of (remarked M x spent) (x + 1) ≢ empty
        second g = omega (arith, get_or-set_other M.marks x (x + 1) spent 0 (omega arith), al.second)

        low : x ≤ last_triple
        low = al.r_low

        w : (number (mask_vector_a M vec x) ≡ number (mask_vector_a M vec' x)) × (number (mask_vector_b M vec x) ≡ number (mask_vector_b M vec' x))
        w = core_wait T M vec vec' b b' K x (inr al.first) (omega (arith, low))

        y : ℕ
        y = (number (mask_vector_a M vec x)).0

        y' : ℕ
        y' = (number (mask_vector_b M vec x)).0

        n0 : Nearly (vec x) (vec' x)
        n0 = K.near x (omega (arith, low)) (nonzero M x al.first)

        n1 : Nearly (vec (x + 1)) (vec' (x + 1))
        n1 = K.near (x + 1) (omega (arith, low)) (nonzero M (x + 1) al.second)

        n2 : Nearly (vec (x + 2)) (vec' (x + 2))
        n2 = K.near (x + 2) (omega (arith, low)) (nonzero M (x + 2) al.third)

        new : Nearly (written M vec x) (written M vec' x)
        new =
            subst (Near (plan_shape T.plan) (point_of T.plan T.d) T.K (written M vec x))
            (ap₂ (λ (a c : Element). product_sum vec' x a.0 c.0) w.0 w.1)
            (near_total vec vec' (once (x + 2)) (times y (x + 1) ∷ times y' x ∷ fee (product y y') ∷ []) n2 (n1, (n0, (tt, tt))))

    abbrev v1 : (a : Act) → Given Fixed (takes a) → ℕ → Vector
    v1 a x = vectors_by T.plan T.d a (number_at T.plan T.d T.u (takes a) x) M vec

    abbrev v2 : (a : Act) → Given Fixed (takes a) → ℕ → Vector
    v2 a x = vectors_by T.plan T.d' a (number_at T.plan T.d' T.u' (takes a) x) M vec'

    near_by : (a : Act) (x : Given Fixed (takes a)) → AllowedBy a M → RuleWith T.plan 0 lines (takes a) x → AllNear (marks_by a M) (v1 a x) (v2 a x)
    near_by (loads r) x al rule = near_put M vec vec' K.near r raw _ _ (T.link.near_raw r al.0.0 (rule refl).0)
    near_by (loads_triple r) x al rule =
        let t = (rule refl).0 in
        let lr : r < row_count_of = omega (arith, al.0.0) in
        near_put (remarked (remarked M r unused) (r + 1) further) _ _
        (near_put (remarked M r unused) _ _ (near_put M vec vec' K.near r unused _ _ (T.link.near_a r lr t)) (r + 1) further _ _ (T.link.near_b r lr t))
        (r + 2) further _ _ (T.link.near_ab r lr t)
    near_by (deals r) c al rule =
        near_put M vec vec' K.near r held _ _
        (subst (λ (x : ℕ). Near (plan_shape T.plan) (point_of T.plan T.d) T.K (raised (element (dealt_with c (dealt_number T.plan T.d T.u))) (vec r)) (raised (element x) (vec' r))) (number_same T c)
        (near_raised (plan_shape T.plan) (point_of T.plan T.d) T.K (dealt_with c (dealt_number T.plan T.d T.u)) (vec r) (vec' r) (K.near r al.0.0 (nonzero M r al.0.1))))
    near_by (opens r) blocks al rule = K.near
    near_by (sums r t ts) x al rule =
        near_put M vec vec' K.near r held _ _ (near_total vec vec' t ts (near_of t al.0.held.0) (all_map near_of ts al.0.held.1))
    near_by (factors x y r) t al rule = near_mark M vec vec' K.near r masked (nonzero M r al.1.first)
    near_by (collects r) blocks al rule = near_mark M vec vec' K.near r collected (nonzero M r al.0.first)
    near_by (multiplies r) x al rule = near_finish r al.0
    near_by (admits line) x al rule = K.near

    opened_by_lem : (a : Act) → AllowedBy a M → (Y : Opened) → opened_by a M vec Y ≡ opened_by a M vec' Y
    opened_by_lem (loads r) al Y = refl
    opened_by_lem (loads_triple r) al Y = refl
    opened_by_lem (deals r) al Y = refl
    opened_by_lem (opens r) al Y = refl
    opened_by_lem (sums r t ts) al Y = refl
    opened_by_lem (factors x y r) al Y = refl
    opened_by_lem (collects r) al Y =
        let w = core_wait T M vec vec' b b' K r (inl al.0.first) (omega (arith, al.0.r_low)) in
        ap₂ (λ (x y : Element). record { y_a_is = set Y.y_a_is r x.0; y_b_is = set Y.y_b_is r y.0 }) w.0 w.1
    opened_by_lem (multiplies r) al Y = refl
    opened_by_lem (admits line) al Y = refl

    -- a triple whose masks the act makes: they are those that were reckoned with
    masked_now : (m : Masking) → FitBy T m b b' → (r : ℕ) → MasksBy m r
        → (apart (noted_a m b r) (noted_a m b' r) ≡ (T.Δ r).factor_a_is) × (apart (noted_b m b r) (noted_b m b' r) ≡ (T.Δ r).factor_b_is)
    masked_now none fit r at-r = absurd at-r
    masked_now (of x y r') fit r at-r =
        subst
        (λ (w : ℕ). (apart (at b.factor_a_of r' (b.place x) w) (at b'.factor_a_of r' (b'.place x) w) ≡ (T.Δ w).factor_a_is)
        × (apart (at b.factor_b_of r' (b.place y) w) (at b'.factor_b_of r' (b'.place y) w) ≡ (T.Δ w).factor_b_is))
        (sym at-r) (
          ap₂ apart (at_same b.factor_a_of r' (b.place x)) (at_same b'.factor_a_of r' (b'.place x)) ∙ fit.0,
          ap₂ apart (at_same b.factor_b_of r' (b.place y)) (at_same b'.factor_b_of r' (b'.place y)) ∙ fit.1,
        )

    masked_by : (a : Act) → FitBy T (masking a) b b' → (r : ℕ) → MasksBy (masking a) r
        → (apart ((entered_by T.u a b).factor_a_of r) ((entered_by T.u' a b').factor_a_of r) ≡ (T.Δ r).factor_a_is)
        × (apart ((entered_by T.u a b).factor_b_of r) ((entered_by T.u' a b').factor_b_of r) ≡ (T.Δ r).factor_b_is)
    masked_by a fit r at-r =
        let n = noted_is T.u a b in
        let n' = noted_is T.u' a b' in
        let k = masked_now (masking a) fit r at-r in (
          ap₂ (λ (f g : ℕ → ℕ). apart (f r) (g r)) n.0 n'.0 ∙ k.0,
          ap₂ (λ (f g : ℕ → ℕ). apart (f r) (g r)) n.1 n'.1 ∙ k.1,
        )

    core_by : (a : Act) (x : Given Fixed (takes a)) → AllowedBy a M → RuleWith T.plan 0 lines (takes a) x → FitBy T (masking a) b b'
        → Core T (marks_by a M) (v1 a x) (v2 a x) (entered_by T.u a b) (entered_by T.u' a b')
    core_by a x al rule fit = record {
      sized = sized_by a M K.sized;
      one = facts_step (run_one T) lines ds M vec b a x K.sized al rule K.one;
      two = facts_step (run_two T) lines ds' M vec' b' a x K.sized al rule K.two;
      near = near_by a x al rule;
      waiting = λ r lr five. elim (five_by T.plan T.d a M K.sized al r lr five) [
        | inl k ↦ (
            let n = notes_by T.u M b a al r (inl k.0) in
            let n' = notes_by T.u' M b' a al r (inl k.0) in
            let w = K.waiting r lr k.0 in
            (ap₂ apart n.0 n'.0 ∙ w.0, ap₂ apart n.1 n'.1 ∙ w.1))
        | inr at-r ↦ masked_by a fit r at-r
      ];
    }

  core_all : (ms : List (Move Fixed)) (M : Marks) (vec vec' : ℕ → Vector) (b b' : Book) → Core T M vec vec' b b'
      → AllowedAll (acts_in Fixed ms) M → All (λ m. RuleWith T.plan 0 lines (takes m.0) m.1) ms → FitAll T (acts_in Fixed ms) b b'
      → Core T (marks_all (acts_in Fixed ms) M) (vectors_all T.plan T.d Fixed (number_at T.plan T.d T.u) ms M vec)
      (vectors_all T.plan T.d' Fixed (number_at T.plan T.d' T.u') ms M vec')
      (entered_all T.u (acts_in Fixed ms) b) (entered_all T.u' (acts_in Fixed ms) b')
  core_all [] M vec vec' b b' K al rule fit = K
  core_all (m ∷ ms) M vec vec' b b' K al rule fit =
      core_all ms (marks_by m.0 M) _ _ (entered_by T.u m.0 b) (entered_by T.u' m.0 b')
      (core_by M vec vec' b b' K m.0 m.1 al.0 rule.0 fit.0) al.1 rule.1 fit.1

  -- masks are opened to the same numbers
  opened_all_lem : (ms : List (Move Fixed)) (M : Marks) (vec vec' : ℕ → Vector) (b b' : Book) → Core T M vec vec' b b'
      → AllowedAll (acts_in Fixed ms) M → All (λ m. RuleWith T.plan 0 lines (takes m.0) m.1) ms → FitAll T (acts_in Fixed ms) b b' → (Y : Opened)
      → opened_all T.plan T.d Fixed (number_at T.plan T.d T.u) ms M vec Y
      ≡ opened_all T.plan T.d' Fixed (number_at T.plan T.d' T.u') ms M vec' Y
  opened_all_lem [] M vec vec' b b' K al rule fit Y = refl
  opened_all_lem (m ∷ ms) M vec vec' b b' K al rule fit Y =
      opened_all_lem ms (marks_by m.0 M) _ _ (entered_by T.u m.0 b) (entered_by T.u' m.0 b')
      (core_by M vec vec' b b' K m.0 m.1 al.0 rule.0 fit.0) al.1 rule.1 fit.1 (opened_by m.0 M vec Y)
      ∙ ap (opened_all T.plan T.d' Fixed (number_at T.plan T.d' T.u') ms (marks_by m.0 M) (v2 M vec vec' b b' K m.0 m.1))
      (opened_by_lem M vec vec' b b' K m.0 al.0 Y)

pub core_after : (T : Two) (m : Moments) (R : Pair T m) (c : Step) → Allowed (acts c) (sends c) m.marks → Rule T.plan c 0 m.lines
    → Fit T m R c
    → Core T (marks_all (acts c) m.marks) (vectors_then T.plan T.d T.u c m.marks m.vec)
    (vectors_then T.plan T.d' T.u' c m.marks m.vec') (entered T.u c m.book) (entered T.u' c m.book')
core_after T m R c al rule fit =
    core_all T m.lines R.one.dealings R.two.dealings (moves c) m.marks m.vec m.vec' m.book m.book' (core T m R) al.moving (every_all _ (moves c) rule) fit

pub opened_after : (T : Two) (m : Moments) (R : Pair T m) (c : Step) → Allowed (acts c) (sends c) m.marks → Rule T.plan c 0 m.lines
    → Fit T m R c → (Y : Opened)
    → opened_then T.plan T.d T.u c m.marks m.vec Y ≡ opened_then T.plan T.d' T.u' c m.marks m.vec' Y
opened_after T m R c al rule fit =
    opened_all_lem T m.lines R.one.dealings R.two.dealings (moves c) m.marks m.vec m.vec' m.book m.book' (core T m R) al.moving (every_all _ (moves c) rule) fit
