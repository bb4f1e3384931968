-- A row that is held stays held; and the sum's row of a relation is held once its finish is done.
use Prim.Native.Nat.{ℕ, zero, suc, ◌*◌, ◌≤◌, ◌<◌}
use mathlib.Core.Path.{◌≡◌, refl, sym, ◌∙◌, ap, subst}
use mathlib.Core.List.{List, [], ◌∷◌}
use native.Mathlib.Decide.{ℕ_discrete}
use native.Mathlib.Omega.{arith}
use lib.ListN.{length}
use lib.Seq.{get_or-set_same}
use Rattle.shape.specs.Bounds.{row_count_of}
use Rattle.shape.specs.Marks.{held}
use Rattle.session.specs.declared.Session.{Session}
use Rattle.session.specs.Sessions.{mark}
use Rattle.terms.specs.declared.Term.{Term}
use Rattle.terms.specs.Listed.{products_of}
use Rattle.relation.proofs.Passed.{relation_finished}
use Rattle.runs.specs.Draws.{Plan, Draw, IsDraw, Sound}
use Rattle.runs.specs.Outline.{multiplies, acts_in, summing, moves, acts}
use Rattle.runs.specs.Calls.{Post, Actual, Call, Performed, relation_finish_of, perform, after, at}
use Rattle.runs.specs.Orders.{Order, call, carry, Comes, no_call, a_call, comes_to, Asked, ComesToIt}
use Rattle.runs.proofs.Marks.{Marks, mark_of, Sized, finished, at_same, at_other, marks_all, number_in}
use Rattle.runs.proofs.Outcomes.{refusal_of, refusal_is, refused}
use Rattle.runs.proofs.Orders.{orders_come}
use Rattle.runs.proofs.Rows.{sized_by, held_stays}
use Rattle.runs.proofs.Related.{marks_products}
use Rattle.runs.proofs.Relations.{finished_all}
use Rattle.runs.proofs.Steps.{post_at, named, Fits, stands_after}
use Rattle.correctness.specs.History.{Event, World, desk, done_by, answer_of, step, history, Each}
use Rattle.correctness.specs.Ledger.{Ledger, Written}
use Rattle.correctness.specs.Truth.{OwnPart, TrueFinish}
use Rattle.correctness.proofs.Standing.{Good, stand_of, allowed_at}
use Rattle.correctness.proofs.Fitting.{fits}
use Rattle.correctness.proofs.Walking.{Inv, AskedOf, after_event}

abbrev pub held_in : Post → ℕ → Type 0
held_in q r = mark q.session r ≡ held

-- the sum's row is one of the session's, as its marks are
sized_finished : (ts : List Term) (M : Marks) → Sized M → Sized (finished_all ts M)
sized_finished [] M z = z
sized_finished (t ∷ ts) M z = sized_finished ts (finished M t.first) (sized_by (multiplies t.first) M z)

module _ (plan : Plan) (draw : Draw) (L : Ledger) (is : IsDraw plan draw) (len i : ℕ) (hi : i ≤ plan.n) (q : Post) (g : Good plan draw L len i q) where
  -- by the marks after the call
  after_marks : (c : Call) → refusal_of c q ≡ 0 → Fits plan draw i g.marks g.vec c → (r : ℕ) → mark_of (marks_all (acts c) g.marks) r ≡ held
      → held_in (after (perform c q)) r
  after_marks c z fit r two = ap (λ (x : Session). mark x r) (stands_after (stand_of plan draw L is len i hi q g) c z fit).session ∙ two

  -- one call
  call_keeps : (c : Call) (k : ℕ) → refusal_of c q ≡ k → (k ≡ 0 → Fits plan draw i g.marks g.vec c) → (r : ℕ) → held_in q r → held_in (after (perform c q)) r
  call_keeps c zero z fit r two =
      after_marks c z (fit refl) r
      (held_stays plan draw Actual number_in (moves c) g.marks g.vec g.sized (allowed_at plan draw L len i q g c z).moving r
      (sym (ap (λ (x : Session). mark x r) g.stands.session) ∙ two)).0
  call_keeps c (suc k) z fit r two = ap (λ (x : Session). mark x r) (refused c q k z).0 ∙ two

  -- the finish of a relation
  sum_held : (r : ℕ) (ts : List Term) (N : Marks) → Sized N → 1 ≤ length ts → r < row_count_of → mark_of (marks_all (acts_in Actual (summing Actual r ts)) N) r ≡ held
  sum_held r [] N z some low = absurd (omega arith)
  sum_held r (t ∷ ts) N z some low = get_or-set_same N.marks r held 0 (omega (arith, z.marks))

  finish_holds : (ts : List Term) (r : ℕ) (records : List ℕ) → refusal_of (relation_finish_of ts r records) q ≡ 0
      → Fits plan draw i g.marks g.vec (relation_finish_of ts r records) → held_in (after (perform (relation_finish_of ts r records) q)) r
  finish_holds ts r records z fit =
      let f = (relation_finished (post_at plan draw i g.marks g.stands.opened q.rows).session ts r records q.rows (subst (λ (x : Post). refusal_of (relation_finish_of ts r records) x ≡ 0) (named plan draw len i g.marks g.vec q g.stands) z)).checked.placed in
      let fs = products_of ts in
      after_marks (relation_finish_of ts r records) z fit r
      (ap (λ (N : Marks). mark_of N r) (marks_products plan draw (2 * length fs) records (summing Actual r ts) 0 fs g.marks)
      ∙ sum_held r ts (finished_all fs g.marks) (sized_finished fs g.marks g.sized) f.some (omega (arith, f.sum_in)))

module _ (plan : Plan) (draw : Draw) (L : Ledger) (S : ℕ → Type 0) (sound : Sound plan) (is : IsDraw plan draw) (lens : ℕ → ℕ) (i : ℕ) (lo : 1 ≤ i) (hi : i ≤ plan.n) (among : S i) (r : ℕ) where
  -- what a call that is not refused is given, in a run with these premises
  module _ (w : World) (v : Inv plan draw L S sound is lens w) (c : Call)
      (own : (perform c (w.posts i)).answer.refusal ≡ 0 → OwnPart plan draw i c) (truth : (perform c (w.posts i)).answer.refusal ≡ 0 → TrueFinish S w (w.posts i) c) where
    given : refusal_of c (w.posts i) ≡ 0 → Fits plan draw i (v.posts i lo hi among).marks (v.posts i lo hi among).vec c
    given z =
        let y = refusal_is c (w.posts i) ∙ z in
        fits plan draw L sound is S w v.lines (lens i) i (w.posts i) (v.posts i lo hi among) c z (own y) (truth y)

    stays : held_in (w.posts i) r → held_in (after (perform c (w.posts i))) r
    stays two = call_keeps plan draw L is (lens i) i hi (w.posts i) (v.posts i lo hi among) c _ refl given r two

  -- an order of this post
  module _ (w : World) (v : Inv plan draw L S sound is lens w) (o : Order)
      (own : AskedOf plan draw L S sound is lens (λ j c x. OwnPart plan draw j c) (record { post = i; order = o }) w)
      (truth : AskedOf plan draw L S sound is lens (λ j c x. TrueFinish S x (x.posts j) c) (record { post = i; order = o }) w)
      (two : held_in (w.posts i) r) where
    abbrev come : ComesToIt o (desk w i)
    come = orders_come o (desk w i)

    done_zero : (c : Call) → comes_to o (desk w i) ≡ a_call c → (perform c (w.posts i)).answer.refusal ≡ 0 → (carry o (desk w i)).done.answer.refusal ≡ 0
    done_zero c z k = ap (λ (x : Performed). x.answer.refusal) (come.one c z) ∙ k

    ordered : (m : Comes Actual) → comes_to o (desk w i) ≡ m → held_in (after (carry o (desk w i)).done) r
    ordered no_call z = ap (λ (x : Post). mark x.session r) (come.none z) ∙ two
    ordered (a_call c) z =
        ap (λ (x : Performed). mark x.answer.session r) (come.one c z)
        ∙ stays w v c (λ k. subst (Asked (OwnPart plan draw i)) z (own among (done_zero c z k)))
        (λ k. subst (Asked (TrueFinish S w (w.posts i))) z (truth among (done_zero c z k))) two

  keeps : (w : World) (v : Inv plan draw L S sound is lens w) (e : Event)
      → AskedOf plan draw L S sound is lens (λ j c x. OwnPart plan draw j c) e w
      → AskedOf plan draw L S sound is lens (λ j c x. TrueFinish S x (x.posts j) c) e w
      → held_in (w.posts i) r → held_in ((step e w).posts i) r
  keeps w v e own truth two = go (ℕ_discrete i e.post)
    where
      go : Dec (i ≡ e.post) → held_in (at w.posts e.post (after (done_by e w).done) i) r
      go (no ne) = ap (λ (x : Post). mark x.session r) (at_other w.posts e.post (after (done_by e w).done) i ne) ∙ two
      go (yes g) =
          let here = subst (λ (j : ℕ). AskedOf plan draw L S sound is lens (λ j c x. OwnPart plan draw j c) (record { post = j; order = e.order }) w
          × AskedOf plan draw L S sound is lens (λ j c x. TrueFinish S x (x.posts j) c) (record { post = j; order = e.order }) w) (sym g) (own, truth) in
          subst (λ (j : ℕ). held_in (at w.posts j (after (carry e.order (desk w j)).done) i) r) g
          (ap (λ (x : Post). mark x.session r) (at_same w.posts i (after (carry e.order (desk w i)).done))
          ∙ ordered w v e.order here.0 here.1 two _ refl)

  pub stays_held : (es : List Event) (w : World) → Inv plan draw L S sound is lens w → Each S (λ j c x. OwnPart plan draw j c) es w
      → Each S (λ j c x. Written draw L c) es w → Each S (λ j c x. TrueFinish S x (x.posts j) c) es w
      → held_in (w.posts i) r → held_in ((history es w).posts i) r
  stays_held [] w v o y t two = two
  stays_held (e ∷ es) w v o y t two =
      stays_held es (step e w) (after_event plan draw L S sound is lens w v e o.0 y.0 t.0) o.1 y.1 t.1
      (keeps w v e o.0 t.0 two)

  -- the post i finishes the relation
  pub held_now : (w : World) (v : Inv plan draw L S sound is lens w) (ts : List Term) (records : List ℕ)
      → (let c : Call = relation_finish_of ts r records in
      let e : Event = record { post = i; order = call c } in
      (answer_of e w).refusal ≡ 0 → OwnPart plan draw i c → TrueFinish S w (w.posts i) c → held_in ((step e w).posts i) r)
  unfolding carry
  held_now w v ts records z own truth =
      let c = relation_finish_of ts r records in
      let y = sym (refusal_is c (w.posts i)) ∙ z in
      ap (λ (x : Post). mark x.session r) (at_same w.posts i (after (perform c (w.posts i))))
      ∙ finish_holds plan draw L is (lens i) i hi (w.posts i) (v.posts i lo hi among) ts r records y (given w v c (λ k. own) (λ k. truth) y)
