-- One post, whatever it calls: the sets that its session keeps are those of its calls.
use Prim.Native.Nat.{ℕ, zero, suc, ◌≤◌}
use mathlib.Core.Path.{◌≡◌, refl, sym, ◌∙◌, ap, subst}
use mathlib.Core.Bool.{Bool, true, false, not, cond, ◌||◌}
use mathlib.Core.List.{List, [], ◌∷◌}
use native.Mathlib.Decide.{ℕ_discrete}
use native.Mathlib.Omega.{arith}
use borrow.Author.Tests.{eq-eqb, ne_eqb}
use lib.Dec.{eqb}
use Rattle.shape.specs.Bounds.{last_row_at}
use Rattle.refusal.specs.Refusal.{outcome}
use Rattle.refusal.specs.Conditions.{outside}
use Rattle.refusal.proofs.Laws.{inside}
use Rattle.session.specs.declared.Session.{Session}
use Rattle.session.specs.Sessions.{barred_from}
use Rattle.callers.specs.Sets.{bars}
use Rattle.message.proofs.Passed.{message_split, message_made}
use Rattle.runs.specs.Draws.{Plan, Draw, IsDraw, Sound}
use Rattle.runs.specs.Outline.{acts}
use Rattle.runs.specs.Calls.{Actual, Post, Call, Performed, new_post, perform, after, at}
use Rattle.runs.specs.Orders.{Order, Desk, carry, Comes, no_call, a_call, comes_to, sets_after}
use Rattle.runs.specs.Callers.{Sets, all_posts, set_all, set_after}
use Rattle.runs.proofs.Marks.{at_same, at_other, Marks, Opened, Sized, session_at, marks_all}
use Rattle.runs.proofs.Start.{sizes, start, start_sized, blanks, made}
use Rattle.runs.proofs.Rows.{sized_after}
use Rattle.runs.proofs.Outcomes.{answer_refusal, refusal_of, refusal_is, done, done_is, refused}
use Rattle.runs.proofs.Orders.{orders_come}
use Rattle.runs.proofs.Allowed.{allowed}
use Rattle.runs.proofs.Standing.{post_at}
use Rattle.runs.proofs.Callers.{Tells, tells_start, tells_all}
use Rattle.runs.proofs.Remains.{remains}
use Rattle.correctness.specs.History.{Event, World, desk, done_by, answer_of, step, history, begin}
use Rattle.correctness.specs.Callers.{sets_from, post_of, in_set, SetsFollow, OnlyCalled}

left_is : {A : Type 0} (k j : ℕ) (new old : A) → k ≡ suc j → outcome k new old ≡ old
unfolding outcome
left_is zero j new old e = absurd (omega arith)
left_is (suc k) j new old e = refl

module _ (plan : Plan) (draw : Draw) (i : ℕ) where
  -- the session by its marks, and the sets that these tell
  pub record Kept (q : Post) (X : Sets) : Type 0 where
    pub marks : Marks
    pub opened : Opened
    pub session : q.session ≡ session_at plan draw i marks opened
    pub sized : Sized marks
    pub tells : Tells marks X

  -- a call that is not refused
  kept_done : (c : Call) (q : Post) (X : Sets) (h : Kept q X) → refusal_of c q ≡ 0 → Kept (after (perform c q)) (set_all (acts c) X)
  kept_done c q X h =
      subst (λ (x : Post). refusal_of c x ≡ 0 → Kept (after (perform c x)) (set_all (acts c) X)) (λ j. record { session = sym h.session j; rows = q.rows })
      (λ z.
      let o = remains plan draw i h.marks h.opened q.rows c z in
      record {
        marks = marks_all (acts c) h.marks;
        opened = o.0;
        session = ap (λ (x : Post). x.session) (done c (post_at plan draw i h.marks h.opened q.rows) z) ∙ o.1;
        sized = sized_after (acts c) h.marks h.sized;
        tells = tells_all (acts c) h.marks X h.sized (allowed plan draw i h.marks h.opened q.rows c z).moving h.tells;
      })

  -- any call
  kept_call : (c : Call) (q : Post) (X : Sets) → Kept q X → Kept (after (perform c q)) (set_after c (perform c q).answer.refusal X)
  kept_call c q X h = go (perform c q).answer.refusal refl
    where
      go : (k : ℕ) → (perform c q).answer.refusal ≡ k → Kept (after (perform c q)) (set_after c (perform c q).answer.refusal X)
      go zero e = subst (Kept (after (perform c q))) (sym (done_is _ _ _ e)) (kept_done c q X h (sym (refusal_is c q) ∙ e))
      go (suc k) e =
          let o = refused c q k (sym (refusal_is c q) ∙ e) in
          subst (Kept (after (perform c q))) (sym (left_is _ k _ _ e))
          (record { marks = h.marks; opened = h.opened; session = o.0 ∙ h.session; sized = h.sized; tells = h.tells })

  -- any order
  kept_order : (o : Order) (q : Desk) (X : Sets) → Kept q.post X → Kept (after (carry o q).done) (sets_after (comes_to o q) (carry o q).done.answer.refusal X)
  kept_order o q X h = go (comes_to o q) refl
    where
      go : (m : Comes Actual) → comes_to o q ≡ m → Kept (after (carry o q).done) (sets_after m (carry o q).done.answer.refusal X)
      go no_call z = subst (λ (x : Post). Kept x X) (sym ((orders_come o q).none z)) h
      go (a_call c) z =
          subst (λ (x : Performed). Kept (after x) (set_after c x.answer.refusal X)) (sym ((orders_come o q).one c z)) (kept_call c q.post X h)

  -- the events of the station, of which the post's own count
  kept_all : (es : List Event) (w : World) (X : Sets) → Kept (w.posts i) X → Kept ((history es w).posts i) (sets_from i es w X)
  kept_all [] w X h = h
  kept_all (e ∷ es) w X h = kept_all es (step e w) _ (go (ℕ_discrete i e.post))
    where
      new : Sets
      new = sets_after (comes_to e.order (desk w e.post)) (answer_of e w).refusal X

      go : Dec (i ≡ e.post) → Kept ((step e w).posts i) (cond (eqb i e.post) new X)
      go (yes k) =
          let mine : Kept (at w.posts e.post (after (done_by e w).done) e.post) new
          = subst (λ (x : Post). Kept x new) (sym (at_same w.posts e.post (after (done_by e w).done)))
          (kept_order e.order (desk w e.post) X (subst (λ (x : ℕ). Kept (w.posts x) X) k h)) in
          subst (Kept ((step e w).posts i)) (sym (ap (λ (b : Bool). cond b new X) (eq-eqb i e.post k)))
          (subst (λ (x : ℕ). Kept (at w.posts e.post (after (done_by e w).done) x) new) (sym k) mine)
      go (no n) =
          subst (Kept ((step e w).posts i)) (sym (ap (λ (b : Bool). cond b new X) (ne_eqb i e.post n)))
          (subst (λ (x : Post). Kept x X) (sym (at_other w.posts e.post (after (done_by e w).done) i n)) h)

module _ (plan : Plan) (draw : Draw) (rows states : ℕ → List ℕ) (es : List Event) (sound : Sound plan) (is : IsDraw plan draw) (i : ℕ) (lo : 1 ≤ i) (hi : i ≤ plan.n) where
  kept_end : Kept plan draw i (post_of plan draw rows states es i) (sets_from i es (begin plan draw rows states) all_posts)
  unfolding new_post
  kept_end =
      kept_all plan draw i es (begin plan draw rows states) all_posts
      (record { marks = start; opened = blanks; session = made plan draw sound is i lo hi; sized = start_sized; tells = tells_start })

  follow : (r c : ℕ) → r ≤ last_row_at
      → barred_from (post_of plan draw rows states es i).session r c ≡ (outside 1 plan.n c || not (in_set plan draw rows states es i r c))
  follow r c lr =
      let k = kept_end in
      ap (λ (s : Session). barred_from s r c) k.session ∙ go k (outside 1 plan.n c) refl
    where
      go : (k : Kept plan draw i (post_of plan draw rows states es i) (sets_from i es (begin plan draw rows states) all_posts)) → (b : Bool) → outside 1 plan.n c ≡ b
          → (outside 1 plan.n c || bars k.marks.sets r c) ≡ (outside 1 plan.n c || not (in_set plan draw rows states es i r c))
      go k true e = ap (λ (b : Bool). b || bars k.marks.sets r c) e ∙ sym (ap (λ (b : Bool). b || not (in_set plan draw rows states es i r c)) e)
      go k false e =
          let o = inside 1 plan.n c e in
          ap (λ (b : Bool). outside 1 plan.n c || b) (k.tells.bars_are r c (omega (arith, lr)) o.0 (omega (arith, o.1, (sizes plan sound).n_most)))

pub sets_follow : SetsFollow
sets_follow plan draw rows states es sound is i r c lo hi lr = follow plan draw rows states es sound is i lo hi r c lr

or_left : (a b : Bool) → (a || b) ≡ false → a ≡ false
or_left true b e = e
or_left false b e = refl

or_right : (a b : Bool) → (a || b) ≡ false → b ≡ false
or_right true true e = e
or_right true false e = refl
or_right false b e = e

not_false : (a : Bool) → not a ≡ false → a ≡ true
not_false true e = refl
not_false false e = sym e

pub only_called : OnlyCalled
only_called plan draw rows states es sound is i r c lo hi lent z =
    let q = post_of plan draw rows states es i in
    let k : ◌≡◌ {A = ℕ} _ 0 = sym (answer_refusal _ 0 q.session q.session) ∙ z in
    let m = message_made q.session q.rows r c lent k in
    let b = sym (follow plan draw rows states es sound is i lo hi r c m.placed.row_in) ∙ (message_split q.session q.rows r c lent k).1 in
    let o = inside 1 plan.n c (or_left (outside 1 plan.n c) _ b) in
    (o.0, o.1, not_false (in_set plan draw rows states es i r c) (or_right (outside 1 plan.n c) (not (in_set plan draw rows states es i r c)) b))
