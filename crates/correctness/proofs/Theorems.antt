-- Demand 2 over whole runs, as specs/Claim.antt has it; an opening's own answer; and a post's desk by its own orders alone.
use Prim.Native.Nat.{ℕ, ◌≤◌}
use mathlib.Core.Path.{◌≡◌, refl, sym, ◌∙◌, ap, subst}
use mathlib.Core.Bool.{Bool, cond}
use mathlib.Core.Logic.{inl, inr}
use mathlib.Core.List.{List, [], ◌∷◌, ◌++◌}
use native.Mathlib.Decide.{ℕ_discrete}
use native.Mathlib.Omega.{arith}
use borrow.Author.Tests.{eq-eqb, ne_eqb}
use lib.Dec.{eqb}
use lib.ListN.{length, get_or, take}
use Rattle.shape.specs.Bounds.{last_row_at}
use Rattle.shape.specs.Marks.{held as heldMark}
use Rattle.shape.specs.Lengths.{v_length}
use Rattle.session.specs.declared.Answer.{Answer}
use Rattle.session.specs.Sessions.{mark}
use Rattle.session.specs.Rows.{width, coefficients, row_at}
use Rattle.vectors.specs.Vector.{Vector, numbers}
use Rattle.runs.specs.Draws.{Plan, Draw, point_of, plan_shape}
use Rattle.runs.specs.Calls.{Post, opening, perform, after, opening_line, Among, Told}
use Rattle.runs.specs.Orders.{call, carry, desk_after}
use Rattle.runs.proofs.Marks.{at_same, at_other}
use Rattle.runs.proofs.Steps.{own_numbers, named}
use Rattle.runs.proofs.Rows.{marked_low}
use Rattle.correctness.specs.History.{Event, World, desk, done_by, answer_of, step, history, answers, begin, orders_of, after_orders, OwnList}
use Rattle.correctness.specs.Ledger.{Ledger}
use Rattle.correctness.specs.Truth.{TruePolynomial, TrueMask}
use Rattle.correctness.specs.Claim.{Premises, Answered, Right, Correct, OpeningsAnswered}
use Rattle.correctness.proofs.Meanings.{Is, one}
use Rattle.correctness.proofs.Standing.{Good}
use Rattle.correctness.proofs.Accepting.{Formed}
use Rattle.correctness.proofs.Said.{told, never_bare}
use Rattle.correctness.proofs.Fitting.{small}
use Rattle.correctness.proofs.Walking.{Inv, after_all, beginning}
use Rattle.correctness.proofs.Permitted.{stander_of}
use Rattle.correctness.proofs.Openings.{Reliable, right}

module _ (plan : Plan) (draw : Draw) (L : Ledger) (S : ℕ → Type 0) (rows states : ℕ → List ℕ) (es : List Event) (h : Premises plan draw L S es rows states) where
  unfoldable pub lens : ℕ → ℕ
  lens i = length (rows i)

  unfoldable pub end : World
  end = history es (begin plan draw rows states)

  pub stands : Inv plan draw L S h.sound h.is_draw lens end
  unfolding lens end
  stands =
      after_all plan draw L S h.sound h.is_draw (λ i. length (rows i)) es (begin plan draw rows states)
      (beginning plan draw L S h.sound h.is_draw rows states) h.parts h.ledger h.finishes

  -- what a post of S told
  telling : (r j : ℕ) (xs : List ℕ) → r ≤ last_row_at → 1 ≤ j → j ≤ plan.n → S j → Formed (v_length (plan_shape plan)) xs → Told (end.lines j) r j xs
      → (X : Vector) → Is plan draw L r X → xs ≡ numbers (v_length (plan_shape plan)) (X.v j)
  telling r j xs low lo hi among (inl e) m X is =
      absurd (never_bare plan draw L (small plan h.sound) (end.lines j) (stands.lines j lo hi among) r j low hi (subst (λ (ys : List ℕ). Among (opening_line r j ys) (end.lines j)) e m))
  telling r j xs low lo hi among (inr e) m X is =
      told plan draw L (small plan h.sound) (end.lines j) (stands.lines j lo hi among) r j xs (record { row = low; post = (lo, hi); many = e.0; low = e.1 }) m X is

  -- what it holds
  holding : (j : ℕ) (q : Post) (g : Good plan draw L (lens j) j q) (r : ℕ) (xs : List ℕ)
      → (mark q.session r ≡ heldMark) × (xs ≡ coefficients q.session (row_at (width q.session) q.rows r))
      → (X : Vector) → Is plan draw L r X → xs ≡ numbers (v_length (plan_shape plan)) (X.v j)
  holding j q g r xs =
      subst
      (λ (x : Post). (mark x.session r ≡ heldMark) × (xs ≡ coefficients x.session (row_at (width x.session) x.rows r))
      → (X : Vector) → Is plan draw L r X → xs ≡ numbers (v_length (plan_shape plan)) (X.v j))
      (sym (named plan draw (lens j) j g.marks g.vec q g.stands))
      (λ o X is.
      let low = marked_low g.marks g.sized r o.0 in
      o.1 ∙ ap (take (v_length (plan_shape plan))) (g.stands.holds.rows r low (omega (arith, o.0)))
      ∙ own_numbers (plan_shape plan) j (point_of plan draw j) (g.vec r)
      ∙ ap (λ (Y : Vector). numbers (v_length (plan_shape plan)) (Y.v j)) (one plan draw L ((g.facts r low).held o.0) is))

  pub reliable : Reliable plan draw L (TruePolynomial S end)
  reliable r j xs low lo hi form (among, inl m) X is = telling r j xs low lo hi among form m X is
  reliable r j xs low lo hi form (among, inr o) X is = holding j (end.posts j) (stands.posts j lo hi among) r xs o X is

pub correct : Correct
unfolding end
correct plan draw L S rows states es h i lo hi among =
    let v = stands plan draw L S rows states es h in let g = v.posts i lo hi among in
    subst (Right plan draw L (TruePolynomial S w) (TrueMask S w (plan_shape plan))) (sym (named plan draw _ i g.marks g.vec (w.posts i) g.stands))
    (right (stander_of plan draw L h.sound h.is_draw _ i lo hi (w.posts i) g) (TruePolynomial S w) (reliable plan draw L S rows states es h) S w v.lines)
  where
    w : World
    w = history es (begin plan draw rows states)

-- ---- an opening's own answer

answer_at : (before behind : List Event) (e : Event) (w : World) (none : Answer)
    → get_or (answers (before ++ (e ∷ behind)) w) (length before) none ≡ answer_of e (history before w)
answer_at [] behind e w none = refl
answer_at (x ∷ xs) behind e w none = answer_at xs behind e (step x w) none

pub openings_answered : OpeningsAnswered
unfolding carry perform
openings_answered plan draw L S rows states before behind i r blocks none h lo hi among held proper =
    subst (Answered L (TruePolynomial S w r) (w.posts i) r blocks)
    (sym (answer_at before behind (record { post = i; order = call (opening r blocks) }) (begin plan draw rows states) none))
    ((correct plan draw L S rows states before h i lo hi among).opens r blocks held proper)
  where
    w : World
    w = history before (begin plan draw rows states)

-- ---- a post is where its own orders bring it: the order between posts counts for the lines alone

pub own_list : OwnList
own_list i [] w = refl
own_list i (e ∷ es) w = own_list i es (step e w) ∙ go (ℕ_discrete i e.post)
  where
    go : Dec (i ≡ e.post)
        → after_orders (orders_of i es) (desk (step e w) i)
        ≡ after_orders (cond (eqb i e.post) (e.order ∷ orders_of i es) (orders_of i es)) (desk w i)
    go (yes g) =
        ap (after_orders (orders_of i es))
        (ap (desk (step e w)) g
        ∙ (λ j. record {
          post = at_same w.posts e.post (after (done_by e w).done) j;
          state = at_same w.states e.post (done_by e w).state j;
        })
        ∙ ap (λ (z : ℕ). desk_after (carry e.order (desk w z))) (sym g))
        ∙ ap (λ (b : Bool). after_orders (cond b (e.order ∷ orders_of i es) (orders_of i es)) (desk w i)) (sym (eq-eqb i e.post g))
    go (no g) =
        ap (after_orders (orders_of i es))
        (λ j. record {
          post = at_other w.posts e.post (after (done_by e w).done) i g j;
          state = at_other w.states e.post (done_by e w).state i g j;
        })
        ∙ ap (λ (b : Bool). after_orders (cond b (e.order ∷ orders_of i es) (orders_of i es)) (desk w i)) (sym (ne_eqb i e.post g))
