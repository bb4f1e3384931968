-- The posts S, event by event: each stands by the ledger, and so does each line of theirs, whatever other posts do.
use Prim.Native.Nat.{ℕ, zero, suc, ◌≤◌}
use mathlib.Core.Path.{◌≡◌, refl, sym, ◌∙◌, ap, subst}
use mathlib.Core.List.{List, [], ◌∷◌, ◌++◌}
use native.Mathlib.Decide.{ℕ_discrete}
use lib.ListN.{length}
use Rattle.poly.proofs.Lists.{all_join}
use Rattle.poly.specs.Counting.{All}
use Rattle.runs.specs.Draws.{Plan, Draw, IsDraw, Sound}
use Rattle.runs.specs.Calls.{Actual, Call, Post, Performed, perform, after, broadcast, at}
use Rattle.runs.specs.Orders.{Comes, no_call, a_call, comes_to, Asked, sent_on, ComesToIt}
use Rattle.runs.proofs.Marks.{at_same, at_other, raw_vector}
use Rattle.runs.proofs.Start.{start, start_sized, start_mark, start_stands, start_facts}
use Rattle.runs.proofs.Outcomes.{refusal_of, refusal_is}
use Rattle.runs.proofs.Orders.{orders_come}
use Rattle.correctness.specs.History.{Event, World, desk, done_by, answer_of, step, history, begin, Each}
use Rattle.correctness.specs.Ledger.{Ledger, Written}
use Rattle.correctness.specs.Truth.{OwnPart, TrueFinish}
use Rattle.correctness.proofs.Standing.{Good, good_after, good_refused}
use Rattle.correctness.proofs.Said.{new_said}
use Rattle.correctness.proofs.Fitting.{Line, AllSaid, small, fits}

-- a function changed at one place: what holds of it, place by place
at_each : {A : Type 0} (P : ℕ → A → Type 0) (f : ℕ → A) (r : ℕ) (x : A) → ((i : ℕ) → P i (f i)) → P r x → (i : ℕ) → P i (at f r x i)
at_each P f r x h k i = go (ℕ_discrete i r)
  where
    go : Dec (i ≡ r) → P i (at f r x i)
    go (yes e) = subst (λ (z : ℕ). P z (at f r x z)) (sym e) (subst (P r) (sym (at_same f r x)) k)
    go (no e) = subst (P i) (sym (at_other f r x i e)) (h i)

module _ (plan : Plan) (draw : Draw) (L : Ledger) (S : ℕ → Type 0) (sound : Sound plan) (is : IsDraw plan draw) where
  -- each post's list of rows keeps its length
  module _ (lens : ℕ → ℕ) where
    pub record Inv (w : World) : Type 0 where
      pub posts : (i : ℕ) → 1 ≤ i → i ≤ plan.n → S i → Good plan draw L (lens i) i (w.posts i)
      pub lines : AllSaid plan draw L sound is S w

    -- what is asked of the call that an order of S comes to
    abbrev pub AskedOf : (ℕ → Call → World → Type 0) → Event → World → Type 0
    AskedOf P e w = S e.post → (answer_of e w).refusal ≡ 0 → Asked (λ c. P e.post c w) (comes_to e.order (desk w e.post))

    module _ (w : World) (v : Inv w) (e : Event) (own : AskedOf (λ i c x. OwnPart plan draw i c) e w) (wrote : AskedOf (λ i c x. Written draw L c) e w)
        (truth : AskedOf (λ i c x. TrueFinish S x (x.posts i) c) e w) where
      abbrev q : Post
      q = w.posts e.post

      -- an order of a post of S that comes to a call
      module _ (lo : 1 ≤ e.post) (hi : e.post ≤ plan.n) (among : S e.post) (c : Call) (z : comes_to e.order (desk w e.post) ≡ a_call c) where
        g : Good plan draw L (lens e.post) e.post q
        g = v.posts e.post lo hi among

        is_zero : refusal_of c q ≡ 0 → (answer_of e w).refusal ≡ 0
        is_zero k = ap (λ (o : Performed). o.answer.refusal) ((orders_come e.order (desk w e.post)).one c z) ∙ refusal_is c q ∙ k

        moves : (k : ℕ) → refusal_of c q ≡ k → Good plan draw L (lens e.post) e.post (after (perform c q))
        moves zero k =
            let y = is_zero k in
            let o = subst (Asked (λ x. OwnPart plan draw e.post x)) z (own among y) in
            good_after plan draw L is (lens e.post) e.post hi q g c k o (subst (Asked (Written draw L)) z (wrote among y))
            (fits plan draw L sound is S w v.lines (lens e.post) e.post q g c k o (subst (Asked (TrueFinish S w q)) z (truth among y)))
        moves (suc j) k = good_refused plan draw L is (lens e.post) e.post hi q g c j k

        says : All (Line plan draw L sound is) (w.lines e.post ++ broadcast e.post c (perform c q))
        says =
            all_join (Line plan draw L sound is) (w.lines e.post) (broadcast e.post c (perform c q)) (v.lines e.post lo hi among)
            (new_said plan draw L (small plan sound) is (lens e.post) e.post lo hi q g c (λ k. subst (Asked (Written draw L)) z (wrote among (is_zero k))))

      -- any order of such a post
      module _ (lo : 1 ≤ e.post) (hi : e.post ≤ plan.n) (among : S e.post) where
        abbrev come : ComesToIt e.order (desk w e.post)
        come = orders_come e.order (desk w e.post)

        stands : (m : Comes Actual) → comes_to e.order (desk w e.post) ≡ m → Good plan draw L (lens e.post) e.post (after (done_by e w).done)
        stands no_call z = subst (Good plan draw L (lens e.post) e.post) (sym (come.none z)) (v.posts e.post lo hi among)
        stands (a_call c) z =
            subst (λ (o : Performed). Good plan draw L (lens e.post) e.post (after o)) (sym (come.one c z)) (moves lo hi among c z _ refl)

        tells : (m : Comes Actual) → comes_to e.order (desk w e.post) ≡ m
            → All (Line plan draw L sound is) (w.lines e.post ++ sent_on e.post e.order (done_by e w))
        tells no_call z =
            subst (λ (l : List (List ℕ)). All (Line plan draw L sound is) (w.lines e.post ++ l)) (sym (come.quiet e.post z))
            (all_join (Line plan draw L sound is) (w.lines e.post) [] (v.lines e.post lo hi among) tt)
        tells (a_call c) z =
            subst (λ (l : List (List ℕ)). All (Line plan draw L sound is) (w.lines e.post ++ l)) (sym (come.told e.post c z)) (says lo hi among c z)

      pub after_event : Inv (step e w)
      after_event = record {
        posts = at_each (λ i q. 1 ≤ i → i ≤ plan.n → S i → Good plan draw L (lens i) i q) w.posts e.post _ v.posts
            (λ lo hi among. stands lo hi among _ refl);
        lines = at_each (λ i ls. 1 ≤ i → i ≤ plan.n → S i → All (Line plan draw L sound is) ls) w.lines e.post _ v.lines
            (λ lo hi among. tells lo hi among _ refl);
      }

    pub after_all : (es : List Event) (w : World) → Inv w → Each S (λ i c x. OwnPart plan draw i c) es w
        → Each S (λ i c x. Written draw L c) es w → Each S (λ i c x. TrueFinish S x (x.posts i) c) es w → Inv (history es w)
    after_all [] w v o y t = v
    after_all (e ∷ es) w v o y t = after_all es (step e w) (after_event w v e o.0 y.0 t.0) o.1 y.1 t.1

  pub beginning : (rows states : ℕ → List ℕ) → Inv (λ i. length (rows i)) (begin plan draw rows states)
  beginning rows states = record {
    posts = λ i lo hi among. record {
      marks = start;
      vec = raw_vector plan draw;
      sized = start_sized;
      stands = start_stands plan draw sound is (raw_vector plan draw) (rows i) i lo hi;
      facts = start_facts plan draw sound is _ _ (raw_vector plan draw);
      full = λ r ne. absurd (ne (start_mark r));
    };
    lines = λ i lo hi among. tt;
  }
