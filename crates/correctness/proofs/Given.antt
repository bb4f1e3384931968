-- Demand 2 from figures to answers: the theorems, with the premises that specs/Enough.antt has.
use Prim.Native.Nat.{ℕ, suc, ◌+◌, ◌*◌, ◌≤◌, ◌<◌}
use mathlib.Core.Path.{◌≡◌, refl, sym, ◌∙◌, ap, subst}
use mathlib.Core.Bool.{Bool, true, false, false≢true}
use mathlib.Core.Logic.{◌⊎◌, inl, inr}
use mathlib.Core.List.{List, [], ◌∷◌, ◌++◌}
use native.Mathlib.Omega.{arith}
use lib.ListN.{length, take, drop}
use Rattle.terms.specs.declared.Term.{Term}
use Rattle.terms.specs.Listed.{products_of}
use Rattle.relation.specs.Finish.{record_a_of, record_b_of, term_mask_a, term_mask_b}
use Rattle.runs.specs.Draws.{plan_shape}
use Rattle.runs.specs.Calls.{Post, relation_finish_of}
use Rattle.runs.specs.Orders.{call}
use Rattle.runs.proofs.Inside.{among_all}
use Rattle.session.specs.declared.Session.{Session}
use Rattle.opening.specs.Walking.{accepted, disagree}
use Rattle.collect.specs.Collect.{mask_a, mask_b}
use Rattle.vectors.specs.Vector.{Vector}
use Rattle.correctness.specs.History.{World, Event, history, begin}
use Rattle.correctness.specs.Truth.{TruePolynomial, TrueMask, TrueOf}
use Rattle.correctness.specs.Claim.{Premises, Right, row_in}
use Rattle.correctness.specs.Parts.{PartOf, points_passed}
use Rattle.correctness.specs.Relation.{EachAt, OneAt, LowRecords, Few, Enough, AllTrue}
use Rattle.correctness.specs.Given.{AllTheirs, CaughtGiven, DemandGiven, VectorGiven, SetsGiven, RelationGiven, AnswerGiven, CalledGiven, RelationsAsk, FinishGiven}
use Rattle.correctness.proofs.Theorems.{correct, openings_answered}
use Rattle.correctness.proofs.Caught.{passed_in_figures}
use Rattle.correctness.proofs.Parts.{held_parts, mask_parts}
use Rattle.correctness.proofs.Relation.{relation_shown, relations_finish}
use Rattle.correctness.proofs.Callers.{sets_follow, only_called}
use Rattle.correctness.proofs.Enough.{draws_ask, premises_met, records_ask}

theirs : (P : ℕ → List ℕ → Type 0) (s : Session) (row blocks : List ℕ) → AllTheirs P s row blocks → TrueOf P s row blocks
theirs P s row blocks h = among_all (accepted s row blocks) h

-- 0 or 13, and 13 only where a share is off
stays : (b : Bool) (k : ℕ) → (k ≡ 0) ⊎ (k ≡ 13) → (k ≡ 13 → b ≡ true) → b ≡ false → k ≡ 0
stays b k (inl e) h n = e
stays b k (inr e) h n = absurd (false≢true (sym n ∙ h e))

caught_of : (P : ℕ → List ℕ → Type 0) (s : Session) (row : List ℕ) (X : Vector) → PartOf P s row X → CaughtGiven P s row X
caught_of P s row X part =
    record {
      one = λ e blocks j xs a lo hi other many low its untrue.
          subst (λ (k : ℕ). points_passed s X blocks j ≤ k) ((passed_in_figures s).0 e) (part.caught blocks j xs lo hi other (records_ask s blocks a) many low its untrue);
      two = λ e blocks j xs a lo hi other many low its untrue.
          subst (λ (k : ℕ). points_passed s X blocks j ≤ k) ((passed_in_figures s).1 e) (part.caught blocks j xs lo hi other (records_ask s blocks a) many low its untrue);
    }

pub demand_given : DemandGiven
demand_given plan draw L S rows states es s d run i lo hi among =
    record {
      opening = λ r blocks two a. let o = right.opens r blocks two (records_ask q.session blocks a) in
          record {
            few = o.few;
            number = λ enough h. o.exact enough (theirs (TruePolynomial S w r) q.session (row_in q r) blocks h);
            agreed = o.agreed;
            off = λ enough e. (o.thirteen enough).0 e;
            on = λ enough e. stays (disagree q.session (row_in q r) blocks) _ (o.otherwise enough) (o.thirteen enough).1 e;
            accepted = λ j lj hj its. right.accepts_true r blocks j two (records_ask q.session blocks a) lj hj (λ other. its);
          };
      collect = λ r blocks_a blocks_b five a b. let o = right.collects r blocks_a blocks_b five (records_ask q.session blocks_a a) (records_ask q.session blocks_b b) in
          record {
            few = o.few;
            numbers = λ ea eb ha hb. let z = o.exact ea eb (among_all (accepted q.session (mask_a q.session q.rows r) blocks_a) ha) (among_all (accepted q.session (mask_b q.session q.rows r) blocks_b) hb) in (z.0.0, z.0.1, z.1);
            agreed = o.agreed;
            off = λ ea eb. (o.thirteen ea eb).0;
            accepted_a = λ j lj hj its. right.accepts_a r blocks_a j five (records_ask q.session blocks_a a) lj hj (λ other. its);
            accepted_b = λ j lj hj its. right.accepts_b r blocks_b j five (records_ask q.session blocks_b b) lj hj (λ other. its);
          };
      multiply = right.multiplies;
      remembered = right.remembers;
      caught = λ r two. let x = held_parts plan draw L S rows states es h i r lo hi among two in
          (x.0, x.1, caught_of (TruePolynomial S w r) q.session (row_in q r) x.0 (x.2 draw.points S rows states es h i lo hi among two));
      caught_masks = λ r five. let x = mask_parts plan draw L S rows states es h i r lo hi among five in (
        x.0,
        x.1,
        x.2,
        caught_of (TrueMask S w (plan_shape plan) (take (plan.points * plan.t + 1)) r) q.session (mask_a q.session q.rows r) x.0
            (x.3 draw.points S rows states es h i lo hi among five),
        caught_of (TrueMask S w (plan_shape plan) (drop (plan.points * plan.t + 1)) r) q.session (mask_b q.session q.rows r) x.1
            (x.4 draw.points S rows states es h i lo hi among five),
      );
    }
  where
    h : Premises plan draw L S es rows states
    h = premises_met plan draw L S es rows states s d run

    w : World
    w = history es (begin plan draw rows states)

    q : Post
    q = w.posts i

    right : Right plan draw L (TruePolynomial S w) (TrueMask S w (plan_shape plan)) q
    right = correct plan draw L S rows states es h i lo hi among

pub vector_given : VectorGiven
vector_given plan draw L S rows states es s d run i r lo hi among two =
    let x = held_parts plan draw L S rows states es (premises_met plan draw L S es rows states s d run) i r lo hi among two in (
      x.0,
      x.1,
      λ points S' rows' states' es' d' run' j lj hj in-s held.
          let k = x.2 points S' rows' states' es' (premises_met plan _ L S' es' rows' states' s d' run') j lj hj in-s held in
          (k.part, caught_of _ _ _ x.0 k),
    )

pub sets_given : SetsGiven
sets_given plan draw rows states es s d = let k = draws_ask plan draw s d in sets_follow plan draw rows states es k.0 k.1

pub relation_given : RelationGiven
relation_given plan draw L S rows states before behind i r ts records s d run lo hi among z =
    let o = relation_shown plan draw L S rows states before behind i r ts records (premises_met plan draw L S (before ++ (e ∷ behind)) rows states s d run) lo hi among z in (
      o.0,
      o.1,
      λ value own j lj hj in-s blocks two a enough h.
          let k = o.2 value (among_all ts own) j lj hj in-s blocks two (records_ask (q j).session blocks a) enough (among_all (accepted (q j).session (row_in (q j) r) blocks) h) in
          (k.done, k.value),
    )
  where
    e : Event
    e = record { post = i; order = call (relation_finish_of ts r records) }

    q : ℕ → Post
    q j = (history (before ++ (e ∷ behind)) (begin plan draw rows states)).posts j

pub answer_given : AnswerGiven
answer_given plan draw L S rows states before behind i r blocks none s d run lo hi among two a =
    let o = openings_answered plan draw L S rows states before behind i r blocks none (premises_met plan draw L S before rows states s d run) lo hi among two (records_ask q.session blocks a) in
    (o.few, λ enough h. o.exact enough (among_all (accepted q.session (row_in q r) blocks) h))
  where
    q : Post
    q = (history before (begin plan draw rows states)).posts i

pub called_given : CalledGiven
called_given plan draw rows states es s d = let k = draws_ask plan draw s d in only_called plan draw rows states es k.0 k.1

-- P of every product term by its place
each_at : (P : ℕ → Term → Type 0) (k : ℕ) (ts : List Term) → ((t : Term) (m : ℕ) → m < length ts → P (k + m) t) → EachAt P k ts
each_at P k [] h = tt
each_at P k (t ∷ ts) h = (
  subst (λ (j : ℕ). P j t) (omega arith) (h t 0 (omega arith)),
  each_at P (suc k) ts (λ u m l. subst (λ (j : ℕ). P j u) (omega arith) (h u (suc m) (omega (arith, l)))),
)

pub relations_ask : RelationsAsk
relations_ask q ts r blocks a =
    record {
      count = a.count;
      terms = among_all ts a.terms;
      products = among_all (products_of ts) a.waiting;
      once = a.once;
      empty = (omega (arith, a.empty.0), a.empty.1);
      long = a.long;
      low = each_at (LowRecords q.session blocks) 0 (products_of ts) (λ t m l. subst (λ (j : ℕ). LowRecords q.session blocks j t) (omega arith) (a.low m l));
    }

one_at : (P : ℕ → Term → Type 0) (k : ℕ) (xs ys : List Term) (t : Term) → P (k + length xs) t → OneAt P k (xs ++ (t ∷ ys))
one_at P k [] ys t h = inl (subst (λ (j : ℕ). P j t) (omega arith) h)
one_at P k (x ∷ xs) ys t h = inr (one_at P (suc k) xs ys t (subst (λ (j : ℕ). P j t) (omega arith) h))

each_place : (P : ℕ → Term → Type 0) (k : ℕ) (ts : List Term) → ((xs ys : List Term) (t : Term) → ts ≡ xs ++ (t ∷ ys) → P (k + length xs) t) → EachAt P k ts
each_place P k [] h = tt
each_place P k (t ∷ ts) h = (
  subst (λ (j : ℕ). P j t) (omega arith) (h [] ts t refl),
  each_place P (suc k) ts (λ xs ys u e. subst (λ (j : ℕ). P j u) (omega arith) (h (t ∷ xs) ys u (ap (λ (l : List Term). t ∷ l) e))),
)

pub finish_given : FinishGiven
finish_given plan draw L S rows states es s d run i lo hi among ts r blocks a =
    let o = relations_finish plan draw L S rows states es (premises_met plan draw L S es rows states s d run) i lo hi among ts r blocks (relations_ask q ts r blocks a) in (
      (λ xs ys t e h. o.few (subst (OneAt (Few q blocks) 0) (sym e) (one_at (Few q blocks) 0 xs ys t (moved (Few q blocks) xs t h)))),
      λ h. o.exact (each_place (Enough q blocks) 0 (products_of ts) (λ xs ys t e. let x = h xs ys t e in moved (Enough q blocks) xs t (x.0, x.1)))
          (each_place (AllTrue (TrueMask S w (plan_shape plan)) q blocks) 0 (products_of ts)
          (λ xs ys t e.
          let x = h xs ys t e in
          moved (AllTrue (TrueMask S w (plan_shape plan)) q blocks) xs t (
            among_all (accepted q.session (term_mask_a q.session q.rows t) (record_a_of q.session blocks (length xs))) x.2,
            among_all (accepted q.session (term_mask_b q.session q.rows t) (record_b_of q.session blocks (length xs))) x.3,
          ))),
    )
  where
    w : World
    w = history es (begin plan draw rows states)

    q : Post
    q = w.posts i

    moved : (P : ℕ → Term → Type 0) (xs : List Term) (t : Term) → P (length xs) t → P (0 + length xs) t
    moved P xs t h = subst (λ (j : ℕ). P j t) (omega arith) h
