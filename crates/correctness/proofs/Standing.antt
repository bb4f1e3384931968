-- One post by the ledger: each row it holds is its part of the ledger's vector, and each call that is not refused keeps that.
use Prim.Native.Nat.{ℕ, suc, ◌+◌, ◌≤◌, ◌<◌}
use mathlib.Core.Path.{◌≡◌, refl, sym, ◌∙◌, ap₂, subst}
use mathlib.Core.Logic.{◌≢◌, ◌⊎◌, inl, inr}
use mathlib.Core.List.{List, [], ◌∷◌}
use native.Mathlib.Omega.{arith}
use lib.ListN.{length}
use Rattle.field.specs.Element.{element}
use Rattle.poly.specs.Counting.{All}
use Rattle.shape.specs.Bounds.{row_count_of}
use Rattle.shape.specs.Marks.{empty, raw, collected}
use Rattle.shape.specs.Lengths.{rows_length}
use Rattle.vectors.specs.Vector.{Vector, raised, number}
use Rattle.runs.specs.Draws.{Plan, Draw, IsDraw, plan_shape}
use Rattle.runs.specs.Outline.{Act, loads, loads_triple, deals, opens, Summand, once, times, fee, sums, factors, collects, multiplies, admits, takes, Given, Move, moves, acts_in, acts, sends}
use Rattle.runs.specs.Calls.{Post, Actual, Call, perform, after}
use Rattle.runs.proofs.Marks.{Marks, mark_of, remembered_a, remembered_b, Sized, less, worth_vector, total_vector, written, marks_by, vectors_by, marks_all, number_in, vectors_all}
use Rattle.runs.proofs.Sums.{product_vector, product_sum_lem}
use Rattle.runs.proofs.Outcomes.{refusal_of}
use Rattle.runs.proofs.Steps.{Stands, named, Fits, Stand, stands_refused, stands_after}
use Rattle.runs.proofs.Facts.{HeldIn, AllowedBy, AllowedAll, Allowed, Tripled, Triple, Facts, Meant}
use Rattle.runs.proofs.Outlines.{every_all}
use Rattle.runs.proofs.Rows.{sized_by, sized_after}
use Rattle.runs.proofs.Kept.{facts_by}
use Rattle.runs.proofs.Allowed.{allowed, room}
use Rattle.correctness.specs.Ledger.{Meaning, Ledger, summed, product, WrittenBy, Written}
use Rattle.correctness.specs.Truth.{OwnWith, OwnPart}
use Rattle.correctness.proofs.Meanings.{IsOf, Is, is_dealt, is_row, is_times, is_fee, is_more, is_product}

module _ (plan : Plan) (draw : Draw) (L : Ledger) where
  -- the ledger has a product of a and b by the triple at r
  abbrev pub Waits : ℕ → ℕ → ℕ → Type 0
  Waits r a b = L (r + 2) ≡ product r a b

  abbrev pub Known : Marks → (ℕ → Vector) → Type 0
  Known M vec = Facts plan draw (Is plan draw L) Waits M vec

  -- post i, whose list of rows has `len` numbers: marks and vectors, by which it stands
  pub record Good (len i : ℕ) (q : Post) : Type 0 where
    pub marks : Marks
    pub vec : ℕ → Vector
    pub sized : Sized marks
    pub stands : Stands plan draw len i marks vec q
    pub facts : Known marks vec
    pub full : (r : ℕ) → mark_of marks r ≢ empty → len ≡ rows_length (plan_shape plan)

  abbrev pub stand_of : IsDraw plan draw → (len i : ℕ) → i ≤ plan.n → (q : Post) → Good len i q → Stand
  stand_of is len i hi q g = record {
    plan = plan;
    draw = draw;
    is_draw = is;
    len = len;
    post = i;
    high = hi;
    marks = g.marks;
    vec = g.vec;
    state = q;
    stands = g.stands;
  }

  module _ (len i : ℕ) (q : Post) (g : Good len i q) where
    -- a call that is not refused is allowed by the marks, and finds room
    pub allowed_at : (c : Call) → refusal_of c q ≡ 0 → Allowed (acts c) (sends c) g.marks
    allowed_at c =
        subst (λ (x : Post). refusal_of c x ≡ 0 → Allowed (acts c) (sends c) g.marks) (sym (named plan draw len i g.marks g.vec q g.stands))
        (allowed plan draw i g.marks g.stands.opened q.rows c)

    room_at : (c : Call) → refusal_of c q ≡ 0 → len ≡ rows_length (plan_shape plan)
    room_at c z =
        elim
        (subst (λ (x : Post). refusal_of c x ≡ 0 → (length q.rows ≡ rows_length (plan_shape plan)) ⊎ ((r : ℕ) × (mark_of g.marks r ≡ raw)))
        (sym (named plan draw len i g.marks g.vec q g.stands)) (room plan draw i g.marks g.stands.opened q.rows c) z) [
          | inl e ↦ sym g.stands.holds.long ∙ e
          | inr k ↦ g.full k.0 (λ e. omega (arith, k.1))
        ]

  -- what a call that does what the ledger says brings
  module _ (M : Marks) (vec : ℕ → Vector) (f : Known M vec) where
    finished_is : (r : ℕ) → Tripled collected M r → Is plan draw L (r + 2) (written M vec r)
    finished_is r ok =
        let w = (f r low).waiting (inr ok.first) in
        subst (λ (m : Meaning). IsOf plan draw L (r + 2) m (written M vec r)) (sym w.means)
        (is_product ((f (remembered_a M r) w.a_low).held w.a_held) ((f (remembered_b M r) w.b_low).held w.b_held)
        (product_sum_lem vec r _ _
        ∙ (λ j.
        product_vector (number (less (vec (remembered_a M r)) (t.is_a j))).0 (number (less (vec (remembered_b M r)) (t.is_b j))).0
        (t.is_a j) (t.is_b j) (t.is_ab j))))
      where
        low : r < row_count_of
        low = omega (arith, ok.r_low)

        t : Triple plan draw M vec r
        t = (f r low).triple (inr (inr ok.first))

    -- a sum of held rows
    summand_is : (r : ℕ) (t : Summand) → HeldIn M t → IsOf plan draw L r (summed t []) (worth_vector vec t)
    summand_is r (once a) h = is_row ((f a h.0).held h.1)
    summand_is r (times s b) h = is_times ((f b h.0).held h.1) refl
    summand_is r (fee k) h = is_fee h refl

    sum_is : (r : ℕ) (t : Summand) (ts : List Summand) → HeldIn M t → All (HeldIn M) ts → IsOf plan draw L r (summed t ts) (total_vector vec t ts)
    sum_is r t [] h hs = summand_is r t h
    sum_is r t (t' ∷ ts) h hs = is_more (summand_is r t h) (sum_is r t' ts hs.0 hs.1) refl

    meant : (i : ℕ) (a : Act) (x : Given Actual (takes a)) → AllowedBy a M → OwnWith plan draw i (takes a) x → WrittenBy draw L a x
        → Meant plan draw (Is plan draw L) Waits a (number_in (takes a) x) M vec
    meant i (loads r) x ok own w = own.0
    meant i (loads_triple r) x ok own w = own.0
    meant i (deals r) x ok own w =
        subst (λ (m : Meaning). IsOf plan draw L r m (raised (element x) (vec r))) (sym w.2)
        (is_dealt w.1 (ap₂ (λ (c : ℕ) (X : Vector). raised (element c) X) w.3 ((f r ok.0.0).raw ok.0.1).1))
    meant i (opens r) x ok own w = tt
    meant i (sums r t ts) x ok own w =
        subst (λ (m : Meaning). IsOf plan draw L r m (total_vector vec t ts)) (sym w) (sum_is r t ts ok.0.held.0 ok.0.held.1)
    meant i (factors a b r) x ok own w = w
    meant i (collects r) x ok own w = tt
    meant i (multiplies r) x ok own w = finished_is r ok.0
    meant i (admits line) x ok own w = tt

  abbrev Wrote : Move Actual → Type 0
  Wrote m = WrittenBy draw L m.0 m.1

  known_after : (i : ℕ) (ms : List (Move Actual)) (M : Marks) (vec : ℕ → Vector) → Sized M → AllowedAll (acts_in Actual ms) M
      → All (λ m. OwnWith plan draw i (takes m.0) m.1) ms → All Wrote ms → Known M vec
      → Known (marks_all (acts_in Actual ms) M) (vectors_all plan draw Actual number_in ms M vec)
  known_after i [] M vec z ok own w f = f
  known_after i (m ∷ ms) M vec z ok own w f =
      let a = m.0 in
      let c = number_in (takes a) m.1 in
      known_after i ms (marks_by a M) (vectors_by plan draw a c M vec) (sized_by a M z) ok.1 own.1 w.1
      (facts_by plan draw (Is plan draw L) Waits (Is plan draw L) Waits a c M vec z ok.0 (meant M vec f i a m.1 ok.0 own.0 w.0)
      (λ r low e h. h) (λ r low e e' h. h) f)

  pub good_after : IsDraw plan draw → (len i : ℕ) → i ≤ plan.n → (q : Post) (g : Good len i q) (c : Call) → refusal_of c q ≡ 0
      → OwnPart plan draw i c → Written draw L c → Fits plan draw i g.marks g.vec c → Good len i (after (perform c q))
  good_after is len i hi q g c z own w fit =
      let ok = allowed_at len i q g c z in
      record {
        marks = _;
        vec = _;
        sized = sized_after (acts c) g.marks g.sized;
        stands = stands_after (stand_of is len i hi q g) c z fit;
        facts =
            known_after i (moves c) g.marks g.vec g.sized ok.moving (every_all _ (moves c) own) (every_all Wrote (moves c) w)
            g.facts;
        full = λ r ne. room_at len i q g c z;
      }

  pub good_refused : IsDraw plan draw → (len i : ℕ) → i ≤ plan.n → (q : Post) (g : Good len i q) (c : Call) (k : ℕ) → refusal_of c q ≡ suc k
      → Good len i (after (perform c q))
  good_refused is len i hi q g c k e =
      record {
        marks = g.marks;
        vec = g.vec;
        sized = g.sized;
        stands = stands_refused (stand_of is len i hi q g) c k e;
        facts = g.facts;
        full = g.full;
      }
