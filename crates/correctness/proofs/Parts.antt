-- Rows that are opened in a run are the posts' parts of one vector, whatever the check points: rows held, and a − l and b − l'.
use Prim.Native.Nat.{ℕ, ◌+◌, ◌≤◌}
use mathlib.Core.Path.{◌≡◌, sym, ◌∙◌, ap, ap₂, subst}
use mathlib.Core.Logic.{inl, inr}
use mathlib.Core.List.{List}
use native.Mathlib.Omega.{arith}
use lib.ListN.{length, take, drop}
use Rattle.poly.specs.Counting.{Elements}
use Rattle.shape.specs.Bounds.{most_points}
use Rattle.shape.specs.Marks.{held, masked}
use Rattle.shape.specs.Lengths.{v_length}
use Rattle.refusal.proofs.Laws.{inside}
use Rattle.session.specs.declared.Session.{Session}
use Rattle.session.specs.Sessions.{mark, shape_of}
use Rattle.session.specs.Rows.{width, row_at}
use Rattle.opening.specs.Walking.{sent}
use Rattle.collect.specs.Collect as Collect
use Rattle.vectors.specs.Vector.{Vector, numbers}
use Rattle.vectors.specs.Claims.{held_row}
use Rattle.runs.specs.Draws.{Plan, Draw, raw_draw, triple_draw, plan_shape}
use Rattle.runs.specs.Calls.{Post}
use Rattle.runs.proofs.Marks.{Marks, remembered_a, remembered_b, session_at, less, vector_a, vector_b, mask_vector_a, mask_vector_b}
use Rattle.runs.proofs.Facts.{Multiplying}
use Rattle.runs.proofs.Rows.{marked_low}
use Rattle.runs.proofs.Steps.{post_at, named}
use Rattle.correctness.specs.History.{Event, World, history, begin}
use Rattle.correctness.specs.Ledger.{Meaning, Ledger, product}
use Rattle.correctness.specs.Truth.{TruePolynomial, TrueMask}
use Rattle.correctness.specs.Claim.{Premises}
use Rattle.correctness.specs.Parts.{PartOf, with_points, HeldParts, MaskParts}
use Rattle.correctness.proofs.Meanings.{IsOf, Is, is_dealt, is_row, is_times, is_fee, is_more, is_product, one, plain, mask_numbers_is}
use Rattle.correctness.proofs.Standing.{Good}
use Rattle.correctness.proofs.Fitting.{AllSaid, told_a, told_b}
use Rattle.correctness.proofs.Permitted as Permitted
use Rattle.correctness.proofs.Permitted.{Stander, stander_of}
use Rattle.correctness.proofs.Openings as Openings
use Rattle.correctness.proofs.Theorems.{lens, end, stands, reliable}
use Rattle.correctness.proofs.Caught.{false_caught}

part_from : (P : ℕ → List ℕ → Type 0) (s : Session) (row : List ℕ) (X : Vector) → s.points ≤ most_points → row ≡ held_row s X
    → ((j : ℕ) (xs : List ℕ) → 1 ≤ j → j ≤ s.n → length xs ≡ v_length (shape_of s) → Elements xs → P j xs → xs ≡ numbers (v_length (shape_of s)) (X.v j))
    → PartOf P s row X
part_from P s row X few e theirs = record {
  part = e;
  polynomial = theirs;
  caught = λ blocks j xs lj hj other proper many elements m untrue.
      false_caught s X blocks j few lj hj other proper
      (λ a. untrue (ap (λ (y : List ℕ). sent s y blocks j) e ∙ a ∙ sym (theirs j xs lj hj many elements m)));
}

-- the ledger's vector does not depend on the check points
module _ (plan : Plan) (draw : Draw) (L : Ledger) (points : List ℕ) where
  any_of : {r : ℕ} {m : Meaning} {X : Vector} → IsOf plan draw L r m X → IsOf plan (with_points points draw) L r m X
  unfolding raw_draw triple_draw
  any_of (is_dealt h z) = is_dealt h z
  any_of (is_row x) = is_row (any_of x)
  any_of (is_times y z) = is_times (any_of y) z
  any_of (is_fee h z) = is_fee h z
  any_of (is_more x y z) = is_more (any_of x) (any_of y) z
  any_of (is_product x y z) = is_product (any_of x) (any_of y) z

  any_points : {r : ℕ} {X : Vector} → Is plan draw L r X → Is plan (with_points points draw) L r X
  any_points x = any_of x

-- of the triple at r, the factors a and b with their vectors, by the ledger
record Factors (plan : Plan) (draw : Draw) (L : Ledger) (r : ℕ) : Type 0 where
  pub a : ℕ
  pub b : ℕ
  pub X : Vector
  pub Y : Vector
  pub means : L (r + 2) ≡ product r a b
  pub is_a : Is plan draw L a X
  pub is_b : Is plan draw L b Y

-- a row has one meaning, so that these are the same in every run
one_pair : (plan : Plan) (draw : Draw) (L : Ledger) (r : ℕ) (k k' : Factors plan draw L r) → (k.X ≡ k'.X) × (k.Y ≡ k'.Y)
one_pair plan draw L r k k' =
    let e = k.means in let e' = k'.means in let ga : k'.a ≡ k.a = cc in let gb : k'.b ≡ k.b = cc in (
      one plan draw L k.is_a (subst (λ (x : ℕ). Is plan draw L x k'.X) ga k'.is_a),
      one plan draw L k.is_b (subst (λ (x : ℕ). Is plan draw L x k'.Y) gb k'.is_b),
    )

module _ (plan : Plan) (draw : Draw) (L : Ledger) (S : ℕ → Type 0) (rows states : ℕ → List ℕ) (es : List Event) (h : Premises plan draw L S es rows states) (i : ℕ) (lo : 1 ≤ i) (hi : i ≤ plan.n) (among : S i) (r : ℕ) where
  w : World
  w = end plan draw L S rows states es h

  g : Good plan draw L (lens plan draw L S rows states es h i) i (w.posts i)
  unfolding w
  g = (stands plan draw L S rows states es h).posts i lo hi among

  abbrev G : Stander
  G = stander_of plan draw L h.sound h.is_draw _ i lo hi (w.posts i) g

  abbrev M : Marks
  M = g.marks

  abbrev vec : ℕ → Vector
  vec = g.vec

  abbrev s : Session
  s = session_at plan draw i M g.stands.opened

  abbrev l : List ℕ
  l = (w.posts i).rows

  -- the number of points is 1 or 2 by the plan
  few : s.points ≤ most_points
  few = (inside 1 most_points plan.points h.sound.counted).1

  at_post : (Q : Post → Type 0) → Q (post_at plan draw i M g.stands.opened l) → Q (w.posts i)
  at_post Q = subst Q (sym (named plan draw _ i M vec (w.posts i) g.stands))

  said : AllSaid plan draw L h.sound h.is_draw S w
  unfolding w
  said = (stands plan draw L S rows states es h).lines

  -- ---- a row that is held

  held_is : mark (w.posts i).session r ≡ held → Is plan draw L r (vec r)
  held_is =
      at_post (λ (q : Post). mark q.session r ≡ held → Is plan draw L r (vec r))
      (λ two. (g.facts r (marked_low M g.sized r two)).held two)

  held_part : (X : Vector) → Is plan draw L r X → mark (w.posts i).session r ≡ held
      → PartOf (TruePolynomial S w r) (w.posts i).session (row_at (width (w.posts i).session) l r) X
  unfolding w
  held_part X is =
      at_post (λ (q : Post). mark q.session r ≡ held → PartOf (TruePolynomial S w r) q.session (row_at (width q.session) q.rows r) X)
      (λ two.
      let low = marked_low M g.sized r two in
      part_from (TruePolynomial S w r) s (row_at (width s) l r) X few
      (g.stands.holds.rows r low (omega (arith, two)) ∙ ap (held_row s) (one plan draw L ((g.facts r low).held two) is))
      (λ j xs lj hj many elements m. reliable plan draw L S rows states es h r j xs (omega (arith, low)) lj hj (inr (many, elements)) m X is))

  -- ---- masks that were made

  waiting : mark s r ≡ masked → Multiplying masked M (remembered_a M r) (remembered_b M r) r
  waiting = Permitted.waiting G r

  factors_of_lem : mark s r ≡ masked → Factors plan draw L r
  factors_of_lem five =
      let k = waiting five in
      record {
        a = remembered_a M r;
        b = remembered_b M r;
        X = vec (remembered_a M r);
        Y = vec (remembered_b M r);
        means = ((g.facts r (marked_low M g.sized r five)).waiting (inl five)).means;
        is_a = (g.facts (remembered_a M r) k.a_low).held k.a_held;
        is_b = (g.facts (remembered_b M r) k.b_low).held k.b_held;
      }

  factors : mark (w.posts i).session r ≡ masked → Factors plan draw L r
  factors = at_post (λ (q : Post). mark q.session r ≡ masked → Factors plan draw L r) factors_of_lem

  abbrev HalfA : ℕ → List ℕ → Type 0
  HalfA = TrueMask S w (plan_shape plan) (take (v_length (plan_shape plan))) r

  abbrev HalfB : ℕ → List ℕ → Type 0
  HalfB = TrueMask S w (plan_shape plan) (drop (v_length (plan_shape plan))) r

  both_masks_lem : (k : Factors plan draw L r) → mark (w.posts i).session r ≡ masked
      → PartOf HalfA (w.posts i).session (Collect.mask_a (w.posts i).session l r) (less k.X (vector_a plan draw r))
      × PartOf HalfB (w.posts i).session (Collect.mask_b (w.posts i).session l r) (less k.Y (vector_b plan draw r))
  unfolding w factors_of_lem
  both_masks_lem k =
      at_post
      (λ (q : Post). mark q.session r ≡ masked
      → PartOf HalfA q.session (Collect.mask_a q.session q.rows r) (less k.X (vector_a plan draw r))
      × PartOf HalfB q.session (Collect.mask_b q.session q.rows r) (less k.Y (vector_b plan draw r)))
      (λ five.
      let t = (g.facts r (marked_low M g.sized r five)).triple (inr (inl five)) in let same = one_pair plan draw L r (factors_of_lem five) k in
      let ea : mask_vector_a M vec r ≡ less k.X (vector_a plan draw r) = ap₂ less same.0 t.is_a in
      let eb : mask_vector_b M vec r ≡ less k.Y (vector_b plan draw r) = ap₂ less same.1 t.is_b in (
        part_from HalfA s (Collect.mask_a s l r) _ few
            (Openings.mask_a_is G r five ∙ ap (held_row s) ea)
            (λ j xs lj hj many elements m. told_a plan draw L h.sound h.is_draw S w said M vec g.facts r (waiting five) j lj hj xs m ∙ ap (λ (Z : Vector). numbers (v_length (plan_shape plan)) (Z.v j)) ea),
        part_from HalfB s (Collect.mask_b s l r) _ few
            (Openings.mask_b_is G r five ∙ ap (held_row s) eb)
            (λ j xs lj hj many elements m. told_b plan draw L h.sound h.is_draw S w said M vec g.facts r (waiting five) j lj hj xs m ∙ ap (λ (Z : Vector). numbers (v_length (plan_shape plan)) (Z.v j)) eb),
      ))

pub held_parts : HeldParts
unfolding w end
held_parts plan draw L S rows states es h i r lo hi among two =
    let is = held_is plan draw L S rows states es h i lo hi among r two in (
      _,
      plain plan draw L h.is_draw is,
      (λ points S' rows' states' es' h' i' lo' hi' among' two'.
          held_part plan (with_points points draw) L S' rows' states' es' h' i' lo' hi' among' r _ (any_points plan draw L points is) two'),
    )

pub mask_parts : MaskParts
unfolding w end triple_draw
mask_parts plan draw L S rows states es h i r lo hi among five = (
  _,
  _,
  mask_numbers_is plan draw L h.is_draw k.means k.is_a k.is_b,
  (λ points S' rows' states' es' h' i' lo' hi' among' five'. (both points S' rows' states' es' h' i' lo' hi' among' five').0),
  (λ points S' rows' states' es' h' i' lo' hi' among' five'. (both points S' rows' states' es' h' i' lo' hi' among' five').1),
)
  where
    k : Factors plan draw L r
    k = factors plan draw L S rows states es h i lo hi among r five

    both : (points : List ℕ) (S' : ℕ → Type 0) (rows' states' : ℕ → List ℕ) (es' : List Event) (h' : Premises plan (with_points points draw) L S' es' rows' states')
        (i' : ℕ) (lo' : 1 ≤ i') (hi' : i' ≤ plan.n) (among' : S' i')
        → (let v = history es' (begin plan (with_points points draw) rows' states') in let q = v.posts i' in
        mark q.session r ≡ masked
        → PartOf (TrueMask S' v (plan_shape plan) (take (v_length (plan_shape plan))) r) q.session (Collect.mask_a q.session q.rows r) (less k.X (vector_a plan draw r))
        × PartOf (TrueMask S' v (plan_shape plan) (drop (v_length (plan_shape plan))) r) q.session (Collect.mask_b q.session q.rows r) (less k.Y (vector_b plan draw r)))
    both points S' rows' states' es' h' i' lo' hi' among' =
        both_masks_lem plan (with_points points draw) L S' rows' states' es' h' i' lo' hi' among' r (record {
          a = k.a;
          b = k.b;
          X = k.X;
          Y = k.Y;
          means = k.means;
          is_a = any_points plan draw L points k.is_a;
          is_b = any_points plan draw L points k.is_b;
        })
