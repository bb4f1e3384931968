-- All posts' marks, a check point after the other: what the loops hold to, and that a post is accepted where its mark is a share at the end.
use Prim.Native.Nat.{ℕ, zero, suc, ◌+◌, ◌-◌, ◌≤◌, ◌<◌}
use mathlib.Core.Path.{◌≡◌, refl, sym, ◌∙◌, ap, ap₂}
use mathlib.Core.Bool.{Bool, true, false, not, cond, ◌&&◌}
use mathlib.Core.List.{List, ◌++◌}
use native.Mathlib.Decide.{dec_le}
use native.Mathlib.Numerals.{add-one}
use native.Mathlib.Omega.{arith}
use lib.Dec.{eqb}
use lib.ListN.{length, get_or, set, take, length-set, length-append, get_or-append}
use lib.Seq.{get_or-set_same, get_or-set_other, get_or-take, length-take-le}
use Rattle.shape.specs.declared.Shape.{Shape}
use Rattle.shape.specs.declared.Points.{Points}
use Rattle.shape.specs.Lengths.{Valid}
use Rattle.shape.specs.Row.{point_at}
use Rattle.session.specs.declared.Party.{Party}
use Rattle.blocks.specs.Blocks.{sent}
use Rattle.blocks.specs.Between.{PostIn}
use Rattle.blocks.proofs.Blocks.{post_in}
use Rattle.accepting.specs.Accepting.{every_below, matches, accepts, share}
use Rattle.accepting.specs.Between.{passes_at, unmarked, MarkedAs, MarkedTo, Judged, Unmarked}

-- one test more, behind the others
every_more : (h : ℕ) (test : ℕ → Bool) → (every_below h test && test h) ≡ every_below (suc h) test
every_more zero test = only (test 0)
  where
    only : (b : Bool) → (true && b) ≡ (b && true)
    only true = refl
    only false = refl
every_more (suc h) test = go (test 0) (every_more h (λ i. test (suc i)))
  where
    go : (b : Bool) → (every_below h (λ i. test (suc i)) && test (suc h)) ≡ every_below (suc h) (λ i. test (suc i))
        → ((b && every_below h (λ i. test (suc i))) && test (suc h)) ≡ (b && every_below (suc h) (λ i. test (suc i)))
    go true e = e
    go false e = refl

-- a part that is there is asked about at each of the points, one that is not passes at none
module _ (q : Party) (row blocks : List ℕ) (j : ℕ) where
  all_points : (k : ℕ) → 1 ≤ k → every_below k (passes_at q row blocks j)
      ≡ cond (eqb (length (sent q row blocks j)) 0) false (every_below k (matches q row (sent q row blocks j) j))
  unfolding passes_at
  all_points zero h = absurd (omega arith)
  all_points (suc k) h = go (eqb (length (sent q row blocks j)) 0)
    where
      go : (b : Bool) → every_below (suc k) (λ i. not b && matches q row (sent q row blocks j) j i)
          ≡ cond b false (every_below (suc k) (matches q row (sent q row blocks j) j))
      go true = refl
      go false = refl

  pub all_accepted : Valid q.shape → every_below q.shape.points (passes_at q row blocks j) ≡ accepts q row blocks j
  unfolding accepts
  all_accepted v = all_points q.shape.points v.points_in_is.0

module _ (q : Party) (row blocks : List ℕ) (h : ℕ) where
  abbrev n : ℕ
  n = q.shape.n

  -- the first i posts have been asked about the h-th point too
  pub record Marking (i : ℕ) (marks : List ℕ) : Type 0 where
    pub within : i ≤ n
    pub long : n ≤ length marks
    pub done : (j : ℕ) → 1 ≤ j → j ≤ i → unmarked (get_or marks (j - 1) 0) ≡ every_below (suc h) (passes_at q row blocks j)
    pub share_is : (j : ℕ) → 1 ≤ j → j ≤ i → unmarked (get_or marks (j - 1) 0) ≡ true → get_or marks (j - 1) 0 ≡ share q row blocks j
    pub left : (j : ℕ) → i < j → j ≤ n → unmarked (get_or marks (j - 1) 0) ≡ every_below h (passes_at q row blocks j)

  -- the marks of the posts, lent from a list with room behind them
  pub marking_start : (marks : List ℕ) (k : ℕ) → k ≡ n → MarkedTo q row blocks h marks → Marking 0 (take k marks)
  marking_start marks k e m = rw e (record {
    within = omega arith;
    long = omega (arith, length-take-le n marks m.long);
    done = λ j lo hi. absurd (omega (arith, lo, hi));
    share_is = λ j lo hi is. absurd (omega (arith, lo, hi));
    left = λ j lo hi. ap unmarked (get_or-take n marks (j - 1) 0 (omega (arith, lo, hi))) ∙ m.each j (omega (arith, lo)) hi;
  })

  pub marking_in : (i : ℕ) (marks : List ℕ) → Marking i marks → i < n → i < length marks
  marking_in i marks m low = omega (arith, m.long)

  pub marking_more : (i : ℕ) (marks : List ℕ) (r : ℕ) → Marking i marks → i < n
      → MarkedAs q row blocks (i + 1) h (get_or marks i 0) r → Marking (i + 1) (set marks i r)
  marking_more i marks r m low e = record {
    within = omega arith;
    long = omega (arith, length-set marks i r, m.long);
    done = λ j lo hi. go j lo (dec_le j i) hi;
    share_is = λ j lo hi is. shared j lo (dec_le j i) hi is;
    left = λ j lo hi. ap unmarked (get_or-set_other marks i (j - 1) r 0 (λ z. omega (arith, lo, z))) ∙ m.left j (omega (arith, lo)) hi;
  }
    where
      here : get_or (set marks i r) i 0 ≡ r
      here = get_or-set_same marks i r 0 (marking_in i marks m low)

      own : unmarked (get_or (set marks i r) i 0) ≡ every_below (suc h) (passes_at q row blocks (i + 1))
      own =
          ap unmarked here
          ∙ e.passes
          ∙ ap (λ (b : Bool). b && passes_at q row blocks (i + 1) h)
          (ap (λ (k : ℕ). unmarked (get_or marks k 0)) back ∙ m.left (i + 1) (omega arith) (omega arith))
          ∙ every_more h (passes_at q row blocks (i + 1))
        where
          back : i ≡ i + 1 - 1
          back = omega arith

      go : (j : ℕ) → 1 ≤ j → Dec (j ≤ i) → j ≤ i + 1 → unmarked (get_or (set marks i r) (j - 1) 0) ≡ every_below (suc h) (passes_at q row blocks j)
      go j lo (yes below) hi = ap unmarked (get_or-set_other marks i (j - 1) r 0 (λ z. omega (arith, lo, below, z))) ∙ m.done j lo below
      go j lo (no above) hi =
          let is : j ≡ i + 1 = omega (arith, hi, above) in
          rw is (ap (λ (k : ℕ). unmarked (get_or (set marks i r) k 0)) back ∙ own)
        where
          back : i + 1 - 1 ≡ i
          back = omega arith

      shared : (j : ℕ) → 1 ≤ j → Dec (j ≤ i) → j ≤ i + 1 → unmarked (get_or (set marks i r) (j - 1) 0) ≡ true
          → get_or (set marks i r) (j - 1) 0 ≡ share q row blocks j
      shared j lo (yes below) hi is =
          let same = get_or-set_other marks i (j - 1) r 0 (λ z. omega (arith, lo, below, z)) in
          same ∙ m.share_is j lo below (sym (ap unmarked same) ∙ is)
      shared j lo (no above) hi is =
          let last : j ≡ i + 1 = omega (arith, hi, above) in
          let place : j - 1 ≡ i = omega (arith, hi, above, lo) in
          let same : get_or (set marks i r) (j - 1) 0 ≡ r = ap (λ (k : ℕ). get_or (set marks i r) k 0) place ∙ here in
          same ∙ e.share_is (sym (ap unmarked same) ∙ is) ∙ ap (share q row blocks) (sym last)

  pub marking_end : (i : ℕ) (marks rest : List ℕ) → Marking i marks → n ≤ i → MarkedTo q row blocks (h + 1) (marks ++ rest)
  marking_end i marks rest m high = record {
    long = omega (arith, length-append marks rest, m.long);
    each = λ j lo hi.
        ap unmarked (same j lo hi) ∙ m.done j lo (omega (arith, hi, high))
        ∙ ap (λ (k : ℕ). every_below k (passes_at q row blocks j)) (sym (add-one h));
    share_is = λ j lo hi some is. same j lo hi ∙ m.share_is j lo (omega (arith, hi, high)) (sym (ap unmarked (same j lo hi)) ∙ is);
  }
    where
      same : (j : ℕ) → 1 ≤ j → j ≤ n → get_or (marks ++ rest) (j - 1) 0 ≡ get_or marks (j - 1) 0
      same j lo hi = get_or-append marks rest 0 (j - 1) (omega (arith, m.long, lo, hi))

module _ (q : Party) (row blocks marks : List ℕ) where
  pub marked_none : Unmarked q.shape marks → MarkedTo q row blocks 0 marks
  marked_none u = record {
    long = u.long;
    each = λ j lo hi. ap unmarked (u.each (j - 1) (omega (arith, lo, hi)));
    share_is = λ j lo hi some is. absurd (omega (arith, some));
  }

  pub marked_all : (h : ℕ) → Valid q.shape → MarkedTo q row blocks h marks → h ≤ q.shape.points → q.shape.points ≤ h → Judged q row blocks marks
  marked_all h v m hi lo =
      let all : h ≡ q.shape.points = omega arith in
      let each : (j : ℕ) → 1 ≤ j → j ≤ q.shape.n → unmarked (get_or marks (j - 1) 0) ≡ accepts q row blocks j
      = λ j a b. m.each j a b ∙ ap (λ (k : ℕ). every_below k (passes_at q row blocks j)) all ∙ all_accepted q row blocks j v in
      record {
        long = m.long;
        each = each;
        share_is = λ j a b is. m.share_is j a b (omega (arith, v.points_in_is.0, lo)) (each j a b ∙ is);
      }

  pub judged_in : (j : ℕ) → Judged q row blocks marks → 1 ≤ j → j ≤ q.shape.n → j - 1 < length marks
  judged_in j m lo hi = omega (arith, m.long)

  pub judged_is : (j : ℕ) → Judged q row blocks marks → 1 ≤ j → j ≤ q.shape.n → unmarked (get_or marks (j - 1) 0) ≡ accepts q row blocks j
  judged_is j m lo hi = m.each j lo hi

  pub judged_share : (j : ℕ) → Judged q row blocks marks → 1 ≤ j → j ≤ q.shape.n → accepts q row blocks j ≡ true
      → get_or marks (j - 1) 0 ≡ share q row blocks j
  judged_share j m lo hi is = m.share_is j lo hi is

-- behind the first point is the second
pub next_point : (w : Points) (h : ℕ) → w.second ≡ point_at w (h + 1)
next_point w h = ap (point_at w) (sym (add-one h))

pub next_post : (s : Shape) (i : ℕ) → i < s.n → PostIn s (i + 1)
next_post s i h = post_in s (i + 1) (omega arith) (omega arith)
