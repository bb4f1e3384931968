-- What is claimed of numbered tests; proved in proofs/Laws.antt and proofs/Decided.antt. And what the conditions mean that tables
-- cite by name; proved in proofs/Figures.antt.
use Rattle.std.specs.Prelude.{ℕ, ◌≤◌, ◌<◌, ◌≡◌, false, ◌||◌, ◌&&◌, List, ◌++◌, eqb, ltb, length, get_or}
use Rattle.shape.specs.declared.Points.{Points}
use Rattle.refusal.specs.Refusal.{Test, first, or_else, outcome, Ordered, Numbered, Decides, Keeps}
use Rattle.refusal.specs.Conditions.{outside, wrong_length, beyond, any_beyond, bad_point, bad_points}

-- Tests in the order of their numbers: 0 exactly when every test fails; otherwise the smallest number whose test applies.
abbrev pub OrderDecides : Type 0
OrderDecides = (k : ℕ) (ts : List Test) → Ordered k ts → Decides ts

-- Two groups of tests, one after the other.
abbrev pub FirstJoin : Type 0
FirstJoin = (xs ys : List Test) → Numbered xs → first (xs ++ ys) ≡ or_else (first xs) (first ys)

-- What `outcome` makes of tests in order.
abbrev pub OutcomeKeeps : Type 1
OutcomeKeeps = (A : Type 0) (k : ℕ) (ts : List Test) → Ordered k ts → (new old : A) → Keeps ts new old (outcome (first ts) new old)

-- The shared conditions in figures: p is 2147483647, so "at least p" is above 2147483646. A condition that a table cites by name is
-- false exactly where it must be, in both directions.
pub record ConditionsMean : Type 0 where
  pub beyond_is : (x : ℕ) → beyond x ≡ ltb 2147483646 x
  -- "4: a check point is 0 or at least p"
  pub point_is : (w : ℕ) → bad_point w ≡ (eqb w 0 || ltb 2147483646 w)
  -- 4 of a post's check points: "a number of points other than 1 or 2"; a first point of 0 or at least p, and "the second point too", where
  -- there are two
  pub points_are :
      (points : ℕ) (w : Points)
      → bad_points points w ≡ (outside 1 2 points || (outside 1 2147483646 w.first || (eqb points 2 && outside 1 2147483646 w.second)))
  pub inside_passes : (low high x : ℕ) → low ≤ x → x ≤ high → outside low high x ≡ false
  pub passes_inside : (low high x : ℕ) → outside low high x ≡ false → (low ≤ x) × (x ≤ high)
  pub length_passes : (l : List ℕ) (k : ℕ) → length l ≡ k → wrong_length l k ≡ false
  pub passes_length : (l : List ℕ) (k : ℕ) → wrong_length l k ≡ false → length l ≡ k
  -- 8, of a list: no number is at least p
  pub numbers_pass : (l : List ℕ) → ((i : ℕ) → i < length l → get_or l i 0 ≤ 2147483646) → any_beyond l ≡ false
  pub passes_numbers : (l : List ℕ) → any_beyond l ≡ false → (i : ℕ) → i < length l → get_or l i 0 ≤ 2147483646
