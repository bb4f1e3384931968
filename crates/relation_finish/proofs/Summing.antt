-- The sum's row is the terms' rows added up, from 0 on.
use Prim.Native.Nat.{ℕ, ◌+◌, ◌*◌, ◌≤◌, ◌<◌}
use mathlib.Core.Path.{◌≡◌, refl, sym, ◌∙◌, ap, ap₂}
use mathlib.Core.Logic.{◌≢◌}
use mathlib.Core.Bool.{Bool, true, false, cond}
use mathlib.Core.List.{List, [], ◌∷◌}
use native.Mathlib.Omega.{arith}
use lib.Dec.{eqb}
use lib.ListN.{length, replicate, length-replicate}
use Rattle.poly.specs.Counting.{All}
use Rattle.session.specs.declared.Session.{Session}
use Rattle.session.specs.Rows.{width, sums_at_of, row_at, with_row, summed}
use Rattle.session.proofs.RowLaws.{length_row, length_with_row, row_same, row_other}
use Rattle.sums.proofs.Writers.{length_combined}
use Rattle.sums.proofs.Summed.{length_plus_sums}
use Rattle.terms.specs.declared.Term.{Term}
use Rattle.relation.specs.Tests.{by_kind}
use Rattle.relation.specs.Finish.{number_row_of, plus_term, plus_terms, cleared}
use Rattle.relation_finish.specs.Sums.{row_of, added, SumOfTerms}

row_of_lem : (t : Term) → number_row_of t ≡ row_of t
row_of_lem t = go (eqb t.second 255)
  where
    go : (b : Bool) → by_kind b t.row (t.first + 2) ≡ cond b t.row (t.first + 2)
    go true = refl
    go false = refl

module _ (s : Session) (d : ℕ) (low : d < 96) where
  abbrev w : ℕ
  w = width s

  abbrev plus : List ℕ → ℕ → List ℕ → List ℕ
  plus x c y = summed (sums_at_of s) c 0 x y

  plus_long : (x : List ℕ) (c : ℕ) (y : List ℕ) → length x ≡ w → length y ≡ w → length (plus x c y) ≡ w
  plus_long x c y e f = length_plus_sums (sums_at_of s) 0 _ ∙ length_combined c x y (e ∙ sym f) ∙ e

  -- of rows that are as they were but for row d, which has what was added so far
  module _ (rows : List ℕ) (size : length rows ≡ 96 * w) where
    pub record Adding (now so_far : List ℕ) : Type 0 where
      pub as_long : length now ≡ 96 * w
      pub wide : length so_far ≡ w
      pub sum_is : row_at w now d ≡ so_far
      pub others : (q : ℕ) → q ≢ d → row_at w now q ≡ row_at w rows q

    put : (now x : List ℕ) → length now ≡ 96 * w → ((q : ℕ) → q ≢ d → row_at w now q ≡ row_at w rows q) → length x ≡ w → Adding (with_row w d x now) x
    put now x long same e = record {
      as_long = length_with_row w 96 now d long low x e ∙ long;
      wide = e;
      sum_is = row_same w 96 now d long low x e;
      others = λ q n. row_other w 96 now d long low x e q n ∙ same q n;
    }

    all_added : (ts : List Term) (now so_far : List ℕ) → Adding now so_far → All (λ t. (row_of t ≤ 95) × (row_of t ≢ d)) ts
        → row_at w (plus_terms s d ts now) d ≡ added s rows so_far ts
    unfolding plus_terms
    all_added [] now so_far a h = a.sum_is
    all_added (t ∷ ts) now so_far a h =
        let q = row_of t in
        let y = row_at w rows q in
        let long : length y ≡ w = length_row w 96 rows q size (omega (arith, h.0.0)) in
        let e : plus_term s d t now ≡ with_row w d (plus so_far t.coefficient y) now =
        ap (λ (r : ℕ). with_row w d (plus (row_at w now d) t.coefficient (row_at w now r)) now) (row_of_lem t)
        ∙ ap₂ (λ (m n : List ℕ). with_row w d (plus m t.coefficient n) now) a.sum_is (a.others q h.0.1) in
        ap (λ (l : List ℕ). row_at w (plus_terms s d ts l) d) e
        ∙ all_added ts _ _ (put now (plus so_far t.coefficient y) a.as_long a.others (plus_long so_far t.coefficient y a.wide long)) h.1

pub sum_of_terms : SumOfTerms
sum_of_terms s d ts rows size i h =
    all_added s d (omega arith) rows size ts (cleared s d rows) (replicate (width s) 0)
    (put s d (omega arith) rows size rows (replicate (width s) 0) size (λ q n. refl) (length-replicate (width s) 0)) h
