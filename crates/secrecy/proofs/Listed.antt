-- The list of all draws has every draw of the plan, nothing else, and each once.
use Prim.Native.Nat.{ℕ, ◌+◌, ◌-◌, ◌≤◌, ◌<◌}
use mathlib.Core.Path.{◌≡◌, sym, ◌∙◌, ap, subst}
use mathlib.Core.List.{List, [], ◌∷◌, map}
use native.Mathlib.Omega.{arith}
use lib.ListN.{length, get_or, replicate}
use Rattle.field.specs.Modulus.{p}
use Rattle.poly.specs.Counting.{All, Distinct}
use Rattle.poly.proofs.Lists.{all_map}
use Rattle.shape.specs.Bounds.{row_count_of}
use Rattle.parts.specs.Draw.{each_from}
use Rattle.shape.specs.Lengths.{checks_length}
use Rattle.runs.specs.Draws.{Plan, plan_shape, Draw, IsDraw, Lists, raw_length, triple_length}
use Rattle.secrecy.specs.Seen.{all_rows}
use Rattle.runs.specs.Calls.{Among}
use Rattle.secrecy.specs.Count.{for_each, lists_of, all_lists, draws, AllDraws}
use Rattle.secrecy.proofs.Counting.{among_map, map_among, map_distinct}
use Rattle.secrecy.proofs.Selections.{among_each, each_among, each_distinct, choices_fit, fit_choices, choices_distinct, fits_same, same_fits, fits_rows, rows_fit, numbers_among, among_numbers, numbers_distinct}

-- lists of k of the `many` numbers from `low` on
module _ (low many k : ℕ) where
  abbrev Numbers : List ℕ
  Numbers = each_from low many (λ x. x)

  lists_are : (xs : List ℕ) → Among xs (lists_of low many k)
      → (length xs ≡ k) × All (λ x. (low ≤ x) × (x < low + many)) xs
  unfolding lists_of
  lists_are xs m =
      let (e, a) = fits_same k Numbers xs (choices_fit (replicate k Numbers) xs m) in
      (e, all_map (numbers_among low many) xs a)

  lists_has : (xs : List ℕ) → length xs ≡ k → All (λ x. (low ≤ x) × (x < low + many)) xs → Among xs (lists_of low many k)
  unfolding lists_of
  lists_has xs e a =
      fit_choices (replicate k Numbers) xs
      (same_fits k Numbers xs e (all_map (λ x h. among_numbers low many x h.0 h.1) xs a))

  lists_distinct : Distinct (lists_of low many k)
  unfolding lists_of
  lists_distinct = choices_distinct (replicate k Numbers) (every k)
    where
      every : (j : ℕ) → All (λ c. Distinct c) (replicate j Numbers)
      every ℕ.zero = tt
      every (ℕ.suc j) = (numbers_distinct low many, every j)

-- a list for each row, the r-th of `many r` elements
module _ (many : ℕ → ℕ) where
  abbrev of_row_of : ℕ → List (List ℕ)
  of_row_of r = lists_of 0 p (many r)

  below : (r : ℕ) (xs : List ℕ) → Among xs (of_row_of (0 + r)) → (length xs ≡ many r) × All (λ x. x < p) xs
  below r xs m =
      let z : 0 + r ≡ r = omega arith in
      let (e, a) = lists_are 0 p (many r) xs (subst (λ (j : ℕ). Among xs (of_row_of j)) z m) in
      (e, all_map (λ x h. omega arith) xs a)

  of_below : (r : ℕ) (xs : List ℕ) → length xs ≡ many r → All (λ x. x < p) xs → Among xs (of_row_of (0 + r))
  of_below r xs e a =
      let z : r ≡ 0 + r = omega arith in
      subst (λ (j : ℕ). Among xs (of_row_of j)) z
      (lists_has 0 p (many r) xs e (all_map (λ x h. (omega arith, omega arith)) xs a))

  rows_are : (ls : List (List ℕ)) → Among ls (all_lists many) → Lists many ls
  unfolding all_lists all_rows
  rows_are ls m =
      let (e, f) = fits_rows of_row_of [] 0 row_count_of ls (choices_fit (map of_row_of (each_from 0 row_count_of (λ r. r))) ls m) in
      record { count = e; each = λ r l. below r (get_or ls r []) (f r l) }

  rows_have : (ls : List (List ℕ)) → Lists many ls → Among ls (all_lists many)
  unfolding all_lists all_rows
  rows_have ls h =
      fit_choices (map of_row_of (each_from 0 row_count_of (λ r. r))) ls
      (rows_fit of_row_of [] 0 row_count_of ls h.count (λ r l. of_below r (get_or ls r []) (h.each r l).0 (h.each r l).1))

  rows_distinct : Distinct (all_lists many)
  unfolding all_lists
  rows_distinct = choices_distinct (map of_row_of all_rows) (every all_rows)
    where
      every : (rs : List ℕ) → All (λ c. Distinct c) (map of_row_of rs)
      every [] = tt
      every (r ∷ rs) = (lists_distinct 0 p (many r), every rs)

module _ (plan : Plan) where
  -- the draws with given points; with given points and given raw lists
  with_raws : List ℕ → List (List ℕ) → List Draw
  with_raws points raws =
      map (λ triples. record { points = points; raws = raws; triples = triples }) (all_lists (triple_length plan))

  with_points : List ℕ → List Draw
  with_points points = for_each (all_lists (raw_length plan)) (with_raws points)

  in_raws : (points : List ℕ) (raws : List (List ℕ)) (d : Draw) → Among d (with_raws points raws)
      → (d.points ≡ points) × (d.raws ≡ raws) × Lists (triple_length plan) d.triples
  unfolding with_raws
  in_raws points raws d m =
      let (triples, k, e) =
      map_among {B = Draw} (λ l. record { points = points; raws = raws; triples = l }) (all_lists (triple_length plan)) d m in
      let q : d.triples ≡ triples = ap (λ (c : Draw). c.triples) e in (
        ap (λ (c : Draw). c.points) e,
        ap (λ (c : Draw). c.raws) e,
        subst (Lists (triple_length plan)) (sym q) (rows_are (triple_length plan) triples k),
      )

  in_points : (points : List ℕ) (d : Draw) → Among d (with_points points)
      → (d.points ≡ points) × Lists (raw_length plan) d.raws × Lists (triple_length plan) d.triples
  unfolding with_points
  in_points points d m =
      let (raws, k, l) = each_among (with_raws points) (all_lists (raw_length plan)) d m in
      let (e, q, triples) = in_raws points raws d l in
      (e, subst (Lists (raw_length plan)) (sym q) (rows_are (raw_length plan) raws k), triples)

  each_listed : (d : Draw) → IsDraw plan d → Among d (draws plan)
  unfolding draws with_points with_raws
  each_listed d h =
      among_each with_points (lists_of 1 (p - 1) (checks_length (plan_shape plan))) d.points d
      (lists_has 1 (p - 1) (checks_length (plan_shape plan)) d.points h.posts h.points)
      (among_each (with_raws d.points) (all_lists (raw_length plan)) d.raws d
      (rows_have (raw_length plan) d.raws h.raws)
      (among_map (λ l. record { points = d.points; raws = d.raws; triples = l }) (all_lists (triple_length plan)) d.triples
      (rows_have (triple_length plan) d.triples h.triples)))

  listed_draw : (d : Draw) → Among d (draws plan) → IsDraw plan d
  unfolding draws with_points with_raws
  listed_draw d m =
      let (points, k, l) = each_among with_points (lists_of 1 (p - 1) (checks_length (plan_shape plan))) d m in
      let (e, raws, triples) = in_points points d l in
      let (many, ranges) = lists_are 1 (p - 1) (checks_length (plan_shape plan)) points k in
      record {
        posts = ap length e ∙ many;
        points = subst (All (λ w. (1 ≤ w) × (w < p))) (sym e) ranges;
        raws = raws;
        triples = triples;
      }

  raws_distinct : (points : List ℕ) (raws : List (List ℕ)) → Distinct (with_raws points raws)
  unfolding with_raws
  raws_distinct points raws =
      map_distinct {B = Draw} (λ l. record { points = points; raws = raws; triples = l }) (all_lists (triple_length plan))
      (λ a b k l e. ap (λ (c : Draw). c.triples) e) (rows_distinct (triple_length plan))

  points_distinct : (points : List ℕ) → Distinct (with_points points)
  unfolding with_points
  points_distinct points =
      each_distinct (with_raws points) (all_lists (raw_length plan)) (rows_distinct (raw_length plan)) (raws_distinct points)
      (λ a c d k l. sym (in_raws points a d k).1 ∙ (in_raws points c d l).1)

  listed_once : Distinct (draws plan)
  unfolding draws with_points with_raws
  listed_once =
      each_distinct with_points (lists_of 1 (p - 1) (checks_length (plan_shape plan))) (lists_distinct 1 (p - 1) (checks_length (plan_shape plan))) points_distinct
      (λ a c d k l. sym (in_points a d k).0 ∙ (in_points c d l).0)

pub all_draws : AllDraws
all_draws plan = (each_listed plan, listed_draw plan, listed_once plan)
