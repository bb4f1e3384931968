-- How many of the missing numbers are above 0, and above a node: of the numbers up to the i-th node all but i + 1 are missing.
use Prim.Native.Nat.{ℕ, suc, ◌+◌, ◌-◌, ◌≤◌, ◌<◌}
use mathlib.Core.Path.{◌≡◌, refl, sym, ◌∙◌, ap}
use mathlib.Core.Bool.{Bool, true, false}
use mathlib.Core.List.{List, [], ◌∷◌, ◌++◌}
use native.Mathlib.Nat.{le_of_suc-le-suc, not-suc-le-zero}
use native.Mathlib.Omega.{arith}
use borrow.Author.Tests.{lt-ltb, le-ltb}
use lib.ListN.{length, get_or, length-append}
use Rattle.inverses.specs.InverseTable.{most}
use Rattle.poly.specs.Counting.{All}
use Rattle.poly.proofs.Lists.{all_map}
use Rattle.barycentric.specs.Nodes.{Rising, last_of, missing, following}
use Rattle.barycentric.specs.Weights.{over, above}
use Rattle.barycentric.proofs.Ascent.{rising_next, rising_count, following_between, missing_between}
use Rattle.barycentric.proofs.Gaps.{length_following, length_missing}

above_join : (xs ys : List ℕ) (x : ℕ) → above (xs ++ ys) x ≡ above xs x + above ys x
unfolding above
above_join [] ys x = omega arith
above_join (g ∷ gs) ys x = let ih = above_join gs ys x in omega arith

none_above : (gs : List ℕ) (x : ℕ) → All (λ g. g ≤ x) gs → above gs x ≡ 0
unfolding above over
none_above [] x l = refl
none_above (g ∷ gs) x l =
    let q : over x g ≡ 0 = ap (λ (t : Bool). elim t as (λ z. ℕ) [ true ↦ 1 | false ↦ 0 ]) (le-ltb x g l.0) in
    omega (arith, none_above gs x l.1)

all_above : (gs : List ℕ) (x : ℕ) → All (λ g. x < g) gs → above gs x ≡ length gs
unfolding above over
all_above [] x l = refl
all_above (g ∷ gs) x l =
    let q : over x g ≡ 1 = ap (λ (t : Bool). elim t as (λ z. ℕ) [ true ↦ 1 | false ↦ 0 ]) (lt-ltb x g l.0) in
    omega (arith, all_above gs x l.1)

-- one node more: the numbers before it are at most x, and so not above a later one
module _ (a x : ℕ) (xs : List ℕ) (low : a < x) (r : Rising x xs) where
  abbrev between : List ℕ
  between = following a (x - suc a)

  sized : length (between ++ missing x xs) ≡ x - suc a + length (missing x xs)
  sized = length-append between (missing x xs) ∙ ap (λ (k : ℕ). k + length (missing x xs)) (length_following a (x - suc a))

  passed : (y : ℕ) → x ≤ y → above (between ++ missing x xs) y ≡ above (missing x xs) y
  passed y k =
      let none : above between y ≡ 0 = none_above between y (all_map (λ g b. omega (arith, b.1)) between (following_between a (x - suc a))) in
      omega (arith, above_join between (missing x xs) y)

  above_first : above (between ++ missing x xs) x + x ≡ length (between ++ missing x xs) + (0 + 1) + a
  above_first =
      let all : above (missing x xs) x ≡ length (missing x xs) =
      all_above (missing x xs) x (all_map (λ g b. b.0) (missing x xs) (missing_between x xs r)) in
      omega (arith, sized, passed x (omega arith))

  above_later : (j : ℕ) → j < length xs → above (missing x xs) (get_or xs j 0) + get_or xs j 0 ≡ length (missing x xs) + (j + 1) + x
      → above (between ++ missing x xs) (get_or xs j 0) + get_or xs j 0 ≡ length (between ++ missing x xs) + (suc j + 1) + a
  above_later j k ih =
      let later : x ≤ get_or xs j 0 = omega (arith, rising_next x xs j r k, rising_count x xs j r (omega arith)) in
      omega (arith, sized, passed (get_or xs j 0) later)

above_node : (a : ℕ) (xs : List ℕ) (i : ℕ) → Rising a xs → i < length xs
    → above (missing a xs) (get_or xs i 0) + get_or xs i 0 ≡ length (missing a xs) + (i + 1) + a
unfolding missing
above_node a [] i r h = absurd (not-suc-le-zero h)
above_node a (x ∷ xs) ℕ.zero r h = above_first a x xs r.0 r.1
above_node a (x ∷ xs) (suc j) r h =
    above_later a x xs r.0 r.1 j (le_of_suc-le-suc h) (above_node x xs j r.1 (le_of_suc-le-suc h))

-- as the code has them
module _ (xs gs : List ℕ) (r : Rising 0 xs) (e : gs ≡ missing 0 xs) where
  pub above_zero : (n : ℕ) → n ≡ length gs → n ≡ above gs 0
  above_zero n q = q ∙ rw e (sym (all_above (missing 0 xs) 0 (all_map (λ g b. b.0) (missing 0 xs) (missing_between 0 xs r))))

  module _ (i : ℕ) (k : i < length xs) where
    node_sum : above gs (get_or xs i 0) + get_or xs i 0 ≡ length gs + (i + 1)
    node_sum = rw e (omega (arith, above_node 0 xs i r k))

    pub gaps_fit : last_of 0 xs ≤ most → length gs + (i + 1) ≤ most
    gaps_fit h = omega (arith, ap length e, length_missing 0 xs r)

    pub node_under : get_or xs i 0 ≤ length gs + (i + 1)
    node_under = omega (arith, node_sum)

    pub above_at : length gs + (i + 1) - get_or xs i 0 ≡ above gs (get_or xs i 0)
    above_at = omega (arith, node_sum)
