-- The two sums of products that decide a further value, from lists of all numbers up to the last node, turned round.
use Prim.Native.Nat.{ℕ, suc, ◌+◌, ◌-◌, ◌≤◌, ◌<◌}
use mathlib.Core.Path.{◌≡◌, refl, sym, ◌∙◌, ap, ap₂}
use mathlib.Core.Logic.{◌≢◌}
use mathlib.Core.Bool.{Bool, true, false}
use mathlib.Core.List.{List, [], ◌∷◌}
use native.Mathlib.Nat.{le_of_suc-le-suc, not-suc-le-zero}
use native.Mathlib.Omega.{arith}
use native.Mathlib.Decide.{dec_lt, ℕ_discrete}
use borrow.Author.Tests.{eq-eqb, ne_eqb, lt-ltb, le-ltb}
use lib.Dec.{eqb, ltb, lit<}
use lib.ListN.{length, drop, get_or}
use lib.Seq.{get_or-take, get_or-drop}
use Rattle.field.specs.Modulus.{p}
use Rattle.field.specs.Arithmetic.{product}
use Rattle.field.specs.Element.{Element, element}
use Rattle.field.proofs.Expression.{A, B, ◌:+◌, ◌:-◌, Same}
use Rattle.field.proofs.Ring.{one_mul}
use Rattle.field.proofs.Solver.{solve}
use Rattle.field.proofs.Elements.{𝓡, elements, element_zero, element_one, element_sum, element_product, element_add, element_injective}
use Rattle.field.proofs.Modular.{product_below}
use Rattle.poly.specs.Counting.{All}
use Rattle.poly.specs.Interpolation.{interpolated}
use Rattle.inverses.specs.InverseTable.{Inverts}
use Rattle.barycentric.specs.Nodes.{Rising, last_of, missing}
use Rattle.poly.specs.Polynomial.{weighted}
use Rattle.agreement.specs.Agreement.{agrees}
use Rattle.barycentric.specs.Weights.{node_weight, firsts}
use Rattle.agreement.specs.Sums.{table_part, fits}
use Rattle.poly.proofs.Lists.{all_map, all_of, all_under, all_zip}
use Rattle.poly.proofs.Bounds.{weighted_below, interpolated_below, nonzero}
use Rattle.poly.proofs.Coefficients.{ev}
use Rattle.poly.proofs.Lagrange.{nodal_at_nonzero}
use Rattle.poly.proofs.Numbers.{to_elements, element_nodal}
use Rattle.barycentric.proofs.Sums.{sum_below_of, sum_over, sum_below_same, sum_below_front, sum_below_back, sum_over_same}
use Rattle.barycentric.proofs.Barycentric.{over, above, below, sums_of_fit, fit_of_sums}
use Rattle.barycentric.proofs.Gaps.{over_nodes}
use Rattle.barycentric.proofs.Alternating.{element_suc, element_node_weight}
use Rattle.barycentric.proofs.Ascent.{rising_above, rising_below, missing_between}
use Rattle.barycentric.proofs.Rows.{length_firsts, firsts_at}
use Rattle.barycentric.proofs.Zero.{δ, δ_kills, passing, passing_few, passing_at, first_weight}
use Rattle.agreement.proofs.Fitting.{taken_length}
open 𝓡 use {add as ◌⊕◌, mul as ◌⊗◌, neg, zero as 0ᴱ, one as 1ᴱ, mul_assoc, mul_one}
open elements use {inv, mul_inv}

infixl 65 ◌⊕◌
infixl 70 ◌⊗◌
-- a sum of products by the lists' places
element_weighted_at : (a b : List ℕ) → length a ≤ length b
    → element (weighted a b) ≡ sum_below_of 𝓡 (λ j. element (get_or a j 0) ⊗ element (get_or b j 0)) (length a)
unfolding weighted sum_below_of
element_weighted_at [] b h = element_zero
element_weighted_at (x ∷ a) [] h = absurd (not-suc-le-zero h)
element_weighted_at (x ∷ a) (y ∷ b) h =
    element_sum _ _ ∙ ap₂ ◌⊕◌ (element_product x y) (element_weighted_at a b (le_of_suc-le-suc h))
    ∙ sym (sum_below_front 𝓡 (λ j. element (get_or (x ∷ a) j 0) ⊗ element (get_or (y ∷ b) j 0)) (length a))

-- the table's entry for z - x
entry_over : (x z e : ℕ) → x < z → z < p → product e (z - x) ≡ 1 → element e ≡ over elements element (element z) x
unfolding Same
entry_over x z e h l q =
    sym (mul_one (element e)) ∙ ap (λ (u : Element). element e ⊗ u) (sym (mul_inv d some))
    ∙ sym (mul_assoc (element e) d (inv d)) ∙ ap (λ (u : Element). u ⊗ inv d) one_of ∙ one_mul 𝓡 (inv d)
  where
    d : Element
    d = element z ⊕ neg (element x)

    distance : element (z - x) ≡ d
    distance =
        let s : z - x + x ≡ z = omega arith in
        solve 𝓡 (element (z - x) ∷ element x ∷ []) A (A :+ B :- B) refl
        ∙ ap (λ (u : Element). u ⊕ neg (element x)) (sym (element_add (z - x) x) ∙ ap element s)

    some : d ≢ 0ᴱ
    some w = nonzero (z - x) (omega arith) (omega arith) (distance ∙ w)

    one_of : element e ⊗ d ≡ 1ᴱ
    one_of = ap (λ (u : Element). element e ⊗ u) (sym distance) ∙ sym (element_product e (z - x)) ∙ ap element q ∙ element_one

module _ (xs t : List ℕ) (r : Rising 0 xs) (table : Inverts t) (z : ℕ) (beyond : last_of 0 xs < z) (reached : z ≤ length t) where
  m : ℕ
  m = last_of 0 xs

  part_length : length (table_part t (suc m) z) ≡ suc m
  unfolding m
  part_length =
      let q : z - (z - suc (last_of 0 xs)) ≡ suc (last_of 0 xs) = omega arith in
      taken_length t (z - suc (last_of 0 xs)) z reached ∙ q

  -- the part's entry at j
  part_at : (j : ℕ) → j < suc m → element (get_or (table_part t (suc m) z) j 0) ≡ over elements element (element z) (m - j)
  unfolding m
  part_at j h =
      let n = z - suc (last_of 0 xs) in
      let i : n + j + 1 ≡ z - (last_of 0 xs - j) = omega arith in
      ap element (get_or-take (z - n) (drop n t) j 0 (omega arith) ∙ get_or-drop n t j 0)
      ∙ entry_over (last_of 0 xs - j) z (get_or t (n + j) 0) (omega arith) (omega (arith, table.short))
      (ap (product (get_or t (n + j) 0)) (sym i) ∙ table.times (n + j) (omega arith))

  -- a list of all numbers' weights, each times a number
  dense_sum : (c : ℕ → ℕ) (g : ℕ → Element) (l : List ℕ) → ((x : ℕ) → element (c x) ≡ δ xs x ⊗ g x) → l ≡ firsts (λ j. c (m - j)) (suc m)
      → element (weighted l (table_part t (suc m) z)) ≡ sum_over 𝓡 (λ x. δ xs x ⊗ (g x ⊗ over elements element (element z) x)) (0 ∷ xs)
  unfolding m
  dense_sum c g l ec el =
      let s : length l ≡ suc (last_of 0 xs) = ap length el ∙ length_firsts (λ j. c (last_of 0 xs - j)) (suc (last_of 0 xs)) in
      element_weighted_at l (table_part t (suc (last_of 0 xs)) z) (omega (arith, part_length))
      ∙ ap (sum_below_of 𝓡 (λ j. element (get_or l j 0) ⊗ element (get_or (table_part t (suc (last_of 0 xs)) z) j 0))) s
      ∙ sum_below_same 𝓡 _ (λ j. h (last_of 0 xs - j)) (suc (last_of 0 xs)) each
      ∙ sum_below_back 𝓡 h (last_of 0 xs)
      ∙ over_nodes elements element element_zero element_suc xs r (λ x. g x ⊗ over elements element (element z) x)
    where
      h : ℕ → Element
      h x = δ xs x ⊗ (g x ⊗ over elements element (element z) x)

      each : (j : ℕ) → j < suc (last_of 0 xs) → element (get_or l j 0) ⊗ element (get_or (table_part t (suc (last_of 0 xs)) z) j 0) ≡ h (last_of 0 xs - j)
      each j b =
          ap₂ ◌⊗◌
          (ap element (ap (λ (s : List ℕ). get_or s j 0) el ∙ firsts_at (λ j. c (last_of 0 xs - j)) (suc (last_of 0 xs)) j b) ∙ ec (last_of 0 xs - j))
          (part_at j b)
          ∙ mul_assoc _ _ _

  -- with the values of the interpolation, and with none
  module _ (ys : List ℕ) (same : length xs ≡ length ys) (tops bottoms : List ℕ)
      (et : tops ≡ firsts (λ j. product (node_weight (last_of 0 xs) (missing 0 xs) (last_of 0 xs - j)) (interpolated xs ys (last_of 0 xs - j))) (suc (last_of 0 xs)))
      (eb : bottoms ≡ firsts (λ j. node_weight (last_of 0 xs) (missing 0 xs) (last_of 0 xs - j)) (suc (last_of 0 xs))) where
    small : last_of 0 xs < p
    small = omega (arith, table.short)

    f : List Element
    f = passing xs ys r small same

    top : element (weighted tops (table_part t (suc (last_of 0 xs)) z)) ≡ above elements element (δ xs) f (element z) (0 ∷ xs)
    unfolding m f
    top =
        dense_sum (λ x. product (node_weight (last_of 0 xs) (missing 0 xs) x) (interpolated xs ys x)) (λ x. ev 𝓡 f (element x)) tops
        (λ x. element_product _ _ ∙ ap₂ ◌⊗◌ (element_node_weight (last_of 0 xs) (missing 0 xs) x) (passing_at xs ys r small same x)) et
        ∙ sum_over_same 𝓡 _ (λ x. δ xs x ⊗ ev 𝓡 f (element x) ⊗ over elements element (element z) x) (0 ∷ xs)
        (all_of (λ x. sym (mul_assoc _ _ _)) (0 ∷ xs))

    bottom : element (weighted bottoms (table_part t (suc (last_of 0 xs)) z)) ≡ below elements element (δ xs) (element z) (0 ∷ xs)
    unfolding m
    bottom =
        dense_sum (λ x. node_weight (last_of 0 xs) (missing 0 xs) x) (λ x. 1ᴱ) bottoms
        (λ x. element_node_weight (last_of 0 xs) (missing 0 xs) x ∙ sym (mul_one _)) eb
        ∙ sum_over_same 𝓡 _ (λ x. δ xs x ⊗ over elements element (element z) x) (0 ∷ xs)
        (all_of (λ x. ap (λ (u : Element). δ xs x ⊗ u) (one_mul 𝓡 _)) (0 ∷ xs))

    -- 0, the nodes and z are different elements
    differ : (a b : ℕ) → a < p → b < p → a ≢ b → element a ≢ element b
    differ a b h k n e = n (element_injective a b h k e)

    first_some : δ xs 0 ≢ 0ᴱ
    first_some e =
        nodal_at_nonzero elements (element 0) (to_elements (missing 0 xs))
        (all_under (λ s. s ≢ element 0) element (missing 0 xs)
        (all_map (λ g b. differ g 0 (omega (arith, b.1, small)) (lit< tt) (λ q. absurd (omega (arith, b.0)))) (missing 0 xs) (missing_between 0 xs r)))
        (sym (element_nodal (missing 0 xs) 0) ∙ sym (first_weight xs ys r small same) ∙ e)

    apart : All (λ x. element x ≢ element 0) xs
    apart =
        all_zip (λ x a b. differ x 0 (omega (arith, small)) (lit< tt) (λ q. absurd (omega arith))) xs (rising_above 0 xs r) (rising_below 0 xs r)

    off : All (λ x. element x ≢ element z) xs
    off = all_map (λ x b. differ x z (omega (arith, small)) (omega (arith, table.short)) (λ q. absurd (omega arith))) xs (rising_below 0 xs r)

    off_zero : element 0 ≢ element z
    off_zero = differ 0 z (lit< tt) (omega (arith, table.short)) (λ q. absurd (omega arith))

    module _ (y : ℕ) (low : y < p) where
      abbrev sums : Type 0
      sums = weighted tops (table_part t (suc (last_of 0 xs)) z) ≡ product y (weighted bottoms (table_part t (suc (last_of 0 xs)) z))

      sums_agree : y ≡ interpolated xs ys z → sums
      unfolding f
      sums_agree e =
          element_injective _ _ (weighted_below _ _) (product_below _ _)
          (top
          ∙ sums_of_fit elements element (δ xs) 0 xs (δ_kills xs r) first_some apart (element z) off_zero off f (passing_few xs ys r small same)
          (element y) (ap element e ∙ passing_at xs ys r small same z)
          ∙ ap (λ (u : Element). element y ⊗ u) (sym bottom) ∙ sym (element_product y _))

      agree_of_sums : sums → y ≡ interpolated xs ys z
      unfolding f
      agree_of_sums e =
          element_injective y (interpolated xs ys z) low (interpolated_below xs ys z)
          (fit_of_sums elements element (δ xs) 0 xs (δ_kills xs r) first_some apart (element z) off_zero off f (passing_few xs ys r small same)
          (element y)
          (sym top ∙ ap element e ∙ element_product y _ ∙ ap (λ (u : Element). element y ⊗ u) bottom)
          ∙ sym (passing_at xs ys r small same z))

    pub fits_agrees : (y : ℕ) → fits t tops bottoms z y ≡ agrees xs ys z y
    unfolding fits
    fits_agrees y = go (dec_lt y p)
      where
        n : length bottoms ≡ suc (last_of 0 xs)
        n = ap length eb ∙ length_firsts _ (suc (last_of 0 xs))

        test : ℕ → Bool
        test k = eqb (weighted tops (table_part t k z)) (product y (weighted bottoms (table_part t k z)))

        chosen : Bool → Bool
        chosen u = elim u as (λ v. Bool) [ true ↦ test (length bottoms) | false ↦ false ]

        decide : y < p → Dec (y ≡ interpolated xs ys z) → test (suc (last_of 0 xs)) ≡ eqb y (interpolated xs ys z)
        decide l (yes e) = eq-eqb _ _ (sums_agree y l e) ∙ sym (eq-eqb _ _ e)
        decide l (no e) = ne_eqb _ _ (λ q. e (agree_of_sums y l q)) ∙ sym (ne_eqb _ _ e)

        go : Dec (y < p) → chosen (ltb y p) ≡ eqb y (interpolated xs ys z)
        go (yes l) = ap chosen (lt-ltb y p l) ∙ ap test n ∙ decide l (ℕ_discrete y (interpolated xs ys z))
        go (no l) =
            ap chosen (le-ltb y p (omega arith)) ∙ sym (ne_eqb y (interpolated xs ys z) (λ e. l (rw e (interpolated_below xs ys z))))
