-- Interpolation at 0 through rising nodes: the weights that the code makes, and one inverse for all of them.
use Prim.Native.Nat.{ℕ, suc, ◌+◌, ◌-◌, ◌≤◌, ◌<◌}
use mathlib.Core.Path.{◌≡◌, refl, sym, ◌∙◌, ap, ap₂}
use mathlib.Core.List.{List, [], ◌∷◌, ◌++◌, map, map-append}
use native.Mathlib.Numerals.{add-one}
use native.Mathlib.Omega.{arith}
use lib.ListN.{length, take, drop, length-map, length-append}
use lib.Seq.{take_all}
use Rattle.field.specs.Modulus.{p}
use Rattle.field.specs.Arithmetic.{difference, product}
use Rattle.field.specs.Element.{Element, element}
use Rattle.field.proofs.Expression.{A, B, C, ◌:*◌, Same}
use Rattle.field.proofs.Ring.{one_mul}
use Rattle.field.proofs.Solver.{solve}
use Rattle.field.proofs.Elements.{𝓡, elements, element_zero, element_one, element_sum, element_product, element_negative, element_injective}
use Rattle.field.proofs.Modular.{product_below, product_one}
use Rattle.poly.specs.Counting.{All}
use Rattle.poly.specs.Interpolation.{nodal, interpolated}
use Rattle.inverses.specs.InverseTable.{most}
use Rattle.barycentric.specs.Nodes.{Rising, last_of, missing, following}
use Rattle.poly.specs.Polynomial.{weighted}
use Rattle.barycentric.specs.Weights.{alternating, node_weight, firsts, Prepared}
use Rattle.poly.proofs.Lists.{all_of, all_map, map_same}
use Rattle.poly.proofs.Bounds.{interpolated_below}
use Rattle.poly.proofs.Coefficients.{ev}
use Rattle.poly.proofs.Lagrange.{Passes, through, through_passes}
use Rattle.poly.proofs.Numbers.{to_elements, element_nodal, element_interpolated, distinct_elements}
use Rattle.barycentric.proofs.Sums.{sum_over, sum_over_same}
use Rattle.barycentric.proofs.Pascal.{pascal}
use Rattle.barycentric.proofs.Barycentric.{Kills, at_first}
use Rattle.barycentric.proofs.Gaps.{length_following, following_end, length_missing, gapped, gapped_kills}
use Rattle.barycentric.proofs.Alternating.{element_suc, element_node_weight, alternating_below}
use Rattle.barycentric.proofs.Ascent.{rising_distinct, rising_elements, missing_between}
use Rattle.barycentric.proofs.Rows.{length_firsts}
open 𝓡 use {add as ◌⊕◌, mul as ◌⊗◌, neg, zero as 0ᴱ, one as 1ᴱ, mul_one}

infixl 65 ◌⊕◌
infixl 70 ◌⊗◌
-- the elements' weights of rising nodes
abbrev pub δ : List ℕ → ℕ → Element
δ xs = gapped elements element element_zero element_suc (last_of 0 xs) (missing 0 xs)

pub δ_kills : (xs : List ℕ) → Rising 0 xs → Kills elements element (δ xs) (0 ∷ xs) (length xs)
δ_kills = gapped_kills elements element element_zero element_suc

-- the polynomial through the values
module _ (xs ys : List ℕ) (r : Rising 0 xs) (small : last_of 0 xs < p) (same : length xs ≡ length ys) where
  pub passing : List Element
  passing = through elements (to_elements xs) (to_elements ys)

  pub passing_passes : Passes elements (to_elements xs) (to_elements ys) passing
  unfolding passing
  passing_passes =
      through_passes elements (to_elements xs) (to_elements ys) (length-map xs element ∙ same ∙ sym (length-map ys element))
      (distinct_elements xs (rising_elements 0 xs r small) (rising_distinct 0 xs r))

  pub passing_few : length passing ≤ length xs
  passing_few = omega (arith, passing_passes.few, length-map xs element)

  pub passing_at : (z : ℕ) → element (interpolated xs ys z) ≡ ev 𝓡 passing (element z)
  passing_at z = element_interpolated xs ys z ∙ passing_passes.is (element z)

-- a sum of products with the weights
pub weighted_nodes : (w : ℕ → ℕ) (f : List Element) (xs ys : List ℕ) → map (ev 𝓡 f) (to_elements xs) ≡ to_elements ys
    → element (weighted ys (map w xs)) ≡ sum_over 𝓡 (λ x. element (w x) ⊗ ev 𝓡 f (element x)) xs
unfolding weighted sum_over
weighted_nodes w f [] [] e = element_zero
weighted_nodes w f [] (y ∷ ys) e = let q : ◌≡◌ {A = List Element} [] (element y ∷ to_elements ys) = e in cc
weighted_nodes w f (x ∷ xs) [] e = let q : ◌≡◌ {A = List Element} (ev 𝓡 f (element x) ∷ map (ev 𝓡 f) (to_elements xs)) [] = e in cc
weighted_nodes w f (x ∷ xs) (y ∷ ys) e =
    let h : ev 𝓡 f (element x) ≡ element y = cc in
    let t : map (ev 𝓡 f) (to_elements xs) ≡ to_elements ys = cc in
    element_sum _ _
    ∙ ap₂ ◌⊕◌ (element_product y (w x) ∙ 𝓡.mul_comm _ _ ∙ ap (λ (u : Element). element (w x) ⊗ u) (sym h)) (weighted_nodes w f xs ys t)

module _ (xs ys : List ℕ) (r : Rising 0 xs) (small : last_of 0 xs < p) (same : length xs ≡ length ys) where
  -- the sum over the nodes, as the code takes it
  pub node_sum : element (weighted ys (map (node_weight (last_of 0 xs) (missing 0 xs)) xs))
      ≡ sum_over 𝓡 (λ x. δ xs x ⊗ ev 𝓡 (passing xs ys r small same) (element x)) xs
  node_sum =
      weighted_nodes w f xs ys (passing_passes xs ys r small same).meets
      ∙ sum_over_same 𝓡 _ (λ x. δ xs x ⊗ ev 𝓡 f (element x)) xs
      (all_of (λ x. ap (λ (u : Element). u ⊗ ev 𝓡 f (element x)) (element_node_weight (last_of 0 xs) (missing 0 xs) x)) xs)
    where
      w : ℕ → ℕ
      w = node_weight (last_of 0 xs) (missing 0 xs)

      f : List Element
      f = passing xs ys r small same

  -- the weight of 0
  pub first_weight : δ xs 0 ≡ element (nodal (missing 0 xs) 0)
  unfolding pascal
  first_weight = one_mul 𝓡 _ ∙ sym (element_nodal (missing 0 xs) 0)

  pub at_zero : (s d v : ℕ) → s ≡ weighted ys (map (node_weight (last_of 0 xs) (missing 0 xs)) xs) → product d (nodal (missing 0 xs) 0) ≡ 1
      → v ≡ product (difference 0 s) d → v ≡ interpolated xs ys 0
  unfolding Same
  at_zero s d v es ed q =
      element_injective v (interpolated xs ys 0) (rw q (product_below _ d)) (interpolated_below xs ys 0)
      (ap element q ∙ element_product _ d
      ∙ ap (λ (u : Element). u ⊗ element d) (element_negative s ∙ ap neg (ap element es ∙ node_sum))
      ∙ ap (λ (u : Element). u ⊗ element d) (sym (at_first elements element (δ xs) 0 xs (δ_kills xs r) f (passing_few xs ys r small same)))
      ∙ ap (λ (u : Element). u ⊗ value ⊗ element d) first_weight
      ∙ solve 𝓡 (element (nodal (missing 0 xs) 0) ∷ value ∷ element d ∷ []) (A :* B :* C) (B :* (C :* A)) refl
      ∙ ap (λ (u : Element). value ⊗ u) (sym (element_product d _) ∙ ap element ed ∙ element_one) ∙ mul_one value
      ∙ sym (passing_at xs ys r small same 0))
    where
      f : List Element
      f = passing xs ys r small same

      value : Element
      value = ev 𝓡 f (element 0)

-- the weights behind the first
pub behind_first : (l : List ℕ) (w : ℕ → ℕ) (xs : List ℕ) (k : ℕ) → take (k + 1) l ≡ map w (0 ∷ xs) → take (k + 1 - 1) (drop 1 l) ≡ map w xs
behind_first l w xs k e =
    let q : k + 1 - 1 ≡ k = omega arith in
    ap (λ (n : ℕ). take n (drop 1 l)) q ∙ go l (ap (λ (n : ℕ). take n l) (sym (add-one k)) ∙ e)
  where
    go : (l : List ℕ) → take (suc k) l ≡ w 0 ∷ map w xs → take k (drop 1 l) ≡ map w xs
    go [] q = let z : ◌≡◌ {A = List ℕ} [] (w 0 ∷ map w xs) = q in cc
    go (y ∷ ys) q = cc

-- where nothing is missing, the weights of all numbers are the nodes'
no_missing : (a : ℕ) (xs : List ℕ) → Rising a xs → length (missing a xs) ≡ 0 → xs ≡ following a (length xs)
unfolding missing following
no_missing a [] r e = refl
no_missing a (x ∷ xs) r e =
    let s = length-append (following a (x - suc a)) (missing x xs) in
    let t = length_following a (x - suc a) in
    let q : x ≡ suc a = omega (arith, r.0) in
    ap₂ ◌∷◌ q (no_missing x xs r.1 (omega arith) ∙ ap (λ (k : ℕ). following k (length xs)) q)

firsts_following : (f : ℕ → ℕ) (n : ℕ) → firsts f (suc n) ≡ map f (0 ∷ following 0 n)
unfolding firsts following
firsts_following f ℕ.zero = refl
firsts_following f (suc n) =
    let q : suc n ≡ suc (0 + n) = omega arith in
    ap₂ (λ (l : List ℕ) (k : ℕ). l ++ (f k ∷ [])) (firsts_following f n) q ∙ sym (map-append f (0 ∷ following 0 n) (suc (0 + n) ∷ []))
    ∙ ap (λ (l : List ℕ). map f (0 ∷ l)) (sym (following_end 0 n))

empty : (l : List ℕ) → length l ≡ 0 → l ≡ []
empty [] e = refl
empty (x ∷ l) e = absurd (omega arith)

module _ (xs gaps : List ℕ) (r : Rising 0 xs) (none : length gaps ≡ 0) (room : length gaps + length xs ≡ last_of 0 xs) where
  nothing : missing 0 xs ≡ []
  nothing = empty (missing 0 xs) (omega (arith, length_missing 0 xs r))

  pub gaps_none : gaps ≡ missing 0 xs
  gaps_none = empty gaps none ∙ sym nothing

  pub weights_all : (l : List ℕ) (n : ℕ) → n ≡ last_of 0 xs + 1 → l ≡ firsts (alternating (n - 1)) n
      → take (length xs + 1) l ≡ map (node_weight (last_of 0 xs) (missing 0 xs)) (0 ∷ xs)
  unfolding node_weight nodal
  weights_all l n en e =
      let m : n - 1 ≡ last_of 0 xs = omega arith in
      let k : n ≡ suc (length xs) = omega arith in
      ap (take (length xs + 1)) (e ∙ ap₂ (λ (a b : ℕ). firsts (alternating a) b) m k ∙ firsts_following (alternating (last_of 0 xs)) (length xs))
      ∙ take_all (length xs + 1) _ (omega (arith, length-map (0 ∷ following 0 (length xs)) (alternating (last_of 0 xs)), length_following 0 (length xs)))
      ∙ ap (λ (s : List ℕ). map (alternating (last_of 0 xs)) (0 ∷ s)) (sym (no_missing 0 xs r (ap length nothing)))
      ∙ map_same _ (λ x. product (alternating (last_of 0 xs) x) 1) (0 ∷ xs)
      (all_of (λ x. sym (product_one (alternating (last_of 0 xs) x) (alternating_below (last_of 0 xs) x))) (0 ∷ xs))
      ∙ ap (λ (gs : List ℕ). map (λ x. product (alternating (last_of 0 xs) x) (nodal gs x)) (0 ∷ xs)) (sym nothing)

-- what joins the functions of the code
pub missing_few : (xs gs : List ℕ) → Rising 0 xs → last_of 0 xs ≤ most → gs ≡ missing 0 xs → length gs ≤ most
missing_few xs gs r h e = omega (arith, ap length e, length_missing 0 xs r)

pub weights_of : (xs gs hs l : List ℕ) (m : ℕ) → gs ≡ hs → take (length xs + 1) l ≡ map (node_weight m gs) (0 ∷ xs)
    → take (length xs + 1) l ≡ map (node_weight m hs) (0 ∷ xs)
weights_of xs gs hs l m q e = e ∙ ap (λ (g : List ℕ). map (node_weight m g) (0 ∷ xs)) q

module _ (xs t gs l₀ : List ℕ) (prepared : Prepared xs t gs l₀) where
  pub gap_count : length gs ≡ length (missing 0 xs)
  gap_count = omega (arith, prepared.gap_room, length_missing 0 xs prepared.rising)

  pub row_length_is : (l : List ℕ) (n : ℕ) → n ≡ length l₀ → l ≡ firsts (alternating (n - 1)) n → length l ≡ last_of 0 xs + 1
  row_length_is l n q e = omega (arith, ap length e, length_firsts (alternating (n - 1)) n, prepared.room)

  pub row_of_last : (l : List ℕ) (n : ℕ) → n ≡ length l₀ → l ≡ firsts (alternating (n - 1)) n → l ≡ firsts (alternating (last_of 0 xs)) (length l)
  row_of_last l n q e =
      let h = row_length_is l n q e in
      let m : n - 1 ≡ last_of 0 xs = omega (arith, prepared.room) in
      let k : n ≡ length l = omega (arith, prepared.room) in
      e ∙ ap₂ (λ (a b : ℕ). firsts (alternating a) b) m k

  pub gaps_within : (hs : List ℕ) → hs ≡ missing 0 xs → All (λ x. (0 < x) × (x ≤ length t)) hs
  gaps_within hs q =
      rw q
      (all_map (λ g b. (b.0, omega (arith, b.1, prepared.within))) (missing 0 xs) (missing_between 0 xs prepared.rising))

  pub zero_found : (ys hs l : List ℕ) (s e d v : ℕ) → length ys ≡ length xs → hs ≡ missing 0 xs
      → take (length xs + 1) l ≡ map (node_weight (last_of 0 xs) (missing 0 xs)) (0 ∷ xs) → s ≡ weighted ys (take (length xs + 1 - 1) (drop 1 l))
      → e ≡ difference 0 s → product d (nodal hs 0) ≡ 1 → v ≡ product e d → v ≡ interpolated xs ys 0
  zero_found ys hs l s e d v same eh el es ee ed ev =
      at_zero xs ys prepared.rising (omega (arith, prepared.within, prepared.table.short)) (sym same) s d v
      (es ∙ ap (weighted ys) (behind_first l (node_weight (last_of 0 xs) (missing 0 xs)) xs (length xs) el))
      (ap (λ (g : List ℕ). product d (nodal g 0)) (sym eh) ∙ ed) (ev ∙ ap (λ (u : ℕ). product u d) ee)
