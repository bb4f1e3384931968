-- The turns of `agreement::spread`: numbers that are put into a cleared list at their nodes' places, 0 where a number is missing.
use Prim.Native.Nat.{ℕ, suc, ◌+◌, ◌-◌, ◌*◌, ◌%◌, ◌≤◌, ◌<◌}
use mathlib.Core.Path.{◌≡◌, refl, sym, ◌∙◌, ap, ap₂, subst}
use mathlib.Core.List.{List, [], ◌∷◌, map}
use native.Mathlib.Nat.{le_of_suc-le-suc, not-suc-le-zero, zero-mul, mul-zero, mod-eq_of_lt}
use native.Mathlib.Numerals.{add-one}
use native.Mathlib.Decide.{dec_lt}
use native.Mathlib.Omega.{arith}
use lib.ListN.{length, take, get_or, set, replicate, length-set, length-replicate, get_or-replicate}
use lib.Seq.{take_all, get_or-take, get_or-set_same, get_or-set_other, ext_get_or}
use Rattle.field.specs.Modulus.{p}
use Rattle.field.specs.Arithmetic.{difference, product}
use Rattle.field.specs.Element.{Element, element}
use Rattle.field.proofs.Elements.{𝓡, element_product, element_injective}
use Rattle.field.proofs.Modular.{product_below}
use Rattle.poly.specs.Interpolation.{nodal, interpolated}
use Rattle.inverses.specs.InverseTable.{most}
use Rattle.barycentric.specs.Nodes.{Rising, last_of, missing, following}
use Rattle.barycentric.specs.Weights.{node_weight, firsts}
use Rattle.agreement.specs.Sums.{Weighed}
use Rattle.poly.proofs.Turns.{nodal_join}
use Rattle.poly.proofs.Coefficients.{ev}
use Rattle.poly.proofs.Numbers.{to_elements}
use Rattle.barycentric.proofs.Rows.{length_firsts, firsts_at}
use Rattle.barycentric.proofs.Ascent.{rising_next, rising_count, rising_last, last_of_take}
use Rattle.barycentric.proofs.Zero.{passing, passing_passes, passing_at}

-- a number between two nodes that follow each other is missing: the product over the missing ones is 0 there
product_zero : (a b : ℕ) → a ≡ 0 → product a b ≡ 0
unfolding product
product_zero a b e = ap (λ (u : ℕ). u * b % p) e ∙ ap (λ (u : ℕ). u % p) (zero-mul b)

zero_product : (a b : ℕ) → b ≡ 0 → product a b ≡ 0
unfolding product
zero_product a b e = ap (λ (u : ℕ). a * u % p) e ∙ ap (λ (u : ℕ). u % p) (mul-zero a)

self_difference : (x : ℕ) → x < p → difference x x ≡ 0
unfolding difference
self_difference x h =
    let s : x % p ≡ x = mod-eq_of_lt h in
    let q : x + (p - x % p) ≡ p = omega arith in
    ap (λ (u : ℕ). u % p) q

nodal_following : (a n x : ℕ) → a < x → x ≤ a + n → x < p → nodal (following a n) x ≡ 0
unfolding nodal following
nodal_following a ℕ.zero x h k l = absurd (omega arith)
nodal_following a (suc n) x h k l = go (dec_lt (suc a) x) (λ b. nodal_following (suc a) n x b (omega arith) l)
  where
    go : Dec (suc a < x) → (suc a < x → nodal (following (suc a) n) x ≡ 0) → product (difference x (suc a)) (nodal (following (suc a) n) x) ≡ 0
    go (yes b) ih = zero_product _ _ (ih b)
    go (no b) ih =
        let q : suc a ≡ x = omega arith in
        product_zero _ _ (ap (difference x) q ∙ self_difference x l)

nodal_missing : (a : ℕ) (xs : List ℕ) (i x : ℕ) → Rising a xs → i < length xs → last_of a (take i xs) < x → x < get_or xs i 0 → x < p
    → nodal (missing a xs) x ≡ 0
unfolding missing
nodal_missing a [] i x r h b c l = absurd (not-suc-le-zero h)
nodal_missing a (y ∷ ys) ℕ.zero x r h b c l =
    sym (nodal_join (following a (y - suc a)) (missing y ys) x) ∙ product_zero _ _ (nodal_following a (y - suc a) x b (omega arith) l)
nodal_missing a (y ∷ ys) (suc i) x r h b c l =
    sym (nodal_join (following a (y - suc a)) (missing y ys) x)
    ∙ zero_product _ _ (nodal_missing y ys i x r.1 (le_of_suc-le-suc h) b c l)

pub weight_missing : (xs : List ℕ) (i x : ℕ) → Rising 0 xs → last_of 0 xs ≤ most → i < length xs → last_of 0 (take i xs) < x → x < get_or xs i 0
    → node_weight (last_of 0 xs) (missing 0 xs) x ≡ 0
unfolding node_weight
weight_missing xs i x r low h b c =
    zero_product _ _ (nodal_missing 0 xs i x r h b c (omega (arith, rising_last 0 xs i r h)))

-- c x is to stand at the place of x
module _ (c : ℕ → ℕ) (xs : List ℕ) where
  pub record Scattered (l : List ℕ) (i : ℕ) : Type 0 where
    pub passed : i ≤ length xs
    pub sized : length l ≡ suc (last_of 0 xs)
    pub done : (x : ℕ) → x ≤ last_of 0 (take i xs) → x ≤ last_of 0 xs → get_or l (last_of 0 xs - x) 0 ≡ c x
    pub to_come : (x : ℕ) → last_of 0 (take i xs) < x → x ≤ last_of 0 xs → get_or l (last_of 0 xs - x) 0 ≡ 0

  scattered_first : (l : List ℕ) (v : ℕ) → l ≡ replicate (suc (last_of 0 xs)) 0 → v ≡ c 0 → Scattered (set l (last_of 0 xs) v) 0
  scattered_first l v e ev = record {
    passed = omega arith;
    sized = length-set l (last_of 0 xs) v ∙ size;
    done = λ x a b. (let q : last_of 0 xs - x ≡ last_of 0 xs = omega arith in let z : 0 ≡ x = omega arith in
        ap (λ (k : ℕ). get_or (set l (last_of 0 xs) v) k 0) q ∙ get_or-set_same l (last_of 0 xs) v 0 (omega (arith, size)) ∙ ev ∙ ap c z);
    to_come = λ x a b. get_or-set_other l (last_of 0 xs) (last_of 0 xs - x) v 0 (λ z. absurd (omega arith))
        ∙ ap (λ (s : List ℕ). get_or s (last_of 0 xs - x) 0) e ∙ get_or-replicate (suc (last_of 0 xs)) (last_of 0 xs - x) 0 0 (omega arith);
  }
    where
      size : length l ≡ suc (last_of 0 xs)
      size = ap length e ∙ length-replicate (suc (last_of 0 xs)) 0

  pub scattered_start : (l : List ℕ) (v last : ℕ) → last ≡ last_of 0 xs → l ≡ replicate (suc (last_of 0 xs)) 0 → v ≡ c 0 → Scattered (set l last v) 0
  scattered_start l v last q e ev = subst (λ (k : ℕ). Scattered (set l k v) 0) (sym q) (scattered_first l v e ev)

  scattered_next : (l : List ℕ) (i v : ℕ) → Rising 0 xs → ((x : ℕ) → last_of 0 (take i xs) < x → x < get_or xs i 0 → c x ≡ 0) → Scattered l i → i < length xs
      → v ≡ c (get_or xs i 0) → Scattered (set l (last_of 0 xs - get_or xs i 0) v) (i + 1)
  scattered_next l i v r gap t h ev = record {
    passed = omega arith;
    sized = length-set l (last_of 0 xs - node) v ∙ t.sized;
    done = λ x a b. placed x b (dec_lt x node) (omega (arith, now));
    to_come = λ x a b. get_or-set_other l (last_of 0 xs - node) (last_of 0 xs - x) v 0 (λ z. absurd (omega (arith, now, most)))
        ∙ t.to_come x (omega (arith, now, before)) b;
  }
    where
      node : ℕ
      node = get_or xs i 0

      most : node ≤ last_of 0 xs
      most = rising_last 0 xs i r h

      before : last_of 0 (take i xs) < node
      before = rising_next 0 xs i r h

      now : last_of 0 (take (i + 1) xs) ≡ node
      now = ap (λ (k : ℕ). last_of 0 (take k xs)) (add-one i) ∙ last_of_take 0 xs i h

      earlier : (x : ℕ) → x < node → x ≤ last_of 0 xs → Dec (last_of 0 (take i xs) < x) → get_or l (last_of 0 xs - x) 0 ≡ c x
      earlier x a b (yes q) = t.to_come x q b ∙ sym (gap x q a)
      earlier x a b (no q) = t.done x (omega arith) b

      placed : (x : ℕ) → x ≤ last_of 0 xs → Dec (x < node) → x ≤ node → get_or (set l (last_of 0 xs - node) v) (last_of 0 xs - x) 0 ≡ c x
      placed x b (yes a) k =
          get_or-set_other l (last_of 0 xs - node) (last_of 0 xs - x) v 0 (λ z. absurd (omega (arith, most))) ∙ earlier x a b (dec_lt (last_of 0 (take i xs)) x)
      placed x b (no a) k =
          let q : x ≡ node = omega arith in
          ap (λ (u : ℕ). get_or (set l (last_of 0 xs - node) v) (last_of 0 xs - u) 0) q
          ∙ get_or-set_same l (last_of 0 xs - node) v 0 (omega (arith, t.sized)) ∙ ev ∙ ap c (sym q)

  pub scattered_turn : (l : List ℕ) (i v last node : ℕ) → Rising 0 xs → ((x : ℕ) → last_of 0 (take i xs) < x → x < get_or xs i 0 → c x ≡ 0)
      → last ≡ last_of 0 xs → node ≡ get_or xs i 0 → Scattered l i → i < length xs → v ≡ c (get_or xs i 0) → Scattered (set l (last - node) v) (i + 1)
  scattered_turn l i v last node r gap el en t h ev =
      subst (λ (k : ℕ). Scattered (set l k v) (i + 1)) (sym (ap₂ ◌-◌ el en)) (scattered_next l i v r gap t h ev)

  pub scattered_end : (l : List ℕ) (i : ℕ) → Scattered l i → length xs ≤ i → l ≡ firsts (λ j. c (last_of 0 xs - j)) (suc (last_of 0 xs))
  scattered_end l i t h =
      ext_get_or 0 l (firsts (λ j. c (last_of 0 xs - j)) (suc (last_of 0 xs))) (t.sized ∙ sym (length_firsts _ (suc (last_of 0 xs))))
      (λ j b. (let q : last_of 0 xs - (last_of 0 xs - j) ≡ j = omega (arith, t.sized) in
      ap (λ (k : ℕ). get_or l k 0) (sym q) ∙ t.done (last_of 0 xs - j) (omega (arith, all)) (omega arith)
      ∙ sym (firsts_at (λ j. c (last_of 0 xs - j)) (suc (last_of 0 xs)) j (omega (arith, t.sized)))))
    where
      all : last_of 0 (take i xs) ≡ last_of 0 xs
      all = ap (last_of 0) (take_all i xs h)

-- what is put into the two lists
get_or_map_at : (w : ℕ → ℕ) (xs : List ℕ) (i : ℕ) → i < length xs → get_or (map w xs) i 0 ≡ w (get_or xs i 0)
get_or_map_at w [] i h = absurd (not-suc-le-zero h)
get_or_map_at w (x ∷ xs) ℕ.zero h = refl
get_or_map_at w (x ∷ xs) (suc i) h = get_or_map_at w xs i (le_of_suc-le-suc h)

meets_at : (g : Element → Element) (xs ys : List ℕ) (i : ℕ) → map g (to_elements xs) ≡ to_elements ys → i < length xs → i < length ys
    → g (element (get_or xs i 0)) ≡ element (get_or ys i 0)
meets_at g [] ys i e h k = absurd (not-suc-le-zero h)
meets_at g (x ∷ xs) [] i e h k = absurd (not-suc-le-zero k)
meets_at g (x ∷ xs) (y ∷ ys) ℕ.zero e h k = let q : g (element x) ≡ element y = cc in q
meets_at g (x ∷ xs) (y ∷ ys) (suc i) e h k =
    let q : map g (to_elements xs) ≡ to_elements ys = cc in meets_at g xs ys i q (le_of_suc-le-suc h) (le_of_suc-le-suc k)

module _ (xs ys : List ℕ) (v : ℕ) (ws : List ℕ) (weighed : Weighed xs ys v ws) where
  abbrev w : ℕ → ℕ
  w = node_weight (last_of 0 xs) (missing 0 xs)

  read : (i : ℕ) → i < length xs + 1 → get_or ws i 0 ≡ get_or (map w (0 ∷ xs)) i 0
  read i h = sym (get_or-take (length xs + 1) ws i 0 h) ∙ ap (λ (l : List ℕ). get_or l i 0) weighed.weights_are

  pub weight_first : get_or ws 0 0 ≡ w 0
  weight_first = read 0 (omega arith)

  pub weight_next : (i : ℕ) → i < length xs → get_or ws (i + 1) 0 ≡ w (get_or xs i 0)
  weight_next i h = read (i + 1) (omega arith) ∙ ap (λ (k : ℕ). get_or (map w (0 ∷ xs)) k 0) (add-one i) ∙ get_or_map_at w xs i h

  pub top_first : (u : ℕ) → u ≡ product (get_or ws 0 0) v → u ≡ product (w 0) (interpolated xs ys 0)
  top_first u e = e ∙ ap₂ product weight_first weighed.at_zero

  pub top_next : (i u : ℕ) → i < length xs → u ≡ product (get_or ws (i + 1) 0) (get_or ys i 0)
      → u ≡ product (w (get_or xs i 0)) (interpolated xs ys (get_or xs i 0))
  top_next i u h e =
      e ∙ ap (λ (k : ℕ). product k (get_or ys i 0)) (weight_next i h)
      ∙ element_injective _ _ (product_below _ _) (product_below _ _)
      (element_product _ _ ∙ ap (λ (k : Element). 𝓡.mul (element (w (get_or xs i 0))) k) value ∙ sym (element_product _ _))
    where
      small : last_of 0 xs < p
      small = omega (arith, weighed.low)

      value : element (get_or ys i 0) ≡ element (interpolated xs ys (get_or xs i 0))
      value =
          sym (meets_at (ev 𝓡 (passing xs ys weighed.rising small (sym weighed.same))) xs ys i
          (passing_passes xs ys weighed.rising small (sym weighed.same)).meets h (omega (arith, weighed.same)))
          ∙ sym (passing_at xs ys weighed.rising small (sym weighed.same) (get_or xs i 0))

  pub bottom_gap : (i x : ℕ) → i < length xs → last_of 0 (take i xs) < x → x < get_or xs i 0 → w x ≡ 0
  bottom_gap i x h = weight_missing xs i x weighed.rising weighed.low h

  pub top_gap : (i x : ℕ) → i < length xs → last_of 0 (take i xs) < x → x < get_or xs i 0 → product (w x) (interpolated xs ys x) ≡ 0
  top_gap i x h a b = product_zero _ _ (bottom_gap i x h a b)

  pub node_in : (i : ℕ) → i < length xs → get_or xs i 0 ≤ last_of 0 xs
  node_in i h = rising_last 0 xs i weighed.rising h

  pub weight_in : (i : ℕ) → i < length xs → i + 1 < length ws
  weight_in i h =
      omega (arith, rising_last 0 xs i weighed.rising h, rising_next 0 xs i weighed.rising h, rising_count 0 xs i weighed.rising (omega arith), weighed.room)
