-- The turns of the loops in src/lib.rt that find the missing numbers and weigh the nodes, as facts about plain lists and numbers.
use Prim.Native.Nat.{ℕ, suc, ◌+◌, ◌≤◌, ◌<◌}
use mathlib.Core.Path.{◌≡◌, refl, sym, ◌∙◌, ap, ap₂, subst}
use mathlib.Core.List.{List, [], ◌∷◌, ◌++◌, append_assoc, append-nil, map, map-append}
use native.Mathlib.Nat.{le_of_suc-le-suc, not-suc-le-zero}
use native.Mathlib.Decide.{dec_lt}
use native.Mathlib.Numerals.{add-one}
use native.Mathlib.Omega.{arith}
use lib.ListN.{length, take, drop, get_or, set, length-set, drop_of_length-le}
use lib.Seq.{drop-cons, take-suc, take-suc-set, take_all, take-append-le, length-take-le, get_or-set_other, get_or-take}
use Rattle.field.specs.Arithmetic.{difference, product}
use Rattle.field.proofs.Modular.{difference_below, product_assoc, product_comm, product_one}
use Rattle.poly.specs.Interpolation.{nodal}
use Rattle.barycentric.specs.Nodes.{Rising, last_of, missing}
use Rattle.inverses.specs.InverseTable.{most}
use Rattle.barycentric.specs.Weights.{alternating, mirrored, spans, above, weight_to, firsts, Weighing}
use Rattle.poly.proofs.Bounds.{nodal_below}
use Rattle.poly.proofs.Turns.{nodal_join}
use Rattle.barycentric.proofs.Alternating.{mirrored_below}
use Rattle.barycentric.proofs.Rows.{firsts_read}
use Rattle.barycentric.proofs.Pairs.{spans_below, weight_start}
use Rattle.barycentric.proofs.Ascent.{rising_next, rising_count, rising_last, last_of_take, missing_node, missing_gap}

-- j missing numbers are found, i nodes passed
module _ (xs : List ℕ) where
  pub record Finding (n : ℕ) (l : List ℕ) (i j : ℕ) : Type 0 where
    pub passed : i ≤ length xs
    pub found : j ≤ n
    pub sized : length l ≡ n
    pub rest : Rising (i + j) (drop i xs)
    pub whole : take j l ++ missing (i + j) (drop i xs) ≡ missing 0 xs

  pub finding_start : (l : List ℕ) → Rising 0 xs → Finding (length l) l 0 0
  finding_start l r = record { passed = omega arith; found = omega arith; sized = refl; rest = r; whole = refl }

  -- a node is left while numbers are missing
  pub finding_more : (n : ℕ) (l : List ℕ) (i j : ℕ) → n ≡ length (missing 0 xs) → Finding n l i j → j < n → i < length xs
  unfolding missing
  finding_more n l i j e t h = go (dec_lt i (length xs))
    where
      go : Dec (i < length xs) → i < length xs
      go (yes k) = k
      go (no k) =
          let b : length xs ≤ i = omega arith in
          let w : take j l ++ [] ≡ missing 0 xs = rw (drop_of_length-le xs b) at t.whole in
          let s : length (take j l ++ []) ≡ n = ap length w ∙ sym e in
          absurd (omega (arith, ap length (append-nil (take j l)), length-take-le j l (omega (arith, t.sized, t.found))))

  next_node : (n : ℕ) (l : List ℕ) (i j : ℕ) → Finding n l i j → i < length xs → Rising (i + j) (get_or xs i 0 ∷ drop (suc i) xs)
  next_node n l i j t h = rw (drop-cons xs i 0 h) at t.rest

  pub finding_above : (n : ℕ) (l : List ℕ) (i j : ℕ) → n ≡ length (missing 0 xs) → Finding n l i j → j < n → i + j < get_or xs i 0
  finding_above n l i j e t h = (next_node n l i j t (finding_more n l i j e t h)).0

  pub finding_node : (n : ℕ) (l : List ℕ) (i j : ℕ) → n ≡ length (missing 0 xs) → Finding n l i j → j < n → get_or xs i 0 ≡ i + j + 1
      → Finding n l (i + 1) j
  finding_node n l i j en t k e =
      let h : i < length xs = finding_more n l i j en t k in
      let q : get_or xs i 0 ≡ i + 1 + j = omega arith in record {
        passed = omega arith;
        found = t.found;
        sized = t.sized;
        rest = subst (λ (k : ℕ). Rising k (drop (i + 1) xs)) q
            (subst (λ (k : ℕ). Rising (get_or xs i 0) (drop k xs)) (sym (add-one i)) (next_node n l i j t h).1);
        whole = ap (λ (k : ℕ). take j l ++ missing k (drop (i + 1) xs)) (sym q)
            ∙ ap (λ (k : ℕ). take j l ++ missing (get_or xs i 0) (drop k xs)) (add-one i)
            ∙ ap (λ (s : List ℕ). take j l ++ s) (sym (missing_node (i + j) (get_or xs i 0) (drop (suc i) xs) e))
            ∙ ap (λ (s : List ℕ). take j l ++ missing (i + j) s) (sym (drop-cons xs i 0 h)) ∙ t.whole;
      }

  pub finding_gap : (n : ℕ) (l : List ℕ) (i j : ℕ) → n ≡ length (missing 0 xs) → Finding n l i j → j < n → (get_or xs i 0 ≡ i + j + 1 → ⊥)
      → Finding n (set l j (i + j + 1)) i (j + 1)
  finding_gap n l i j en t k e =
      let h : i < length xs = finding_more n l i j en t k in
      let low : i + j < get_or xs i 0 = finding_above n l i j en t k in
      let q : i + j + 1 ≡ i + (j + 1) = omega arith in
      let w = next_node n l i j t h in
      let place : j < length l = omega (arith, t.sized) in record {
        passed = t.passed;
        found = omega arith;
        sized = length-set l j (i + j + 1) ∙ t.sized;
        rest = rw (drop-cons xs i 0 h) (omega arith, w.1);
        whole = ap (λ (k : ℕ). take k (set l j (i + j + 1)) ++ missing (i + (j + 1)) (drop i xs)) (add-one j)
            ∙ ap (λ (s : List ℕ). s ++ missing (i + (j + 1)) (drop i xs)) (take-suc-set l j (i + j + 1) place)
            ∙ append_assoc (take j l) ((i + j + 1) ∷ []) (missing (i + (j + 1)) (drop i xs))
            ∙ ap (λ (k : ℕ). take j l ++ ((i + j + 1) ∷ missing k (drop i xs))) (sym q)
            ∙ ap (λ (s : List ℕ). take j l ++ ((i + j + 1) ∷ missing (i + j + 1) s)) (drop-cons xs i 0 h)
            ∙ ap (λ (s : List ℕ). take j l ++ s) (sym (missing_gap (i + j) (get_or xs i 0) (drop (suc i) xs) (omega arith)))
            ∙ ap (λ (s : List ℕ). take j l ++ missing (i + j) s) (sym (drop-cons xs i 0 h)) ∙ t.whole;
      }

  pub finding_end : (n : ℕ) (l : List ℕ) (i j : ℕ) → n ≡ length (missing 0 xs) → Finding n l i j → n ≤ j → l ≡ missing 0 xs
  finding_end n l i j e t h =
      let all : take j l ≡ l = take_all j l (omega (arith, t.sized)) in
      let w : l ++ missing (i + j) (drop i xs) ≡ missing 0 xs = rw all at t.whole in
      sym (take_all n l (omega (arith, t.sized))) ∙ sym (take-append-le n l (missing (i + j) (drop i xs)) (omega (arith, t.sized)))
      ∙ ap (take n) w ∙ take_all n (missing 0 xs) (omega arith)

-- numbers w 0 and w x of the first i nodes x at the front of a list
module _ (xs : List ℕ) (w : ℕ → ℕ) where
  abbrev pub Front : List ℕ → ℕ → Type 0
  Front l i = take (i + 1) l ≡ map w (0 ∷ take i xs)

  pub front_start : (l : List ℕ) (v : ℕ) → 0 < length l → v ≡ w 0 → Front (set l 0 v) 0
  front_start l v h e = take-suc-set l 0 v h ∙ ap (λ (u : ℕ). u ∷ []) e

  pub front_turn : (l : List ℕ) (i v : ℕ) → i < length xs → i + 1 < length l → Front l i → v ≡ w (get_or xs i 0) → Front (set l (i + 1) v) (i + 1)
  front_turn l i v h k f e =
      ap (λ (n : ℕ). take n (set l (i + 1) v)) (add-one (i + 1)) ∙ take-suc-set l (i + 1) v k
      ∙ ap₂ (λ (s : List ℕ) (u : ℕ). s ++ (u ∷ [])) f e
      ∙ sym (map-append w (0 ∷ take i xs) (get_or xs i 0 ∷ []))
      ∙ ap (λ (s : List ℕ). map w (0 ∷ s)) (sym (take-suc xs i 0 h) ∙ ap (λ (n : ℕ). take n xs) (sym (add-one i)))

  pub front_end : (l : List ℕ) (i : ℕ) → i ≤ length xs → length xs ≤ i → Front l i → take (length xs + 1) l ≡ map w (0 ∷ xs)
  front_end l i k h f =
      let q : i ≡ length xs = omega arith in
      ap (λ (n : ℕ). take (n + 1) l) (sym q) ∙ f ∙ ap (λ (s : List ℕ). map w (0 ∷ s)) (take_all i xs h)

  -- read at the front
  pub front_first : (l : List ℕ) → take (length xs + 1) l ≡ map w (0 ∷ xs) → get_or l 0 0 ≡ w 0
  front_first l e = sym (get_or-take (length xs + 1) l 0 0 (omega arith)) ∙ ap (λ (s : List ℕ). get_or s 0 0) e

  pub front_at : (l : List ℕ) (j : ℕ) → j < length xs → take (length xs + 1) l ≡ map w (0 ∷ xs) → get_or l (j + 1) 0 ≡ w (get_or xs j 0)
  front_at l j h e =
      sym (get_or-take (length xs + 1) l (j + 1) 0 (omega arith)) ∙ ap (λ (s : List ℕ). get_or s (j + 1) 0) e
      ∙ ap (λ (n : ℕ). get_or (map w (0 ∷ xs)) n 0) (add-one j) ∙ mapped xs j h
    where
      mapped : (ys : List ℕ) (i : ℕ) → i < length ys → get_or (map w ys) i 0 ≡ w (get_or ys i 0)
      mapped [] i b = absurd (not-suc-le-zero b)
      mapped (y ∷ ys) ℕ.zero b = refl
      mapped (y ∷ ys) (suc i) b = mapped ys i (le_of_suc-le-suc b)

-- the nodes' weights, with the distances to the first k gaps, are at the front, those of the numbers after the last node passed where they were
module _ (xs gaps : List ℕ) (k : ℕ) where
  pub record Moved (size : ℕ) (l : List ℕ) (i : ℕ) : Type 0 where
    pub passed : i ≤ length xs
    pub sized : length l ≡ size
    pub front : Front xs (weight_to (last_of 0 xs) gaps k) l i
    pub back : (y : ℕ) → last_of 0 (take i xs) < y → y < size → get_or l y 0 ≡ alternating (last_of 0 xs) y

  pub moved_start : (l : List ℕ) (n v : ℕ) → 0 < length l → l ≡ firsts (alternating (last_of 0 xs)) (length l) → n ≡ above gaps 0
      → v ≡ mirrored (n + 1) (spans (take k gaps) 0) → Moved (length (set l 0 v)) (set l 0 v) 0
  unfolding alternating
  moved_start l n v h e en ev = record {
    passed = omega arith;
    sized = refl;
    front = front_start xs (weight_to (last_of 0 xs) gaps k) l v h
        (weight_start (last_of 0 xs) gaps 0 k n v 1 v refl en ev
        (rw ev (sym (product_one _ (mirrored_below _ _ (spans_below _ 0))) ∙ product_comm _ 1)));
    back = λ y a b. get_or-set_other l 0 y v 0 (λ z. absurd (omega arith))
        ∙ firsts_read (alternating (last_of 0 xs)) l (length l) y (omega (arith, length-set l 0 v)) (take_all (length l) l (omega arith) ∙ e);
  }

  module _ (l₀ : List ℕ) (v₀ : ℕ) (l : List ℕ) (i : ℕ) (r : Rising 0 xs) (inside : last_of 0 xs < length l₀) (t : Moved (length (set l₀ 0 v₀)) l i)
      (h : i < length xs) where
    fits : last_of 0 xs < length (set l₀ 0 v₀)
    fits = omega (arith, length-set l₀ 0 v₀)

    pub node_after : i < get_or xs i 0
    node_after = omega (arith, rising_next 0 xs i r h, rising_count 0 xs i r t.passed)

    pub node_within : get_or xs i 0 < length l
    node_within = omega (arith, rising_last 0 xs i r h, t.sized, fits)

    pub place_within : i + 1 < length l
    place_within = omega (arith, node_after, node_within)

    pub moved_turn : (n b v : ℕ) → n ≡ above gaps (get_or xs i 0) → b ≡ mirrored (n + 1) (spans (take k gaps) (get_or xs i 0))
        → v ≡ product (get_or l (get_or xs i 0) 0) b → Moved (length (set l₀ 0 v₀)) (set l (i + 1) v) (i + 1)
    moved_turn n b v en eb ev = record {
      passed = omega arith;
      sized = length-set l (i + 1) v ∙ t.sized;
      front = front_turn xs (weight_to (last_of 0 xs) gaps k) l i v h place_within t.front
          (weight_start (last_of 0 xs) gaps (get_or xs i 0) k n b _ v
          (t.back (get_or xs i 0) (rising_next 0 xs i r h) (omega (arith, node_within, t.sized))) en eb ev);
      back = λ y a c. get_or-set_other l (i + 1) y v 0 (apart y a) ∙ t.back y (below y a) c;
    }
      where
        node_last : last_of 0 (take (i + 1) xs) ≡ get_or xs i 0
        node_last = ap (λ (k : ℕ). last_of 0 (take k xs)) (add-one i) ∙ last_of_take 0 xs i h

        apart : (y : ℕ) → last_of 0 (take (i + 1) xs) < y → y ≡ i + 1 → ⊥
        apart y a e = omega (arith, node_last, node_after)

        below : (y : ℕ) → last_of 0 (take (i + 1) xs) < y → last_of 0 (take i xs) < y
        below y a = omega (arith, node_last, rising_next 0 xs i r h)

  pub moved_end : (l₀ : List ℕ) (v₀ : ℕ) (l : List ℕ) (i : ℕ) → Rising 0 xs → last_of 0 xs ≤ most → gaps ≡ missing 0 xs → last_of 0 xs < length l₀
      → Moved (length (set l₀ 0 v₀)) l i → length xs ≤ i → Weighing xs gaps k l
  moved_end l₀ v₀ l i r m e inside t h = record {
    rising = r;
    within = m;
    those = e;
    room = omega (arith, t.sized, length-set l₀ 0 v₀, rising_count 0 xs (length xs) r (omega arith), ap (last_of 0) (take_all (length xs) xs (omega arith)));
    front = front_end xs (weight_to (last_of 0 xs) gaps k) l i t.passed h t.front;
  }

-- a running product of inverses
module _ (xs : List ℕ) where
  pub inverses_start : product 1 (nodal (take 0 xs) 0) ≡ 1
  unfolding nodal product
  inverses_start = refl

  pub inverses_turn : (i r s v : ℕ) → i < length xs → product r (nodal (take i xs) 0) ≡ 1 → product s (difference 0 (get_or xs i 0)) ≡ 1
      → v ≡ product r s → product v (nodal (take (i + 1) xs) 0) ≡ 1
  unfolding nodal
  inverses_turn i r s v h e es ev =
      ap₂ product ev
      (ap (λ (k : ℕ). nodal (take k xs) 0) (add-one i) ∙ ap (λ (l : List ℕ). nodal l 0) (take-suc xs i 0 h)
      ∙ sym (nodal_join (take i xs) (get_or xs i 0 ∷ []) 0) ∙ ap (product a) (product_one d (difference_below 0 _)))
      ∙ product_assoc r s (product a d) ∙ ap (product r) (sym (product_assoc s a d) ∙ ap (λ (u : ℕ). product u d) (product_comm s a) ∙ product_assoc a s d)
      ∙ ap (λ (u : ℕ). product r (product a u)) es ∙ ap (product r) (product_one a (nodal_below (take i xs) 0)) ∙ e
    where
      a : ℕ
      a = nodal (take i xs) 0

      d : ℕ
      d = difference 0 (get_or xs i 0)

  pub inverses_turn_two : (i r s u v w : ℕ) → i + 1 < length xs → product r (nodal (take i xs) 0) ≡ 1
      → product s (difference 0 (get_or xs i 0)) ≡ 1 → product u (difference 0 (get_or xs (i + 1) 0)) ≡ 1 → w ≡ product s u → v ≡ product r w
      → product v (nodal (take (i + 2) xs) 0) ≡ 1
  inverses_turn_two i r s u v w h e es eu ew ev =
      let q : i + 1 + 1 ≡ i + 2 = omega arith in
      rw q at
      (inverses_turn (i + 1) (product r s) u v (omega arith) (inverses_turn i r s (product r s) (omega arith) e es refl) eu
      (ev ∙ ap (product r) ew ∙ sym (product_assoc r s u)))

  pub inverses_end : (i r : ℕ) → length xs ≤ i → product r (nodal (take i xs) 0) ≡ 1 → product r (nodal xs 0) ≡ 1
  inverses_end i r h e = rw (take_all i xs h) at e

  pub inverses_last : (i r s v : ℕ) → i < length xs → length xs ≤ i + 1 → product r (nodal (take i xs) 0) ≡ 1
      → product s (difference 0 (get_or xs i 0)) ≡ 1 → v ≡ product r s → product v (nodal xs 0) ≡ 1
  inverses_last i r s v h k e es ev = inverses_end (i + 1) v k (inverses_turn i r s v h e es ev)
