-- The weights of 0 and the nodes gain their distances to four missing numbers at once: the turns of `weigh_four`, and what `weigh_nodes` ends with.
use Prim.Native.Nat.{ℕ, ◌+◌, ◌*◌, ◌≤◌, ◌<◌}
use mathlib.Core.Path.{◌≡◌, refl, ◌∙◌, ap}
use mathlib.Core.List.{List, ◌∷◌, map}
use native.Mathlib.Omega.{arith}
use lib.ListN.{length, take, get_or, set, length-set}
use lib.Seq.{take_all, get_or-set_other}
use Rattle.field.specs.Arithmetic.{product}
use Rattle.poly.proofs.Lists.{all_of, all_at, map_same}
use Rattle.inverses.specs.InverseTable.{most}
use Rattle.barycentric.specs.Nodes.{last_of}
use Rattle.barycentric.specs.Weights.{away, node_weight, weight_to, Weighing}
use Rattle.barycentric.proofs.Ascent.{rising_count, missing_small}
use Rattle.barycentric.proofs.Pairs.{weight_four, weight_all}
use Rattle.barycentric.proofs.Moves.{Front, front_start, front_turn, front_end, front_first, front_at}

module _ (xs gaps : List ℕ) (k : ℕ) where
  abbrev before : ℕ → ℕ
  before = weight_to (last_of 0 xs) gaps k

  abbrev after : ℕ → ℕ
  after = weight_to (last_of 0 xs) gaps (k + 4)

  abbrev pub sizes : ℕ → ℕ
  sizes x = away x (get_or gaps k 0) * away x (get_or gaps (k + 1) 0) * (away x (get_or gaps (k + 2) 0) * away x (get_or gaps (k + 3) 0))

  pub gap_small : (l : List ℕ) → Weighing xs gaps k l → (j : ℕ) → j < length gaps → get_or gaps j 0 ≤ most
  gap_small l w j h = all_at (λ g. g ≤ most) gaps j 0 h (missing_small xs gaps w.rising w.within w.those)

  pub few_nodes : (l : List ℕ) → Weighing xs gaps k l → length xs ≤ most
  few_nodes l w =
      omega (arith, w.within, rising_count 0 xs (length xs) w.rising (omega arith), ap (last_of 0) (take_all (length xs) xs (omega arith)))

  -- 0 and the first i nodes have gained theirs
  pub record Gaining (size : ℕ) (l : List ℕ) (i : ℕ) : Type 0 where
    pub passed : i ≤ length xs
    pub sized : length l ≡ size
    pub front : Front xs after l i
    pub back : (j : ℕ) → i ≤ j → j < length xs → get_or l (j + 1) 0 ≡ before (get_or xs j 0)

  pub gaining_start : (l : List ℕ) (q v : ℕ) → Weighing xs gaps k l → k + 3 < length gaps → q ≡ sizes 0 → v ≡ product (get_or l 0 0) q
      → Gaining (length (set l 0 v)) (set l 0 v) 0
  gaining_start l q v w h eq ev = record {
    passed = omega arith;
    sized = refl;
    front = front_start xs after l v (omega (arith, w.room))
        (weight_four (last_of 0 xs) gaps 0 k _ q v h (front_first xs before l w.front) eq ev);
    back = λ j a b. get_or-set_other l 0 (j + 1) v 0 (λ z. absurd (omega arith)) ∙ front_at xs before l j b w.front;
  }

  module _ (l₀ : List ℕ) (v₀ : ℕ) (w : Weighing xs gaps k l₀) (l : List ℕ) (i : ℕ) (t : Gaining (length (set l₀ 0 v₀)) l i) where
    pub gaining_room : length xs < length l
    gaining_room = omega (arith, w.room, t.sized, length-set l₀ 0 v₀)

    pub gaining_turn : (q v : ℕ) → i < length xs → k + 3 < length gaps → q ≡ sizes (get_or xs i 0) → v ≡ product (get_or l (i + 1) 0) q
        → Gaining (length (set l₀ 0 v₀)) (set l (i + 1) v) (i + 1)
    gaining_turn q v h g eq ev = record {
      passed = omega arith;
      sized = length-set l (i + 1) v ∙ t.sized;
      front = front_turn xs after l i v h (omega (arith, gaining_room)) t.front
          (weight_four (last_of 0 xs) gaps (get_or xs i 0) k _ q v g (t.back i (omega arith) h) eq ev);
      back = λ j a b. get_or-set_other l (i + 1) (j + 1) v 0 (λ z. absurd (omega arith)) ∙ t.back j (omega arith) b;
    }

    pub gaining_end : length xs ≤ i → Weighing xs gaps (k + 4) l
    gaining_end h = record {
      rising = w.rising;
      within = w.within;
      those = w.those;
      room = gaining_room;
      front = front_end xs after l i t.passed h t.front;
    }

  pub weighing_end : (l : List ℕ) → Weighing xs gaps k l → length gaps ≤ k → take (length xs + 1) l ≡ map (node_weight (last_of 0 xs) gaps) (0 ∷ xs)
  weighing_end l w h =
      w.front ∙ map_same before (node_weight (last_of 0 xs) gaps) (0 ∷ xs) (all_of (λ x. weight_all (last_of 0 xs) gaps x k h) (0 ∷ xs))
