-- Laws of packs, for the crates above: their length, a post's part in them, and one row of several packs.
use Prim.Native.Nat.{ℕ, zero, suc, ◌+◌, ◌*◌, ◌-◌, ◌≤◌, ◌<◌}
use mathlib.Core.Path.{◌≡◌, sym, ◌∙◌, ap}
use mathlib.Core.List.{List, ◌++◌}
use native.Mathlib.Nat.{suc-mul, zero-mul, add-zero, add-mul, mul-le-mul_right}
use native.Mathlib.Omega.{arith}
use lib.ListN.{length, take, drop, length-append, length-drop}
use lib.Seq.{take_at, take-append-le, drop-append-le, drop-append-add}
use Rattle.shape.specs.declared.Shape.{Shape}
use Rattle.shape.specs.declared.Points.{Points}
use Rattle.shape.specs.Lengths.{row_length, draw_length}
use Rattle.parts.specs.Draw.{part}
use Rattle.parts.proofs.Laws.{length_part}
use Rattle.packs.specs.Packs.{points_at_of, points_from, parts_from, packs}

module _ (s : Shape) (draw : List ℕ) (drawn : length draw ≡ draw_length s) where
  module _ (w : ℕ → Points) where
    length_parts : (i m : ℕ) → 1 ≤ i → i + m ≤ suc s.n → length (parts_from s draw w i m) ≡ m * row_length s
    unfolding parts_from
    length_parts i zero lo hi = sym (zero-mul (row_length s))
    length_parts i (suc m) lo hi =
        let q : i ≤ s.n = omega arith in
        rw (length-append, length_part s draw drawn i (w i) lo q, length_parts (suc i) m (omega arith) (omega arith))
        (omega (arith, suc-mul m (row_length s)))

    part_from : (j i m : ℕ) → 1 ≤ i → j < m → i + m ≤ suc s.n
        → take (row_length s) (drop (j * row_length s) (parts_from s draw w i m)) ≡ part s (i + j) (w (i + j)) draw
    unfolding parts_from
    part_from j i zero lo h r = absurd (omega arith)
    part_from zero i (suc m) lo h r =
        rw (zero-mul (row_length s), take_at (part s i (w i) draw) _ (row_length s) (length_part s draw drawn i (w i) lo (omega arith)), add-zero i)
    part_from (suc j) i (suc m) lo h r =
        let e : length (part s i (w i) draw) ≡ row_length s = length_part s draw drawn i (w i) lo (omega arith) in
        let q : suc j * row_length s ≡ length (part s i (w i) draw) + j * row_length s = omega (arith, suc-mul j (row_length s)) in
        let g : suc i + j ≡ i + suc j = omega arith in
        rw (q, drop-append-add (part s i (w i) draw) (parts_from s draw w (suc i) m) (j * row_length s))
        (rw g at (part_from j (suc i) m (omega arith) (omega arith) (omega arith)))

  module _ (points : List ℕ) where
    pub length_packs : length (packs s points draw) ≡ s.n * row_length s
    length_packs = length_parts (points_from s points 0) 1 s.n (omega arith) (omega arith)

    -- post i's part stands at its place
    pub packs_part : (i : ℕ) → 1 ≤ i → i ≤ s.n
        → take (row_length s) (drop ((i - 1) * row_length s) (packs s points draw)) ≡ part s i (points_at_of s.points points (i - 1)) draw
    packs_part i h r =
        let e : 1 + (i - 1) ≡ i = omega arith in
        rw e at (part_from (points_from s points 0) (i - 1) 1 s.n (omega arith) (omega arith) (omega arith))

-- row j of two lists joined, the first of m rows of w numbers: among them, or behind
module _ (w m : ℕ) (a b : List ℕ) (many : length a ≡ m * w) where
  pub row_among : (j : ℕ) → j < m → take w (drop (j * w) (a ++ b)) ≡ take w (drop (j * w) a)
  row_among j h =
      let room : j * w + w ≤ length a = omega (arith, mul-le-mul_right {m = j + 1} {n = m} w (omega arith), add-mul j 1 w) in
      ap (take w) (drop-append-le (j * w) a b (omega arith)) ∙ take-append-le w (drop (j * w) a) b (omega (arith, length-drop (j * w) a))

  pub row_behind : (j : ℕ) → take w (drop ((m + j) * w) (a ++ b)) ≡ take w (drop (j * w) b)
  row_behind j =
      ap (take w)
      (ap (λ (k : ℕ). drop k (a ++ b)) (add-mul m j w ∙ ap (λ (k : ℕ). k + j * w) (sym many)) ∙ drop-append-add a b (j * w))
