-- A row that is written number by number, within the list that other rows are read from.
use Prim.Native.Nat.{ℕ, ◌+◌, ◌*◌, ◌-◌, ◌≤◌, ◌<◌}
use mathlib.Core.Path.{◌≡◌, sym, ◌∙◌, ap, ap₂}
use mathlib.Core.List.{List, ◌++◌, append_assoc}
use native.Mathlib.Nat.{mul-le-mul_right}
use native.Mathlib.Numerals.{add-one}
use native.Mathlib.Decide.{dec_le}
use native.Mathlib.Omega.{arith}
use lib.ListN.{length, get_or, set, take, drop, get_or-append}
use lib.Seq.{paste, paste-zero, paste-suc, length-paste, length_paste_head, length-take-le, take_all, drop-drop, get_or-take, get_or-drop, get_or-append-add}
use Rattle.field.specs.Arithmetic.{sum, product}
use Rattle.shape.specs.declared.Shape.{Shape}
use Rattle.shape.specs.Bounds.{row_count_of}
use Rattle.shape.specs.Lengths.{row_length}
use Rattle.session.specs.Rows.{row_at, with_row, combined}
use Rattle.session.specs.Between.{Sized, RowIn}
use Rattle.session.proofs.RowLaws.{next, row_room, length_row}
use Rattle.sums.proofs.Writers.{length_combined, get_or_combined}

-- what stands before the part that is being written, or behind what has been written of it, is as it was
module _ (l : List ℕ) (at : ℕ) (s : List ℕ) (n k : ℕ) (room : at + n ≤ length l) (long : n ≤ length s) where
  head : length (take at l ++ take n s) ≡ at + n
  head = length_paste_head l at s n (omega arith) long

  read_before : k < at → get_or (paste l at s n) k 0 ≡ get_or l k 0
  read_before h =
      let e : length (take at l) ≡ at = length-take-le at l (omega arith) in
      get_or-append (take at l ++ take n s) (drop (at + n) l) 0 k (omega (arith, head))
      ∙ get_or-append (take at l) (take n s) 0 k (omega (arith, e))
      ∙ get_or-take at l k 0 h

  read_behind : at + n ≤ k → get_or (paste l at s n) k 0 ≡ get_or l k 0
  read_behind h =
      let d : ℕ = k - (at + n) in
      let e : length (take at l ++ take n s) + d ≡ k = omega (arith, head) in
      let f : at + n + d ≡ k = omega arith in
      ap (λ (i : ℕ). get_or (paste l at s n) i 0) (sym e)
      ∙ get_or-append-add (take at l ++ take n s) (drop (at + n) l) d 0
      ∙ get_or-drop (at + n) l d 0
      ∙ ap (λ (i : ℕ). get_or l i 0) f

-- rows of a shape: row d is written with x, as far as i
module _ (g : Shape) (w : ℕ) (wide : w ≡ row_length g) (rows : List ℕ) (size : Sized g rows) (d : ℕ) (low : RowIn g d) where
  all : length rows ≡ row_count_of * w
  all = size.length_is ∙ ap (λ (k : ℕ). row_count_of * k) (sym wide)

  inner : (r : ℕ) → RowIn g r → r < row_count_of
  inner r h = omega (arith, h.row_in)

  room : d * w + w ≤ length rows
  room = row_room w row_count_of rows d all (inner d low)

  row_read : (r i : ℕ) (x : List ℕ) → i < w → length x ≡ w → get_or (paste rows (d * w) x i) (r * w + i) 0 ≡ get_or (row_at w rows r) i 0
  row_read r i x h e = by_side (dec_le d r) ∙ sym (get_or-take w (drop (r * w) rows) i 0 h ∙ get_or-drop (r * w) rows i 0)
    where
      written : d * w + i ≤ length rows
      written = omega (arith, room)

      by_side : Dec (d ≤ r) → get_or (paste rows (d * w) x i) (r * w + i) 0 ≡ get_or rows (r * w + i) 0
      by_side (yes k) = read_behind rows (d * w) x i (r * w + i) written (omega arith) (omega (arith, mul-le-mul_right w k))
      by_side (no k) = read_before rows (d * w) x i (r * w + i) written (omega arith) (omega (arith, next r d w (omega arith)))

  -- a turn, and the end, of the loop that combines rows a and b
  module _ (s a b : ℕ) (ha : RowIn g a) (hb : RowIn g b) where
    abbrev made : List ℕ
    made = combined s (row_at w rows a) (row_at w rows b)

    la : length (row_at w rows a) ≡ w
    la = length_row w row_count_of rows a all (inner a ha)

    lb : length (row_at w rows b) ≡ w
    lb = length_row w row_count_of rows b all (inner b hb)

    long : length made ≡ w
    long = length_combined s (row_at w rows a) (row_at w rows b) (la ∙ sym lb) ∙ la

    pub within_start : rows ≡ paste rows (d * w) made 0
    within_start = paste-zero rows (d * w) made

    pub within_more : (m : List ℕ) (i v to from other : ℕ) → i < w → m ≡ paste rows (d * w) made i → to ≡ d * row_length g → from ≡ a * row_length g
        → other ≡ b * row_length g → v ≡ sum (get_or m (from + i) 0) (product s (get_or m (other + i) 0)) → set m (to + i) v ≡ paste rows (d * w) made (i + 1)
    within_more m i v to from other h inv et ef eo q =
        let start : (r : ℕ) → r * row_length g ≡ r * w = λ r. ap (λ (k : ℕ). r * k) (sym wide) in
        let x = ap₂ (λ (z : List ℕ) (k : ℕ). get_or z (k + i) 0) inv (ef ∙ start a) ∙ row_read a i made h long in
        let y = ap₂ (λ (z : List ℕ) (k : ℕ). get_or z (k + i) 0) inv (eo ∙ start b) ∙ row_read b i made h long in
        let t = get_or_combined s (row_at w rows a) (row_at w rows b) i (omega (arith, la)) (la ∙ sym lb) in
        let e : v ≡ get_or made i 0 = q ∙ ap₂ (λ (x y : ℕ). sum x (product s y)) x y ∙ sym t in
        rw (et ∙ start d, inv, e, add-one i) (paste-suc rows (d * w) made i 0 (omega (arith, room)) (omega (arith, long)))

    pub within_end : (m : List ℕ) (i : ℕ) → i ≤ w → w ≤ i → m ≡ paste rows (d * w) made i
        → m ≡ with_row (row_length g) d (combined s (row_at (row_length g) rows a) (row_at (row_length g) rows b)) rows
    within_end m i h k inv =
        let q : i ≡ w = omega arith in
        rw (← wide)
        (inv ∙ ap (paste rows (d * w) made) q
        ∙ append_assoc (take (d * w) rows) (take w made) (drop (d * w + w) rows)
        ∙ ap₂ (λ (x y : List ℕ). take (d * w) rows ++ (x ++ y)) (take_all w made (omega (arith, long))) (sym (drop-drop w (d * w) rows)))
