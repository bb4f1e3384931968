-- Rows in one list: a row read back after it was written, other rows untouched, and the lengths.
use Prim.Native.Nat.{ℕ, suc, ◌+◌, ◌*◌, ◌-◌, ◌≤◌, ◌<◌}
use mathlib.Core.Path.{◌≡◌, sym, ◌∙◌, ap, ap₂}
use mathlib.Core.Logic.{◌≢◌}
use mathlib.Core.List.{List, ◌++◌, map}
use native.Mathlib.Nat.{add-mul, suc-mul, mul-le-mul_right, add-sub_cancel_left}
use native.Mathlib.Decide.{dec_le}
use native.Mathlib.Omega.{arith}
use lib.ListN.{length, take, drop}
use lib.Seq.{take_at, drop_at, take-take, take-add, drop-drop, length-take-le}
use borrow.Rule.Slice.PartMut.{put_mid}
use mir.Syntax.{w64}
use mir.Val.{Fits}
use Rattle.lists.proofs.Parts.{part_length, length_put, part_same, part_before, part_after, put_tail, put_join, put_whole, drop_front}
use Rattle.shape.specs.declared.Shape.{Shape}
use Rattle.shape.specs.Bounds.{row_count_of}
use Rattle.shape.specs.Lengths.{Valid, row_length, sums_at_of}
use Rattle.session.specs.Rows.{row_at, with_row}
use Rattle.session.specs.Between.{Sized, RowIn}

-- a row ends where the next begins
pub next : (q r w : ℕ) → q < r → q * w + w ≤ r * w
next q r w h = let e : suc q * w ≤ r * w = mul-le-mul_right w h in omega (arith, suc-mul q w)

-- row r of k rows of w numbers
module _ (w k : ℕ) (rows : List ℕ) (r : ℕ) (size : length rows ≡ k * w) (low : r < k) where
  pub row_room : r * w + w ≤ length rows
  row_room = let h = next r k w low in omega arith

  pub length_row : length (row_at w rows r) ≡ w
  length_row = part_length (r * w) w rows row_room

  module _ (x : List ℕ) (wide : length x ≡ w) where
    pub length_with_row : length (with_row w r x rows) ≡ length rows
    length_with_row = length_put (r * w) w rows x row_room wide

    pub row_same : row_at w (with_row w r x rows) r ≡ x
    row_same = part_same (r * w) w rows x row_room wide

    -- and written again
    pub row_again : (y : List ℕ) → with_row w r y (with_row w r x rows) ≡ with_row w r y rows
    row_again y =
        let l : length (take (r * w) rows) ≡ r * w = length-take-le (r * w) rows (omega (arith, row_room)) in
        let rest = x ++ drop w (drop (r * w) rows) in
        ap₂ (λ (a b : List ℕ). a ++ (y ++ b)) (take_at (take (r * w) rows) rest (r * w) l)
        (ap (drop w) (drop_at (take (r * w) rows) rest (r * w) l) ∙ drop_at x (drop w (drop (r * w) rows)) w wide)

    pub row_other : (q : ℕ) → q ≢ r → row_at w (with_row w r x rows) q ≡ row_at w rows q
    row_other q ne = by_side (dec_le q r)
      where
        by_side : Dec (q ≤ r) → row_at w (with_row w r x rows) q ≡ row_at w rows q
        by_side (yes h) = part_before (r * w) w rows x row_room wide (q * w) w (next q r w (omega arith))
        by_side (no h) = part_after (r * w) w rows x row_room wide (q * w) w (next r q w (omega arith))

-- one more row of a pack, behind the k rows of it that were put from row r on
pub next_row_put : (w r k : ℕ) (rows pack : List ℕ) → r * w + k * w ≤ length rows → k * w ≤ length pack
    → with_row w (r + k) (row_at w pack k) (put_mid (r * w) (k * w) rows (take (k * w) pack))
    ≡ put_mid (r * w) (suc k * w) rows (take (suc k * w) pack)
next_row_put w r k rows pack h g =
    let e : k * w + w ≡ suc k * w = sym (suc-mul k w) in
    ap (λ (z : ℕ). put_mid z w (put_mid (r * w) (k * w) rows (take (k * w) pack)) (row_at w pack k)) (add-mul r k w)
    ∙ put_join (r * w) (k * w) w rows (take (k * w) pack) (row_at w pack k) h (length-take-le (k * w) pack g)
    ∙ ap (put_mid (r * w) (k * w + w) rows) (sym (take-add (k * w) w pack))
    ∙ ap (λ (z : ℕ). put_mid (r * w) z rows (take z pack)) e

-- where a row begins and how long it is, as code has them
module _ (s : Shape) (rows : List ℕ) (r from w : ℕ) (ef : from ≡ r * row_length s) (ew : w ≡ row_length s) where
  pub row_part : take (from + w - from) (drop from rows) ≡ row_at (row_length s) rows r
  row_part = rw (ef, ew, add-sub_cancel_left (r * row_length s) (row_length s))

  pub row_wide : Sized s rows → RowIn s r → length (take (from + w - from) (drop from rows)) ≡ row_length s
  row_wide z i = ap length row_part ∙ length_row (row_length s) row_count_of rows r z.length_is (omega (arith, i.row_in))

  pub row_put : (x y : List ℕ) → x ≡ y → put_mid from (from + w - from) rows x ≡ with_row (row_length s) r y rows
  row_put x y e = rw (ef, ew) (put_whole (r * row_length s) (row_length s) rows x y e)

module _ (s : Shape) (r w : ℕ) (e : w ≡ row_length s) where
  pub start_is : r * w ≡ r * row_length s
  start_is = ap (λ (k : ℕ). r * k) e

  pub start_fits : Valid s → RowIn s r → Fits w64 (r * w)
  start_fits v i = record { fits = omega (arith, start_is, i.room, v.n_in, v.t_in) }

-- f done to the last n numbers of a row, its public sums
module _ (f : ℕ → ℕ) (s : Shape) (r : ℕ) (rows : List ℕ) where
  abbrev w : ℕ
  w = row_length s

  abbrev k : ℕ
  k = sums_at_of s

  abbrev n : ℕ
  n = s.n

  whole : k + n ≡ w
  whole = omega arith

  tail : take n (drop (r * w + k) rows) ≡ drop k (take w (drop (r * w) rows))
  tail =
      ap (take n) (sym (drop-drop k (r * w) rows))
      ∙ sym (drop_front k n (drop (r * w) rows))
      ∙ ap (λ (z : ℕ). drop k (take z (drop (r * w) rows))) whole

  put : (ys : List ℕ) → ys ≡ map f (take (r * w + k + n - (r * w + k)) (drop (r * w + k) rows))
      → put_mid (r * w + k) (r * w + k + n - (r * w + k)) rows ys
      ≡ with_row w r (take k (row_at w rows r) ++ map f (drop k (row_at w rows r))) rows
  put ys q =
      let s : r * w + k + n - (r * w + k) ≡ n = add-sub_cancel_left (r * w + k) n in
      let front = sym (take-take k w (drop (r * w) rows) (omega arith)) in
      ap (λ (z : ℕ). put_mid (r * w + k) z rows ys) s
      ∙ put_tail (r * w) k n rows ys
      ∙ ap (λ (z : ℕ). put_mid (r * w) z rows (take k (drop (r * w) rows) ++ ys)) whole
      ∙ ap (put_mid (r * w) w rows)
      (ap₂ ◌++◌ front (q ∙ ap (λ (z : ℕ). map f (take z (drop (r * w + k) rows))) s ∙ ap (map f) tail))

  pub sums_put : (from sums : ℕ) (ys : List ℕ) → from ≡ r * w → sums ≡ k
      → ys ≡ map f (take (from + sums + n - (from + sums)) (drop (from + sums) rows))
      → put_mid (from + sums) (from + sums + n - (from + sums)) rows ys
      ≡ with_row w r (take k (row_at w rows r) ++ map f (drop k (row_at w rows r))) rows
  sums_put from sums ys ef es q = rw (ef, es) (put ys (rw (ef, es) at q))
