-- A sum of rows with a fee: the sum is written, then the fee is added to its public sums.
use Prim.Native.Nat.{ℕ, zero, suc, ◌+◌, ◌<◌}
use mathlib.Core.Path.{◌≡◌, refl, sym, ◌∙◌, ap, ap₂}
use mathlib.Core.List.{List, [], ◌∷◌, map}
use native.Mathlib.Omega.{arith}
use lib.ListN.{length, take, drop, length-append, length-map, take-append-drop}
use Rattle.field.specs.Arithmetic.{sum, product}
use Rattle.field.proofs.Modular.{sum_below, sum_comm, sum_zero}
use Rattle.shape.specs.declared.Shape.{Shape}
use Rattle.shape.specs.Bounds.{row_count_of}
use Rattle.shape.specs.Lengths.{row_length, sums_at_of}
use Rattle.session.specs.Rows.{row_at, with_row, combined, plus_sums, summed}
use Rattle.session.specs.Between.{Sized, RowIn}
use Rattle.session.proofs.RowLaws.{length_row, row_same, row_again}
use Rattle.sums.proofs.Writers.{length_combined}

pub length_plus_sums : (k c : ℕ) (row : List ℕ) → length (plus_sums k c row) ≡ length row
unfolding plus_sums
length_plus_sums k c row =
    length-append (take k row) (map (λ m. sum m c) (drop k row)) ∙ ap (λ (n : ℕ). length (take k row) + n) (length-map (drop k row) (λ m. sum m c))
    ∙ sym (length-append (take k row) (drop k row)) ∙ ap length (take-append-drop k row)

-- a sum of two lists of one length is as long
pub length_summed : (k s fee w : ℕ) (x y : List ℕ) → length x ≡ w → length y ≡ w → length (summed k s fee x y) ≡ w
length_summed k s fee w x y a b = length_plus_sums k fee (combined s x y) ∙ length_combined s x y (a ∙ sym b) ∙ a

-- nothing added to a sum of rows leaves it as it is
sum_nothing : (a b : ℕ) → sum (sum a b) 0 ≡ sum a b
sum_nothing a b = sum_comm (sum a b) 0 ∙ sum_zero (sum a b) (sum_below a b)

pub plus_nothing : (k s : ℕ) (xs ys : List ℕ) → summed k s 0 xs ys ≡ combined s xs ys
unfolding plus_sums combined
plus_nothing zero s [] ys = refl
plus_nothing zero s (x ∷ xs) [] = refl
plus_nothing zero s (x ∷ xs) (y ∷ ys) = ap₂ ◌∷◌ (sum_nothing x (product s y)) (plus_nothing zero s xs ys)
plus_nothing (suc k) s [] ys = refl
plus_nothing (suc k) s (x ∷ xs) [] = refl
plus_nothing (suc k) s (x ∷ xs) (y ∷ ys) = ap (λ (l : List ℕ). sum x (product s y) ∷ l) (plus_nothing k s xs ys)

-- row a plus s times row b, in the place of row d
module _ (g : Shape) (rows : List ℕ) (z : Sized g rows) (d a b s : ℕ) (hd : RowIn g d) (ha : RowIn g a) (hb : RowIn g b) where
  abbrev w : ℕ
  w = row_length g

  abbrev made : List ℕ
  made = combined s (row_at w rows a) (row_at w rows b)

  row_long : (r : ℕ) → RowIn g r → length (row_at w rows r) ≡ w
  row_long r h = length_row w row_count_of rows r z.length_is (omega (arith, h.row_in))

  length_made : length made ≡ w
  length_made = length_combined s (row_at w rows a) (row_at w rows b) (row_long a ha ∙ sym (row_long b hb)) ∙ row_long a ha

  pub length_row_summed : (fee : ℕ) → length (summed (sums_at_of g) s fee (row_at w rows a) (row_at w rows b)) ≡ w
  length_row_summed fee = length_summed (sums_at_of g) s fee w (row_at w rows a) (row_at w rows b) (row_long a ha) (row_long b hb)

  low : d < row_count_of
  low = omega (arith, hd.row_in)

  pub sum_without_fee : (fee : ℕ) (one : List ℕ) → one ≡ with_row w d made rows → fee ≡ 0
      → one ≡ with_row w d (summed (sums_at_of g) s fee (row_at w rows a) (row_at w rows b)) rows
  sum_without_fee fee one e z =
      rw z (e ∙ ap (λ (x : List ℕ). with_row w d x rows) (sym (plus_nothing (sums_at_of g) s (row_at w rows a) (row_at w rows b))))

  pub sum_with_fee : (fee : ℕ) (one two : List ℕ) → one ≡ with_row w d made rows
      → two ≡ with_row w d (plus_sums (sums_at_of g) fee (row_at w one d)) one → two ≡ with_row w d (summed (sums_at_of g) s fee (row_at w rows a) (row_at w rows b)) rows
  sum_with_fee fee one two e1 e2 =
      e2
      ∙ ap (λ (l : List ℕ). with_row w d (plus_sums (sums_at_of g) fee (row_at w l d)) l) e1
      ∙ ap (λ (x : List ℕ). with_row w d (plus_sums (sums_at_of g) fee x) (with_row w d made rows)) (row_same w row_count_of rows d z.length_is low made length_made)
      ∙ row_again w row_count_of rows d z.length_is low made length_made (plus_sums (sums_at_of g) fee made)
