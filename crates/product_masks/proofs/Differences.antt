-- A factor row less a row of the triple, and the two polynomials in the lent list.
use Prim.Native.Nat.{ℕ, zero, suc, ◌+◌, ◌-◌, ◌≤◌}
use mathlib.Core.Path.{◌≡◌, refl, sym, ◌∙◌, ap, ap₂}
use mathlib.Core.List.{List, [], ◌∷◌, ◌++◌, append-nil}
use native.Mathlib.Omega.{arith}
use lib.ListN.{length, take, drop, length-drop, drop_of_length-le}
use lib.Seq.{length-take-le, take_at}
use borrow.Rule.Slice.PartMut.{put_mid}
use Rattle.field.specs.Modulus.{p}
use Rattle.field.specs.Arithmetic.{sum, product}
use Rattle.shape.specs.declared.Shape.{Shape}
use Rattle.shape.specs.Bounds.{row_count_of}
use Rattle.shape.specs.Lengths.{row_length, v_length, masks_length}
use Rattle.shape.specs.Row.{coefficients}
use Rattle.session.specs.Rows.{row_at, combined}
use Rattle.session.specs.Between.{Sized, RowIn, TripleIn}
use Rattle.session.proofs.RowLaws.{length_row}
use Rattle.sums.proofs.Writers.{length_combined}
use Rattle.product_masks.specs.Masks.{mask_row, both_masks}

-- the first k numbers of a sum of rows are the sum of their first k numbers
combined_front : (k s : ℕ) (xs ys : List ℕ) → combined s (take k xs) (take k ys) ≡ take k (combined s xs ys)
unfolding combined
combined_front zero s xs ys = refl
combined_front (suc k) s [] ys = refl
combined_front (suc k) s (x ∷ xs) [] = refl
combined_front (suc k) s (x ∷ xs) (y ∷ ys) = ap (λ (l : List ℕ). sum x (product s y) ∷ l) (combined_front k s xs ys)

module _ (g : Shape) (count : ℕ) (ec : count ≡ v_length g) where
  pub front_long : (x : List ℕ) → length x ≡ row_length g → count ≡ length (take count x)
  front_long x l = sym (length-take-le count x (omega arith))

  pub front_size : (x out : List ℕ) → length x ≡ row_length g → length out ≡ v_length g → length (take count x) ≡ length out
  front_size x out l h = sym (front_long x l) ∙ ec ∙ sym h

  pub mask_front : (rows out x y : List ℕ) (k r : ℕ) → x ≡ row_at (row_length g) rows k → y ≡ row_at (row_length g) rows r
      → out ≡ combined (p - 1) (take count x) (take count y) → out ≡ coefficients g (mask_row g rows k r)
  mask_front rows out x y k r ex ey eo =
      eo ∙ combined_front count (p - 1) x y ∙ ap₂ take ec (ap₂ (combined (p - 1)) ex ey)

  -- the lent list, filled by halves
  pub half_long : (l : List ℕ) → length l ≡ masks_length g → count ≡ length (take count l)
  half_long l e = sym (length-take-le count l (omega arith))

  pub half_size : (l : List ℕ) → length l ≡ masks_length g → length (take count l) ≡ v_length g
  half_size l e = sym (half_long l e) ∙ ec

  module _ (rows l x : List ℕ) (a r : ℕ) (z : Sized g rows) (ia : RowIn g a) (it : TripleIn g r) (e : length l ≡ masks_length g)
      (ex : x ≡ coefficients g (mask_row g rows a r)) where
    row_long : (k : ℕ) → RowIn g k → length (row_at (row_length g) rows k) ≡ row_length g
    row_long k h = length_row (row_length g) row_count_of rows k z.length_is (omega (arith, h.row_in))

    triple_long : length (row_at (row_length g) rows r) ≡ row_length g
    triple_long = length_row (row_length g) row_count_of rows r z.length_is (omega (arith, it.triple_in))

    mask_long : length (mask_row g rows a r) ≡ row_length g
    mask_long =
        length_combined (p - 1) (row_at (row_length g) rows a) (row_at (row_length g) rows r) (row_long a ia ∙ sym triple_long)
        ∙ row_long a ia

    first_long : length x ≡ count
    first_long = ap length ex ∙ length-take-le (v_length g) (mask_row g rows a r) (omega (arith, mask_long)) ∙ sym ec

    pub masks_filled : (y : List ℕ) (b : ℕ) → y ≡ coefficients g (mask_row g rows b (r + 1))
        → put_mid count (length (x ++ drop count l) - count) (x ++ drop count l) y ≡ both_masks g rows a b r
    masks_filled y b ey =
        let all : List ℕ = x ++ drop count l in
        let rest : length (drop count all) ≤ length all - count = omega (arith, length-drop count all) in
        ap₂ (λ (u v : List ℕ). u ++ (y ++ v)) (take_at x (drop count l) count first_long ∙ ex) (drop_of_length-le (drop count all) rest)
        ∙ ap (λ (u : List ℕ). coefficients g (mask_row g rows a r) ++ u) (append-nil y ∙ ey)
