-- The product's row, written where l'' stands: l'' + y l', then + y' l with the fee y y'.
use Prim.Native.Nat.{ℕ, ◌+◌, ◌<◌}
use mathlib.Core.Path.{◌≡◌, ◌∙◌, ap₂}
use mathlib.Core.Logic.{◌≢◌}
use mathlib.Core.List.{List}
use native.Mathlib.Omega.{arith}
use lib.ListN.{length}
use Rattle.field.specs.Arithmetic.{product}
use Rattle.shape.specs.declared.Shape.{Shape}
use Rattle.shape.specs.Bounds.{row_count_of}
use Rattle.shape.specs.Lengths.{row_length, sums_at_of}
use Rattle.session.specs.Rows.{row_at, with_row, summed}
use Rattle.session.specs.Between.{Sized, RowIn, TripleIn}
use Rattle.session.proofs.Passed.{row_below}
use Rattle.session.proofs.RowLaws.{row_same, row_again, row_other}
use Rattle.sums.proofs.Summed.{length_row_summed}

module _ (g : Shape) (rows : List ℕ) (r : ℕ) (z : Sized g rows) (i : TripleIn g r) where
  abbrev w : ℕ
  w = row_length g

  in_triple : (k : ℕ) → k < 3 → RowIn g (r + k)
  in_triple k h = row_below g (r + k) (omega (arith, i.triple_in))

  in_first : RowIn g r
  in_first = row_below g r (omega (arith, i.triple_in))

  low : r + 2 < row_count_of
  low = omega (arith, i.triple_in)

  pub product_written : (one two : List ℕ) (y_a_of y_b_of c : ℕ) → c ≡ product y_a_of y_b_of
      → one ≡ with_row w (r + 2) (summed (sums_at_of g) y_a_of 0 (row_at w rows (r + 2)) (row_at w rows (r + 1))) rows
      → two ≡ with_row w (r + 2) (summed (sums_at_of g) y_b_of c (row_at w one (r + 2)) (row_at w one r)) one
      → two ≡ with_row w (r + 2)
      (summed (sums_at_of g) y_b_of (product y_a_of y_b_of) (summed (sums_at_of g) y_a_of 0 (row_at w rows (r + 2)) (row_at w rows (r + 1))) (row_at w rows r)) rows
  product_written one two y_a_of y_b_of c ec e1 e2 =
      e2
      ∙ ap₂ (λ (k : ℕ) (l : List ℕ). with_row w q (summed (sums_at_of g) y_b_of k (row_at w l q) (row_at w l r)) l) ec e1
      ∙ ap₂ (λ (a b : List ℕ). with_row w q (summed (sums_at_of g) y_b_of (product y_a_of y_b_of) a b) (with_row w q made rows))
      (row_same w row_count_of rows q z.length_is low made made_long)
      (row_other w row_count_of rows q z.length_is low made made_long r other)
      ∙ row_again w row_count_of rows q z.length_is low made made_long (summed (sums_at_of g) y_b_of (product y_a_of y_b_of) made (row_at w rows r))
    where
      q : ℕ
      q = r + 2

      made : List ℕ
      made = summed (sums_at_of g) y_a_of 0 (row_at w rows (r + 2)) (row_at w rows (r + 1))

      made_long : length made ≡ w
      made_long =
          length_row_summed g rows z (r + 2) (r + 2) (r + 1) y_a_of (in_triple 2 (omega arith)) (in_triple 2 (omega arith)) (in_triple 1 (omega arith)) 0

      other : r ≢ r + 2
      other e = omega arith
