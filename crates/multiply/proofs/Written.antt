-- The rows behind a product that was written: the triple's third row is the product, every other row is as it was, and the list as long.
use Prim.Native.Nat.{ℕ, ◌+◌, ◌≤◌, ◌<◌}
use mathlib.Core.Path.{◌≡◌}
use mathlib.Core.Logic.{◌≢◌}
use mathlib.Core.List.{List}
use native.Mathlib.Omega.{arith}
use lib.ListN.{length}
use Rattle.field.specs.Arithmetic.{product}
use Rattle.shape.specs.Bounds.{row_count_of, last_triple}
use Rattle.session.specs.declared.Session.{Session}
use Rattle.session.specs.Sessions.{shape_of}
use Rattle.session.specs.Rows.{width, sums_at_of, row_at}
use Rattle.session.specs.Between.{Sized}
use Rattle.session.proofs.RowLaws.{length_row, length_with_row, row_same, row_other}
use Rattle.sums.proofs.Summed.{length_summed}
use Rattle.multiply.specs.Multiply.{product_row, with_product}

module _ (s : Session) (rows : List ℕ) (r y_a_of y_b_of : ℕ) (z : Sized (shape_of s) rows) (i : r ≤ last_triple) where
  abbrev w : ℕ
  w = width s

  low : r + 2 < row_count_of
  low = omega (arith, i)

  long : (k : ℕ) → k < row_count_of → length (row_at w rows k) ≡ w
  long k h = length_row w row_count_of rows k z.length_is h

  abbrev row : List ℕ
  row = product_row s y_a_of y_b_of (row_at w rows r) (row_at w rows (r + 1)) (row_at w rows (r + 2))

  row_long : length row ≡ w
  unfolding product_row
  row_long =
      length_summed (sums_at_of s) y_b_of (product y_a_of y_b_of) w _ _
      (length_summed (sums_at_of s) y_a_of 0 w _ _ (long (r + 2) low) (long (r + 1) (omega (arith, low)))) (long r (omega (arith, low)))

  pub third_read : row_at (width s) (with_product s y_a_of y_b_of r rows) (r + 2)
      ≡ product_row s y_a_of y_b_of (row_at (width s) rows r) (row_at (width s) rows (r + 1)) (row_at (width s) rows (r + 2))
  unfolding with_product
  third_read = row_same w row_count_of rows (r + 2) z.length_is low row row_long

  pub others_read : (q : ℕ) → q ≢ r + 2 → row_at (width s) (with_product s y_a_of y_b_of r rows) q ≡ row_at (width s) rows q
  unfolding with_product
  others_read q ne = row_other w row_count_of rows (r + 2) z.length_is low row row_long q ne

  pub length_written : length (with_product s y_a_of y_b_of r rows) ≡ length rows
  unfolding with_product
  length_written = length_with_row w row_count_of rows (r + 2) z.length_is low row row_long
