-- A line of elements is read, says these numbers and, with few of them, is not too long.
use Prim.Native.Nat.{ℕ, ◌≤◌}
use mathlib.Core.Path.{◌≡◌}
use mathlib.Core.Bool.{false}
use mathlib.Core.List.{List, []}
use native.Mathlib.Omega.{arith}
use lib.ListN.{length}
use Rattle.poly.specs.Counting.{Elements}
use Rattle.csv_fields.specs.Fields.{fields, written}
use Rattle.csv_fields.proofs.Overwriting.{length_fields_le}
use Rattle.csv_fields.proofs.Laying.{length_written}
use Rattle.factory.proofs.Laws.{elements_pass}
use Rattle.street_reading.specs.Numbers.{numbers, rows_beyond, read_refusal}
use Rattle.street_reading.proofs.Written as Written
use Rattle.street_store.specs.Sizes.{longest_line}

module _ (letter : ℕ) (xs : List ℕ) (elements : Elements xs) where
  pub says : numbers (length xs) (written letter xs) ≡ xs
  says = Written.says letter xs (elements_pass xs elements)

  pub passes : (lasts : List ℕ) → rows_beyond lasts xs ≡ false → read_refusal lasts (length xs) (written letter xs) ≡ 0
  passes = Written.passes letter xs (elements_pass xs elements)

-- a whole `M` has 128 numbers at most
pub line_short : (letter : ℕ) (xs : List ℕ) → length xs ≤ 128 → length (written letter xs) ≤ longest_line
unfolding fields
line_short letter xs few = omega (arith, length_written letter [] xs, length_fields_le xs)
