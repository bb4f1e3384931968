-- A line of numbers in range, as it is written, is read; for the crates above.
use Prim.Native.Nat.{ℕ, ◌+◌}
use mathlib.Core.Path.{◌≡◌}
use mathlib.Core.List.{List}
use mathlib.Core.Bool.{false}
use lib.ListN.{length}
use Rattle.refusal.specs.Conditions.{any_beyond}
use Rattle.csv_fields.specs.Fields.{fields, written, parsed}
use Rattle.csv_fields.proofs.Reading.{line_read}
use Rattle.forms.proofs.RoundTrip.{none_beyond}
use Rattle.street_reading.specs.Numbers.{number_form, numbers, rows_beyond, read_refusal}

module _ (letter : ℕ) (xs : List ℕ) (fine : any_beyond xs ≡ false) where
  reads : number_form (length xs) (written letter xs) ≡ parsed xs (1 + length (fields xs))
  unfolding number_form
  reads = line_read letter xs (none_beyond xs fine)

  -- it says these numbers, and no test refuses them
  pub says : numbers (length xs) (written letter xs) ≡ xs
  says = rw reads

  pub passes : (lasts : List ℕ) → rows_beyond lasts xs ≡ false → read_refusal lasts (length xs) (written letter xs) ≡ 0
  unfolding read_refusal
  passes lasts h = rw (reads, fine, h)
