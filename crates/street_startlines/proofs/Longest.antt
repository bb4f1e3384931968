-- The longest line of the program: no load of a station of the street's is longer, and one is as long.
use Prim.Native.Nat.{ℕ, zero, suc, ◌*◌, ◌≤◌}
use mathlib.Core.Path.{◌≡◌, refl}
use mathlib.Core.List.{List, [], ◌∷◌}
use native.Mathlib.Omega.{arith}
use lib.ListN.{length, replicate, length-append}
use Rattle.shape.specs.Bounds.{last_row_at, last_triple}
use Rattle.decimal.specs.Numeral.{size_within, size}
use Rattle.decimal.proofs.Sizes.{size_grows}
use Rattle.csv_fields.specs.Fields.{field, fields, written}
use Rattle.csv_fields.proofs.Overwriting.{length_field, length_fields_le}
use Rattle.csv_fields.proofs.Laying.{length_written}
use Rattle.street_store.specs.Sizes.{longest_triple, longest_load, longest_line}
use Rattle.street_store.proofs.Keeping.{row_room}
use Rattle.street_startlines.specs.Table.{LongestLine}

one_field : (x : ℕ) → length (fields (x ∷ [])) ≡ suc (size x)
unfolding fields
one_field x = omega (arith, length-append (field x) [], length_field x)

-- for the crates above, too
pub load_short : (letter row : ℕ) (pack : List ℕ) → row ≤ last_row_at → length pack ≤ longest_triple → length (written letter (row ∷ pack)) ≤ longest_line
unfolding size_within
load_short letter row pack h l =
    let digits : size row ≤ 2 = size_grows 9 row last_row_at h in
    omega (arith, length_written letter (row ∷ []) pack, one_field row, digits, length_fields_le pack, l)

ten_digits_is : (j : ℕ) → length (fields (replicate j 2147483646)) ≡ 11 * j
unfolding fields size_within
ten_digits_is zero = refl
ten_digits_is (suc j) =
    omega (arith, length-append (field 2147483646) (fields (replicate j 2147483646)), length_field 2147483646, ten_digits_is j)

as_long : (k : ℕ) → length (written 84 (last_triple ∷ replicate k 2147483646)) ≡ longest_load k
unfolding size_within
as_long k = omega (arith, length_written 84 (last_triple ∷ []) (replicate k 2147483646), one_field last_triple, ten_digits_is k)

pub longest_line_lem : LongestLine
longest_line_lem =
    record {
      figure = refl;
      none_longer = λ g letter row pack i h l. load_short letter row pack h (omega (arith, l, row_room g i));
      one_as_long = as_long longest_triple;
    }
