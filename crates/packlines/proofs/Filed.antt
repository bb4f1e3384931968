-- A pack file, line by line.
use Prim.Native.Nat.{ℕ, ◌<◌}
use mathlib.Core.Path.{◌≡◌, refl}
use mathlib.Core.List.{List, [], ◌∷◌}
use native.Mathlib.Omega.{arith}
use lib.ListN.{length}
use Rattle.csv_fields.specs.Fields.{written}
use Rattle.packrow.specs.Numbers.{post_part, triple_parts, numbers_of_of}
use Rattle.packlines.specs.File.{line_with, start_line, row_line, row_lines, file}
use Rattle.packlines.specs.Claims.{row_of, triple_of, FilesLined}

some_line : (letter row : ℕ) (xs : List ℕ) → 0 < length xs → line_with letter row xs ≡ written letter (row ∷ xs)
some_line letter row [] h = absurd (omega arith)
some_line letter row (x ∷ xs) h = refl

pub files_lined : FilesLined
unfolding post_part triple_parts numbers_of_of start_line row_line row_lines file
files_lined p = record {
  start_one = λ e. rw e;
  start_two = λ e. rw e;
  raw_row = λ row draw h. some_line 82 row (row_of p draw) h;
  triple_row = λ row draw h. some_line 84 row (triple_of p draw) h;
  empty_row = λ row draw. refl;
  no_rows = λ row draws. refl;
  one_more = λ row k ks draws. refl;
  whole = λ kinds draws. refl;
}
