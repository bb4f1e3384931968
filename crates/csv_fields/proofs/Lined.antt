-- A line byte by byte.
use Prim.Native.Nat.{ℕ}
use mathlib.Core.Path.{refl, ap}
use mathlib.Core.List.{List, [], ◌∷◌, append_assoc}
use Rattle.decimal.specs.Numeral.{numeral}
use Rattle.csv_fields.specs.Fields.{fields}
use Rattle.csv_fields.specs.Claims.{LineBytes}

pub line_bytes : LineBytes
unfolding fields
line_bytes = record {
  none = λ letter. refl;
  more = λ letter x xs. ap (λ (l : List ℕ). letter ∷ 44 ∷ l) (append_assoc (numeral x) (fields xs) (10 ∷ []));
}
