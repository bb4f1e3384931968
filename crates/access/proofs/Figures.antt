-- The figures, by computing.
use mathlib.Core.Path.{refl}
use Rattle.decimal.specs.Numeral.{leading, value_after, field_of}
use Rattle.csv_fields.specs.Fields.{fields_at}
use Rattle.access.specs.Access.{commas, admitted, placed}
use Rattle.access.specs.Figures.{Lines, Bits}

pub lines : Lines
unfolding leading value_after field_of fields_at commas
lines = record {
  listed = refl;
  none = refl;
  no_comma = refl;
  comma_behind = refl;
  two_commas = refl;
  other_letter = refl;
  equal = refl;
  falling = refl;
  from_none = refl;
}

pub bits : Bits
unfolding admitted placed
bits = record { five = refl; before = refl; first = refl; eighth = refl; behind = refl }
