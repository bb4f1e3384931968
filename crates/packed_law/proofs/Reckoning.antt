-- The files reckoned by hand are those that the definitions give.
use mathlib.Core.Path.{refl}
use Rattle.field.specs.Arithmetic.{sum, product}
use Rattle.decimal.specs.Numeral.{last_digits, size_within}
use Rattle.csv_fields.specs.Fields.{fields}
use Rattle.poly.specs.Polynomial.{value}
use Rattle.refusal.specs.Conditions.{any_beyond}
use Rattle.parts.specs.Draw.{part, each_from}
use Rattle.factory.specs.Calls.{any_bad_point}
use Rattle.kinds.specs.Kinds.{drawn_for_of, draws_length, any_row, late, crowded, unknown}
use Rattle.packrow.specs.Numbers.{post_part, triple_parts, numbers_of_of}
use Rattle.packlines.specs.File.{row_line, row_lines, start_line, file}
use Rattle.packfile.specs.Writing.{given_refusal}
use Rattle.packed_law.specs.Example.{BothReckoned}

pub reckoned : BothReckoned
unfolding given_refusal any_bad_point any_beyond draws_length drawn_for_of any_row late crowded unknown file start_line row_lines row_line numbers_of_of triple_parts post_part part each_from value sum product fields last_digits size_within
reckoned = (record { given = refl; text = refl }, record { given = refl; text = refl })
