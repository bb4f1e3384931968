-- The text of `O` and `M` lines and how many digits a number has, by computing.
use mathlib.Core.Path.{refl}
use Rattle.refusal.specs.Refusal.{outcome}
use Rattle.refusal.specs.Conditions.{any_beyond}
use Rattle.decimal.specs.Numeral.{last_digits, size_within, leading, value_after, field_of}
use Rattle.csv_fields.specs.Fields.{fields, fields_at}
use Rattle.forms.specs.Forms.{form_of}
use Rattle.lines.specs.Order.{line_refusal}
use Rattle.table.specs.Texts.{Texts}

pub texts : Texts
unfolding outcome any_beyond last_digits size_within leading value_after field_of fields fields_at form_of line_refusal
texts = record {
  opening_text = refl;
  opening_read = refl;
  opening_numbers = refl;
  masks_text = refl;
  masks_read = refl;
  masks_numbers = refl;
  eleven = refl;
  ten = refl;
}
