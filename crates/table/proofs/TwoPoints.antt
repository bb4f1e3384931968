-- The table for two check points, by computing.
use mathlib.Core.Path.{refl}
use Rattle.field.specs.Arithmetic.{sum, product, difference, euclid, inverse}
use Rattle.poly.specs.Polynomial.{value}
use Rattle.poly.specs.Interpolation.{nodal, weight, terms, interpolated}
use Rattle.refusal.specs.Refusal.{outcome}
use Rattle.refusal.specs.Conditions.{any_beyond, bad_points}
use Rattle.parts.specs.Draw.{each_from, part}
use Rattle.packs.specs.Packs.{parts_from}
use Rattle.factory.specs.Calls.{any_bad_point, factory_row_refusal, dealer_refusal}
use Rattle.session.specs.Rows.{plus_sums}
use Rattle.session.specs.Sessions.{created}
use Rattle.agreement.specs.Agreement.{all_pairs}
use Rattle.blocks.specs.Blocks as Blocks
use Rattle.accepting.specs.Accepting as Accepting
use Rattle.decimal.specs.Numeral.{last_digits, size_within, leading, value_after, field_of}
use Rattle.csv_fields.specs.Fields.{fields, fields_at}
use Rattle.forms.specs.Forms.{form_of}
use Rattle.lines.specs.Order.{line_refusal}
use Rattle.packlines.specs.File.{start_line}
use Rattle.table.specs.TwoPoints.{points, drawn, row1, row2, row3, News, TwoPoints}

news : News
unfolding outcome created bad_points
news = record {
  two = (refl, refl, refl, refl);
  equal = refl;
  largest = refl;
  none = refl;
  three = refl;
  first_zero = refl;
  first_p = refl;
  second_zero = refl;
  second_p = refl;
  one = (refl, refl);
  order = refl;
}

pub two_points_is : TwoPoints
unfolding sum product difference euclid inverse value nodal weight terms interpolated any_beyond outcome each_from part parts_from any_bad_point factory_row_refusal dealer_refusal plus_sums created bad_points Blocks.sent Accepting.accepts Accepting.share Accepting.passing Accepting.walk Accepting.disagree Accepting.opened all_pairs last_digits size_within leading value_after field_of fields fields_at form_of line_refusal start_line points drawn row1 row2 row3
two_points_is = record {
  taken = refl;
  packs = refl;
  true_one = refl;
  first_passed = refl;
  first_only = refl;
  second_passed = refl;
  second_only = refl;
  both_passed = refl;
  other_post = refl;
  share2 = refl;
  by = refl;
  gives = refl;
  gives_told = refl;
  all_give = refl;
  all_give_told = refl;
  too_few = refl;
  too_few_told = refl;
  line = refl;
  line_read = refl;
  line_numbers = refl;
  line_short = refl;
  line_of_three = refl;
  start_two = refl;
  start_one = refl;
  news = news;
}
