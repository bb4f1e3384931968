-- The row dealt by a turn, by computing.
use mathlib.Core.Path.{refl}
use Rattle.field.specs.Arithmetic.{sum, product, difference}
use Rattle.poly.specs.Polynomial.{value}
use Rattle.refusal.specs.Refusal.{outcome}
use Rattle.refusal.specs.Conditions.{any_beyond, bad_points}
use Rattle.parts.specs.Draw.{each_from, part}
use Rattle.factory.specs.Calls.{dealer_refusal}
use Rattle.session.specs.Rows.{plus_sums}
use Rattle.session.specs.Sessions.{created}
use Rattle.load.specs.Load.{load_row_refusal_of}
use Rattle.deal.specs.Deal.{deal_refusal_of}
use Rattle.decimal.specs.Numeral.{last_digits, size_within, leading, value_after, field_of}
use Rattle.csv_fields.specs.Fields.{fields, fields_at}
use Rattle.forms.specs.Forms.{form_of}
use Rattle.dealers.specs.State.{overlong, bad_state, first_after, chosen}
use Rattle.dealers.specs.Calls.{place_refusal_of, count_refusal, taken_refusal}
use Rattle.runs.specs.Orders.{carry}
use Rattle.runs.specs.Draws.{point_of, raw_draw, raw_pack}
use Rattle.runs.specs.Calls.{perform, new_post}
use Rattle.secrecy.specs.Steps.{dealt_number}
use Rattle.secrecy.specs.Seen.{posts, all_rows, joined, entry_of, run, deal_seen, seen, new_desk}
use Rattle.otherdraw_law.specs.OneRow.{draw_of}
use Rattle.otherdraw_law.specs.Example.{drawn, by_turn_of, TurnAtWork}

pub turn_at_work : TurnAtWork
unfolding sum product difference value outcome any_beyond bad_points each_from part dealer_refusal plus_sums created load_row_refusal_of deal_refusal_of last_digits size_within leading value_after field_of fields fields_at form_of overlong bad_state first_after chosen place_refusal_of count_refusal taken_refusal carry point_of raw_draw raw_pack perform new_post dealt_number posts all_rows joined entry_of run deal_seen seen new_desk draw_of drawn by_turn_of
turn_at_work = record { given = record { answers = refl; dealt = refl }; other = record { answers = refl; dealt = refl } }
