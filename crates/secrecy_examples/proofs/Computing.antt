-- What an example's group sees, by computing: `unfolding sees` opens the definitions of the calls.
use Rattle.callers.specs.Sets.{shared}
use Rattle.access.specs.Access.{commas, access_refusal, admitted, placed}
use Rattle.field.specs.Arithmetic.{sum, product, difference, euclid, inverse}
use Rattle.poly.specs.Polynomial.{value}
use Rattle.poly.specs.Interpolation.{nodal, weight, terms, interpolated}
use Rattle.refusal.specs.Refusal.{outcome}
use Rattle.refusal.specs.Conditions.{any_beyond, bad_points}
use Rattle.parts.specs.Draw.{each_from, part}
use Rattle.factory.specs.Calls.{dealer_refusal}
use Rattle.session.specs.Rows.{combined, plus_sums}
use Rattle.session.specs.Sessions.{created}
use Rattle.load.specs.Load.{load_row_refusal_of, load_triple_refusal_of, with_triple}
use Rattle.deal.specs.Deal.{deal_refusal_of}
use Rattle.message.specs.Message.{message_refusal_of}
use Rattle.linear.specs.Linear.{linear_refusal_of}
use Rattle.blocks.specs.Blocks as Blocks
use Rattle.agreement.specs.Agreement.{all_pairs}
use Rattle.accepting.specs.Accepting as Accepting
use Rattle.opening.specs.Opening.{open_refusal_of}
use Rattle.product_masks.specs.Masks.{masks_refusal_of, mask_numbers_of}
use Rattle.collect.specs.Collect.{collect_refusal}
use Rattle.multiply.specs.Multiply.{product_row, with_product, multiply_refusal_of}
use Rattle.terms.specs.Listed.{products_of, padded}
use Rattle.relation.specs.Tests.{each_at_of, named_in, named_twice_of}
use Rattle.relation.specs.Masks.{relation_masks_refusal, masked_terms, term_masks}
use Rattle.relation.specs.Finish.{record_tests, relation_finish_refusal, with_products, plus_terms, finished_terms}
use Rattle.decimal.specs.Numeral.{last_digits, size_within, leading, value_after, field_of}
use Rattle.csv_fields.specs.Fields.{fields, fields_at}
use Rattle.forms.specs.Forms.{form_of}
use Rattle.dealers.specs.State.{overlong, bad_state, first_after, chosen}
use Rattle.dealers.specs.Calls.{place_refusal_of, count_refusal, taken_refusal}
use Rattle.runs.specs.Orders.{carry}
use Rattle.runs.specs.Draws.{point_of, raw_draw, triple_draw, raw_pack, triple_pack}
use Rattle.runs.specs.Calls.{perform, new_post, at}
use Rattle.secrecy.specs.Steps.{dealt_number}
use Rattle.secrecy.specs.Seen.{Seen, posts, all_rows, joined, entry_of, run, polynomial_seen, deal_seen, points_seen, raw_seen, triple_seen, seen, new_desk}
use Rattle.secrecy_examples.specs.Example.{Example, seen_of}

unfoldable pub sees : Example → Seen
unfolding sum product difference euclid inverse value nodal weight terms interpolated outcome any_beyond each_from part dealer_refusal combined plus_sums created bad_points load_row_refusal_of load_triple_refusal_of with_triple deal_refusal_of message_refusal_of linear_refusal_of Blocks.bad_block_of Blocks.bad_blocks Blocks.sent Accepting.accepts Accepting.share Accepting.passing Accepting.walk Accepting.opened Accepting.disagree all_pairs open_refusal_of masks_refusal_of mask_numbers_of collect_refusal multiply_refusal_of product_row with_product products_of padded each_at_of named_in named_twice_of relation_masks_refusal masked_terms term_masks record_tests relation_finish_refusal with_products plus_terms finished_terms last_digits size_within fields point_of raw_draw triple_draw raw_pack triple_pack perform new_post at dealt_number posts all_rows joined entry_of run polynomial_seen deal_seen points_seen raw_seen triple_seen seen shared commas access_refusal admitted placed leading value_after field_of fields_at form_of carry new_desk overlong bad_state first_after chosen place_refusal_of count_refusal taken_refusal
sees x = seen_of x
