-- P1 to P10 of document 01, by computing.
use mathlib.Core.Path.{refl}
use Rattle.field.specs.Arithmetic.{sum, product, difference, euclid, inverse}
use Rattle.poly.specs.Polynomial.{value}
use Rattle.poly.specs.Interpolation.{nodal, weight, terms, interpolated}
use Rattle.refusal.specs.Refusal.{outcome}
use Rattle.refusal.specs.Conditions.{any_beyond, bad_points}
use Rattle.parts.specs.Draw.{each_from, part}
use Rattle.factory.specs.Calls.{dealer_refusal}
use Rattle.session.specs.Rows.{combined, plus_sums}
use Rattle.session.specs.Sessions.{created}
use Rattle.agreement.specs.Agreement.{all_pairs}
use Rattle.blocks.specs.Blocks as Blocks
use Rattle.accepting.specs.Accepting as Accepting
use Rattle.multiply.specs.Multiply.{product_row}
use Rattle.decimal.specs.Numeral.{last_digits, size_within, leading, value_after, field_of}
use Rattle.csv_fields.specs.Fields.{fields, fields_at}
use Rattle.forms.specs.Forms.{form_of}
use Rattle.lines.specs.Order.{line_refusal}
use Rattle.table.specs.Table.{point_at, drawn, drawn_a, drawn_b, drawn_triple, Reads, Writes, Table}

reads : Reads
unfolding any_beyond outcome leading value_after field_of fields_at form_of line_refusal
reads = record { line = refl; numbers = refl }

writes : Writes
unfolding outcome last_digits size_within fields line_refusal
writes = record { answer = refl; bytes = refl }

pub table : Table
unfolding sum product difference euclid inverse value nodal weight terms interpolated any_beyond outcome each_from part dealer_refusal combined plus_sums created Blocks.sent bad_points Accepting.accepts Accepting.share Accepting.passing Accepting.walk Accepting.disagree Accepting.opened all_pairs product_row leading value_after field_of fields_at form_of line_refusal point_at drawn drawn_a drawn_b drawn_triple
table =
    record {
      p1 = refl;
      p2 = refl;
      p3 = refl;
      p4 = refl;
      p5 = refl;
      p6 = refl;
      p7 = refl;
      p7' = refl;
      p8 = refl;
      p8_by = refl;
      p8_gives = refl;
      p8_told = refl;
      p8_by' = refl;
      p8_gives' = refl;
      p8_told' = refl;
      disagreeing = refl;
      disagreeing_told = refl;
      p9 = refl;
      p9_product = refl;
      p9_told = refl;
      p10_reads = reads;
      p10_writes = writes;
      p10_refused = refl;
    }
