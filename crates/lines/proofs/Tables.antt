-- The tests of the calls on lines are document 01's table.
use mathlib.Core.Path.{refl}
use Rattle.refusal.proofs.Figures.{beyond_figures}
use Rattle.lines.specs.Table.{LineTables}

pub line_tables : LineTables
line_tables = record {
  write_deal_is = λ n t row c room. rw (beyond_figures c);
  write_opening_is = λ n t points row post xs room. refl;
  write_masks_is = λ n t points row post xs room. refl;
  read = λ n t points s out. refl;
}
