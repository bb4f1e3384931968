-- The field fits.
use Rattle.std.proofs.Common.{rules}
use Rattle.csv_fields.proofs.Overwriting.{field_fits}
use Rattle.csv_fields.proofs.put_short.Goals as goal

pub overflow_add-end : goal.overflow_add-end
overflow_add-end c = search (rules, field_fits)
