-- The tests of the two calls are the table.
use mathlib.Core.Path.{refl}
use Rattle.records.specs.Table.{RecordTables}

pub record_tables : RecordTables
record_tables = record {
  put = λ n t points blocks post message. refl;
  remove = λ n t points blocks post. refl;
}
