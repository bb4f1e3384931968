-- The reader keeps the line, and what is known so far with what the rest says is what the whole says.
use Rattle.std.proofs.Common.{◌≡◌, ◌-◌}
use Rattle.csv_fields.specs.Fields.{fields_at, run_from, run_of}
use Rattle.csv_fields.proofs.fields_at.Given as goal

abbrev pub invariant-loop-turn : goal.invariant-loop-turn
invariant-loop-turn l =
    record {
      line : l.reader.line.now ≡ l.line;
      leads : run_from l.largest (fields_at (l.k - l.turn) l.line l.reader.at) ≡ run_of (fields_at l.k l.line l.at);
    }
