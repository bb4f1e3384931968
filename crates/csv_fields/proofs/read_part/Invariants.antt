-- The same, and what is in the room with what the rest says is what the whole says.
use Rattle.std.proofs.Common.{◌≡◌, ◌-◌, length, take}
use Rattle.csv_fields.specs.Fields.{fields_at, run_from}
use Rattle.csv_fields.proofs.Rooming.{ahead, lows_of}
use Rattle.csv_fields.proofs.read_part.Given as goal

abbrev pub invariant-loop-place : goal.invariant-loop-place
invariant-loop-place l =
    record {
      line : l.reader.line.now ≡ l.line;
      leads : run_from l.so_far (fields_at (length l.fn.room - l.place-index) l.line l.reader.at) ≡ run_from l.largest (fields_at (length l.fn.room) l.line l.at);
      says : ahead (take l.place-index l.room) (lows_of (fields_at (length l.fn.room - l.place-index) l.line l.reader.at)) ≡ lows_of (fields_at (length l.fn.room) l.line l.at);
    }
