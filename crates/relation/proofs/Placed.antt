-- The records of a lent list are rows of it, as long as a record.
use Prim.Native.Nat.{◌+◌, ◌*◌}
use Rattle.session.proofs.Placed.{places}
use Rattle.relation.specs.Places.{long_record, RecordPlaces}

pub record_places : RecordPlaces
record_places s blocks k = record {
  of_a = (places.rows (long_record s) blocks (2 * k)).read;
  of_b = (places.rows (long_record s) blocks (2 * k + 1)).read;
  long_a = (places.rows (long_record s) blocks (2 * k)).read_all;
  long_b = (places.rows (long_record s) blocks (2 * k + 1)).read_all;
}
