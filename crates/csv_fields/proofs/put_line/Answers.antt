-- The second list and the line feed have room.
use Rattle.std.proofs.Common.{rules}
use Rattle.csv_fields.proofs.Laying.{room_rest, room_feed}
use Rattle.csv_fields.proofs.put_line.Goals as goal

pub put_fields-end-requires : goal.put_fields-end-requires
put_fields-end-requires c = search (rules, room_rest)

pub bounds-out-end : goal.bounds-out-end
bounds-out-end c = search (rules, room_feed)
