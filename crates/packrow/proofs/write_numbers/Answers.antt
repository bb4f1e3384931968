use Rattle.std.proofs.Common.{rules}
use Rattle.packrow.proofs.Shares.{raw_room, raw_front, triple_front}
use Rattle.packrow.proofs.write_numbers.Goals as goal

pub write_row-requires : goal.write_row-requires
write_row-requires c = search (rules, raw_room)

pub returns-in-Ok-Raw : goal.returns-in-Ok-Raw
returns-in-Ok-Raw c = search (rules, raw_front)

pub returns-in-Ok-Triple : goal.returns-in-Ok-Triple
returns-in-Ok-Triple c = search (rules, triple_front)
