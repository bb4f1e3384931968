-- Both are asked, and the first refusal is the answer.
use Rattle.street_steps.proofs.Room.{room_joined}
use Rattle.street_steps.proofs.room_refusal.Goals as goal

pub returns : goal.returns
returns c = room_joined _ _ _ _ _ c.and.ensures c.station_refusal.ensures c.size.ensures
