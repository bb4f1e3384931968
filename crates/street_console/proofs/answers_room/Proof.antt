-- `answers_room` has the room's length, whatever it is.
use Prim.Native.Nat.{ℕ}
use lib.ListN.{length-replicate}
use Rattle.street_serving.specs.Sizes.{answers_room_of}
use Rattle.street_console.proofs.answers_room.Statement.{statement}
use Rattle.street_console.proofs.answers_room.Tie as tie

pub answers_room_spec : {M : Type 1} → statement M
answers_room_spec = tie.close (tie.spec (λ c. length-replicate {A = ℕ} answers_room_of 0))
