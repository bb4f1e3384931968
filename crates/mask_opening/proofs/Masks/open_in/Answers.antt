-- `Masks::open_in` meets its contract.
use native.Mathlib.Omega.{arith}
use Rattle.mask_opening.proofs.Opens.{room_holds}
use Rattle.mask_opening.proofs.Masks.open_in.Goals as goal

pub whole_as_front-room : goal.whole_as_front-room
whole_as_front-room g c =
    (room_holds c.args.self.party.shape g.row.ROOM _ c.args.self.maskable.sized.valid c.requires.0 c.row_len-width.ensures, omega (arith, c.requires.1))
