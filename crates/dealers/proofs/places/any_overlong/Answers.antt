-- A place is overlong.
use native.Mathlib.Omega.{arith}
use Rattle.dealers.proofs.Positions.{over_found}
use Rattle.dealers.proofs.places.any_overlong.Goals as goal

pub returns-then-length_in-gt-PLACE_LEN : goal.returns-then-length_in-gt-PLACE_LEN
returns-then-length_in-gt-PLACE_LEN c =
    over_found c.args.state.now _ c.loop-dealer.invariant _ (omega (arith, c.loop-dealer-test.true)) c.length_in.ensures c.if-length_in-gt-PLACE_LEN.true
