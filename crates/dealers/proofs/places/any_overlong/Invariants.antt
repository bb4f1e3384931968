-- The places before the dealer's are not overlong.
use Rattle.dealers.proofs.Positions.{Overseen}
use Rattle.dealers.proofs.places.any_overlong.Given as goal

abbrev pub invariant-loop-dealer : goal.invariant-loop-dealer
invariant-loop-dealer l = Overseen l.fn.state l.dealer
