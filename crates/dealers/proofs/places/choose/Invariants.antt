-- The dealers passed have no line waiting.
use Rattle.dealers.proofs.Choosing.{Seeking}
use Rattle.dealers.proofs.places.choose.Given as goal

abbrev pub invariant-loop-turn : goal.invariant-loop-turn
invariant-loop-turn l = Seeking l.fn.state l.dealer l.turn
