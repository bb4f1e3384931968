use Rattle.kinds.proofs.Kinded.{Tallied}
use Rattle.kinds.proofs.draws_len.Given as goal

abbrev pub invariant-loop-kind : goal.invariant-loop-kind
invariant-loop-kind l = Tallied l.shape l.kinds l.sum l.kind-index
