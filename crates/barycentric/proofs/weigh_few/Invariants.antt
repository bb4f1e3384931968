-- `barycentric::weigh_few` meets its contract: the weights of 0 and of the first i nodes stand in front.
use lib.ListN.{length}
use Rattle.barycentric.proofs.Moves.{Moved}
use Rattle.barycentric.proofs.weigh_few.Given as goal

abbrev pub invariant-loop-i : goal.invariant-loop-i
invariant-loop-i l = Moved l.nodes l.gaps l.few (length l.initial.list) l.list l.i
