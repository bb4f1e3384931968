-- `barycentric::weigh_four` meets its contract: 0 and the first i nodes have gained their distances to the four.
use lib.ListN.{length}
use Rattle.barycentric.proofs.Fours.{Gaining}
use Rattle.barycentric.proofs.weigh_four.Given as goal

abbrev pub invariant-loop-i : goal.invariant-loop-i
invariant-loop-i l = Gaining l.nodes l.gaps l.k (length l.initial.list) l.list l.i
