-- `barycentric::missing` meets its contract: the numbers found, and those still missing among the nodes from i on, are all.
use Prim.Native.Nat.{◌+◌, ◌-◌}
use lib.ListN.{length}
use Rattle.barycentric.proofs.Moves.{Finding}
use Rattle.barycentric.proofs.missing.Given as goal

abbrev pub invariant-loop-j : goal.invariant-loop-j
invariant-loop-j l = Finding l.nodes l.n l.list l.i l.j

abbrev pub decreases-loop-j : goal.decreases-loop-j
decreases-loop-j l = length l.nodes + l.n - l.i - l.j
