-- `agreement::all_fit` meets its contract: what is left to test decides the whole.
use Prim.Native.Nat.{◌≤◌, ◌-◌}
use lib.ListN.{length}
use Rattle.agreement.specs.Sums.{fits}
use Rattle.agreement.proofs.Fitting.{Tested}
use Rattle.agreement.proofs.all_fit.Given as goal

abbrev pub invariant-loop-i : goal.invariant-loop-i
invariant-loop-i l = (l.i ≤ length l.nodes) × Tested (fits l.inverses l.above l.below) l.nodes l.values l.i
