-- The first i numbers are written.
use Prim.Native.Nat.{◌-◌}
use lib.ListN.{length}
use borrow.Author.Rules.{rules}
use Rattle.session.specs.Rows.{combined}
use Rattle.lists.proofs.Filled.{Filled}
use Rattle.sums.proofs.Writers.{combined_more, combined_end}
use Rattle.sums.proofs.combine.Given as goal

abbrev pub invariant-loop-i : goal.invariant-loop-i
invariant-loop-i l = Filled (combined l.scale l.x l.y) l.fn.out l.i l.out
