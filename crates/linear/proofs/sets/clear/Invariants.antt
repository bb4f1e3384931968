-- The first k numbers are cleared, as if those of row 96 were joined.
use Prim.Native.Nat.{◌≤◌}
use mathlib.Core.Path.{◌≡◌}
use lib.ListN.{length}
use Rattle.callers.specs.Sets.{shared}
use Rattle.linear.proofs.sets.clear.Given as goal

abbrev pub invariant-loop-k : goal.invariant-loop-k
invariant-loop-k l = (l.k ≤ 8) × (length l.sets ≡ length l.fn.sets) × (l.sets ≡ shared l.k l.fn.sets l.d 96 96)
