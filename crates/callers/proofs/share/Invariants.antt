-- The first k numbers are joined.
use Prim.Native.Nat.{◌≤◌}
use mathlib.Core.Path.{◌≡◌}
use lib.ListN.{length}
use Rattle.callers.specs.Sets.{shared}
use Rattle.callers.proofs.share.Given as goal

abbrev pub invariant-loop-k : goal.invariant-loop-k
invariant-loop-k l = (l.k ≤ 8) × (length l.sets ≡ length l.fn.sets) × (l.sets ≡ shared l.k l.fn.sets l.d l.a l.b)
