use Rattle.std.proofs.Common.{◌≤◌, length}
use Rattle.refusal.proofs.Elements.{SoFar}
use Rattle.refusal.proofs.numbers.Given as goal

abbrev pub invariant-loop-x : goal.invariant-loop-x
invariant-loop-x l = (l.x-index ≤ length l.list) × SoFar l.list l.beyond l.x-index
