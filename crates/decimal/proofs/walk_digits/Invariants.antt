-- The digits from i on, behind what was read so far, say the whole number.
use Rattle.decimal.proofs.Scanning.{Walked}
use Rattle.decimal.proofs.walk_digits.Given as goal

abbrev pub invariant-loop-i : goal.invariant-loop-i
invariant-loop-i l = Walked l.line l.at l.end l.value l.i
