-- The coefficients before this one are written, and the last of them is remembered as it was.
use Rattle.vanishing.proofs.Turns.{Lining}
use Rattle.vanishing.proofs.times_line.Given as goal

abbrev pub invariant-loop-place : goal.invariant-loop-place
invariant-loop-place l = Lining l.k l.fn.list l.before l.place-index l.list
