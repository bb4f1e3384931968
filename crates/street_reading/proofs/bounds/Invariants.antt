-- The first i rows are within their bounds.
use Rattle.street_reading.proofs.Scanned.{Passed}
use Rattle.street_reading.proofs.bounds.Given as goal

abbrev pub invariant-loop-i : goal.invariant-loop-i
invariant-loop-i l = Passed l.lasts l.rows l.i
