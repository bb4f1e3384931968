-- The sum so far is that of the first fields.
use Rattle.csv_fields.proofs.Overwriting.{Summed}
use Rattle.csv_fields.proofs.fields_len.Given as goal

abbrev pub invariant-loop-x : goal.invariant-loop-x
invariant-loop-x l = Summed l.xs l.sum l.x-index
