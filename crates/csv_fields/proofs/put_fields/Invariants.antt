-- The first fields are written.
use Rattle.csv_fields.proofs.Overwriting.{Put}
use Rattle.csv_fields.proofs.put_fields.Given as goal

abbrev pub invariant-loop-x : goal.invariant-loop-x
invariant-loop-x l = Put l.fn.out l.at l.xs l.out l.pos l.x-index
