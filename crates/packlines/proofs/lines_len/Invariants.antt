-- The lines of the rows from this one on stand behind the bytes counted.
use Rattle.packlines.proofs.Rising.{Reached}
use Rattle.packlines.proofs.lines_len.Given as goal

abbrev pub invariant-loop-row : goal.invariant-loop-row
invariant-loop-row l = Reached l.party l.kinds l.draws l.room l.from l.sum l.row
