-- The lines of the rows from this one on stand behind those written.
use Rattle.packlines.proofs.Rising.{Laid}
use Rattle.packlines.proofs.put_lines.Given as goal

abbrev pub invariant-loop-row : goal.invariant-loop-row
invariant-loop-row l = Laid l.party l.kinds l.draws l.room l.fn.out l.out l.from l.at l.row
