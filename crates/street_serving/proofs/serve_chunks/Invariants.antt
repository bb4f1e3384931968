-- `serve_chunks` goes from chunk to chunk. Before each, `Held`; the turns fall.
use Rattle.street_serving.proofs.Turns.{Held}
use Rattle.street_serving.proofs.serve_chunks.Given as goal

abbrev pub invariant-loop-turns : goal.invariant-loop-turns
invariant-loop-turns g l = Held l.feed l.store l.line l.chunk l.out l.printed l.turns

abbrev pub decreases-loop-turns : goal.decreases-loop-turns
decreases-loop-turns g l = l.turns
