-- `serve_chunks` goes from chunk to chunk. What the calls ensured lies too deep for `search` to find.
use Rattle.street_serving.proofs.Turns.{held_start, held_more, stopped_late, stopped_here}
use Rattle.street_serving.proofs.serve_chunks.Goals as goal

pub loop-turns-init : goal.loop-turns-init
loop-turns-init g c = held_start _ _ _ _ _ _ c.requires.0 c.requires.1 c.begin-feed.ensures

pub returns-then-turns-eq0-clause-stopped : goal.returns-then-turns-eq0-clause-stopped
returns-then-turns-eq0-clause-stopped g c =
    stopped_late _ _ _ _ _ _ _ c.loop-turns.invariant c.serve_chunk-served.result _ _ _ _ c.serve_chunk-served.ensures.answered c.serve_chunk-served.ensures.fact.0 c.serve_chunk-served.ensures.fact.1 c.serve_chunk-served.ensures.fact.2
    c.serve_chunk-served.ensures.fact.3 c.if-turns-eq0.true

pub returns-then-stops-clause-stopped : goal.returns-then-stops-clause-stopped
returns-then-stops-clause-stopped g c =
    stopped_here _ _ _ _ _ _ _ c.loop-turns.invariant c.serve_chunk-served.result _ _ _ _ c.serve_chunk-served.ensures.answered c.serve_chunk-served.ensures.fact.0 c.serve_chunk-served.ensures.fact.1 c.serve_chunk-served.ensures.fact.2
    c.serve_chunk-served.ensures.fact.3 _ c.stops.ensures c.if-stops.true

pub loop-turns-preserved : goal.loop-turns-preserved
loop-turns-preserved g c =
    held_more _ _ _ _ _ _ _ c.loop-turns.invariant c.serve_chunk-served.result _ _ _ _ c.serve_chunk-served.ensures.answered c.serve_chunk-served.ensures.fact.0 c.serve_chunk-served.ensures.fact.1 c.serve_chunk-served.ensures.fact.2
    c.serve_chunk-served.ensures.fact.3 c.serve_chunk-served.auto.chunk c.serve_chunk-served.auto.out c.if-turns-eq0.false _ c.stops.ensures c.if-stops.false
