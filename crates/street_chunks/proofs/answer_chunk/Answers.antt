-- `answer_chunk` feeds the chunk and hands its answers to the output. What the calls ensured lies too deep for `search` to find.
use Rattle.street_chunks.proofs.Feeding.{chunk_answered}
use Rattle.street_chunks.proofs.answer_chunk.Goals as goal

pub returns-clause-answered : goal.returns-clause-answered
returns-clause-answered g c =
    chunk_answered _ _ _ _ _ _ _ _ _ _ c.feed_chunk-taken.ensures c.requires.0 c.requires.1 _ _ c.unwrap_or-fed.ensures c.drain.ensures _ _ c.feed_chunk-taken.auto.out
    c.print-printed.ensures.total
