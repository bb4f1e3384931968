-- `finish` meets its contract. What the calls ensured lies too deep for `search` to find.
use Rattle.street_interpreter.proofs.Changing.{finish_ends}
use Rattle.street_interpreter.proofs.finish.Goals as goal

pub returns : goal.returns
returns c =
    finish_ends _ _ c.finish-answer.result c.settle.result c.settle.ensures.0 c.settle.ensures.1 _ _ _ _ _ c.place-first.ensures c.requires.1
    c.finish-answer.ensures.result_value c.finish-answer.ensures.store_after
