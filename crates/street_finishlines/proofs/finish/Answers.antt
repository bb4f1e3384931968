-- `finish` meets its contract. What the calls ensured lies too deep for `search` to find.
use Rattle.street_finishlines.proofs.Finishing.{collected_street, pair_settled, pair_written}
use Rattle.street_finishlines.proofs.finish.Goals as goal

pub multiply_after-requires : goal.multiply_after-requires
multiply_after-requires c = (collected_street _ _ _ _ _ c.collect_kept-collected.ensures c.requires.0, c.requires.1)

pub returns-clause-result_value : goal.returns-clause-result_value
returns-clause-result_value c =
    pair_settled _ _ _ _ _ c.collect_kept-collected.ensures _ c.multiply_after.ensures.value

pub returns-clause-store_after : goal.returns-clause-store_after
returns-clause-store_after c =
    pair_written _ _ _ _ _ c.collect_kept-collected.ensures _ c.multiply_after.ensures.store_after
