-- `finish` closes the input, unless the program broke off. What the calls ensured lies too deep for `search` to find.
use Rattle.street_serving.proofs.Closing.{finished_closed}
use Rattle.street_serving.proofs.finish.Goals as goal

pub returns : goal.returns
returns g c =
    finished_closed _ _ _ _ _ _ _ _ _ c.end_input-taken.ensures c.requires _ c.unwrap_or-ended.ensures _ c.end_input-taken.auto.out _
    c.broken_off.ensures c.if-broken_off.false c.print-last.ensures.total
