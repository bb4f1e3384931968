-- `collect` meets its contract.
use Rattle.collect.proofs.Opens.{collect_allows, collect_ended}
use Rattle.collect.proofs.collect.Goals as goal

pub answer_collecting-requires : goal.answer_collecting-requires
answer_collecting-requires c =
    collect_allows c.args.session c.args.rows.now c.args.first c.args.record_a.now c.args.record_b.now c.tell-told.result.checked c.tell-told.ensures.0

pub returns : goal.returns
returns c =
    let told = c.tell-told.ensures in
    collect_ended c.args.session c.args.rows.now c.args.first c.args.record_a.now c.args.record_b.now c.tell-told.result.checked told.0
    _ _ told.1 told.2 _ c.answer_collecting.ensures
