-- The two fields, and the line feed behind them.
use Rattle.std.proofs.Common.{rules}
use Rattle.street_answers.proofs.Answering.{end_fields, end_feed, end_behind, end_same, end_put}
use Rattle.street_answers.proofs.put_fields.Goals as goal

ruleset ends = (rules, end_fields, end_feed, end_behind, end_same, end_put)

pub put_fields-end-requires : goal.put_fields-end-requires
put_fields-end-requires c = search ends

pub bounds-out-end : goal.bounds-out-end
bounds-out-end c = search ends

pub returns : goal.returns
returns c = (search ends, search ends)
