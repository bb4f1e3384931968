-- One digit more, or none.
use Rattle.std.proofs.Common.{rules}
use Rattle.street_answers.proofs.Counting.{counted_more, counted_end}
use Rattle.street_answers.proofs.long_size.Goals as goal

ruleset ends = (rules, counted_more, counted_end)

pub loop-front-preserved : goal.loop-front-preserved
loop-front-preserved c = search ends

pub returns : goal.returns
returns c = search ends
