-- The number, and what stands behind it.
use Rattle.std.proofs.Common.{rules}
use Rattle.street_answers.proofs.Answering.{answer_number, answer_room, answer_end, answer_put}
use Rattle.street_answers.proofs.print.Goals as goal

ruleset ends = (rules, answer_number, answer_room, answer_end, answer_put)

pub put_number-behind-requires : goal.put_number-behind-requires
put_number-behind-requires c = search ends

pub put_end-requires : goal.put_end-requires
put_end-requires c = search ends

pub returns : goal.returns
returns c = (search ends, search ends)
