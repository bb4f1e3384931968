-- Five bytes are the text behind the number.
use Rattle.std.proofs.Common.{rules}
use Rattle.street_answers.proofs.Answering.{digit_end, digit_put}
use Rattle.street_answers.proofs.put_digit.Goals as goal

ruleset ends = (rules, digit_end, digit_put)

pub returns : goal.returns
returns c = (search ends, search ends)
