-- The M line behind its answer.
use Rattle.std.proofs.Common.{rules}
use Rattle.street_answers.proofs.Printing.{print_room, print_end, print_put}
use Rattle.street_answers.proofs.print_masks.Goals as goal

ruleset ends = (rules, print_room, print_end, print_put)

pub put_masks-requires : goal.put_masks-requires
put_masks-requires c = search ends

pub returns : goal.returns
returns c = (search ends, search ends)
