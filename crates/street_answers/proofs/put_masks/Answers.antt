-- The line has room, and stands where it was written.
use Rattle.std.proofs.Common.{rules}
use Rattle.street_answers.proofs.Printing.{masks_room, masks_end, masks_put}
use Rattle.street_answers.proofs.put_masks.Goals as goal

ruleset ends = (rules, masks_room, masks_end, masks_put)

pub put_line-size-requires : goal.put_line-size-requires
put_line-size-requires c = search ends

pub returns : goal.returns
returns c = (search ends, search ends)
