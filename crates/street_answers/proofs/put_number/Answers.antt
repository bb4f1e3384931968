-- The digits have room.
use Rattle.std.proofs.Common.{rules}
use Rattle.street_answers.proofs.Answering.{number_fits, number_room}
use Rattle.street_answers.proofs.put_number.Goals as goal

ruleset ends = (rules, number_fits, number_room)

pub overflow_add-end : goal.overflow_add-end
overflow_add-end c = search ends

pub slice_bounds-put_digits-end : goal.slice_bounds-put_digits-end
slice_bounds-put_digits-end c = search ends
