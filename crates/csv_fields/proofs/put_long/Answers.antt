-- Ten digits are written, and the comma over the first where it is a zero.
use Rattle.std.proofs.Common.{rules}
use Rattle.csv_fields.proofs.Fronting.{long_fits, long_sub, long_room, long_ten, long_end, long_written}
use Rattle.csv_fields.proofs.put_long.Goals as goal

ruleset ends = (rules, long_fits, long_sub, long_room, long_ten, long_end, long_written)

pub overflow_add-end-2 : goal.overflow_add-end-2
overflow_add-end-2 c = search ends

pub overflow_sub-from : goal.overflow_sub-from
overflow_sub-from c = search ends

pub slice_bounds-put_ten-end : goal.slice_bounds-put_ten-end
slice_bounds-put_ten-end c = search ends

pub put_ten-requires : goal.put_ten-requires
put_ten-requires c = search ends

pub returns : goal.returns
returns c = search ends
