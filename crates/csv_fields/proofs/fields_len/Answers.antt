-- A field more, and where all are summed.
use Rattle.std.proofs.Common.{rules}
use Rattle.csv_fields.proofs.Overwriting.{summed_start, summed_fits_comma, summed_fits, summed_more, summed_end}
use Rattle.csv_fields.proofs.fields_len.Goals as goal

ruleset turns = (rules, summed_start, summed_fits_comma, summed_fits, summed_more, summed_end)

pub loop-x-init : goal.loop-x-init
loop-x-init c = search turns

pub overflow_add-sum : goal.overflow_add-sum
overflow_add-sum c = search turns

pub overflow_add-sum-in-loop-x : goal.overflow_add-sum-in-loop-x
overflow_add-sum-in-loop-x c = search turns

pub loop-x-preserved : goal.loop-x-preserved
loop-x-preserved c = search turns

pub returns : goal.returns
returns c = search turns
