-- A field more, and where all are written.
use Rattle.std.proofs.Common.{rules}
use Rattle.csv_fields.proofs.Overwriting.{put_start_lem, put_room, put_more, put_place, put_list}
use Rattle.csv_fields.proofs.put_fields.Goals as goal

ruleset turns = (rules, put_start_lem, put_room, put_more, put_place, put_list)

pub loop-x-init : goal.loop-x-init
loop-x-init c = search turns

pub put_field-pos-requires : goal.put_field-pos-requires
put_field-pos-requires c = search turns

pub loop-x-preserved : goal.loop-x-preserved
loop-x-preserved c = search turns

pub returns : goal.returns
returns c = search turns
