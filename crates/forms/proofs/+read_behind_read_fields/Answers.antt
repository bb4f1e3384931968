-- What the search leaves of the cycle of calls {read_behind, read_fields}.
use Rattle.std.proofs.Common.{rules, refl, sym, ◌∙◌}
use Rattle.forms.proofs.Joining.{empty_run, empty_list, all_count, all_run, all_list, behind_falls, behind_run, behind_room, behind_count, behind_list, behind_same}
use Rattle.forms.proofs.Joining.{part_room, part_count, part_again, front_count, front_some, front_within, front_falls, part_broken, whole_run, whole_list}
use Rattle.forms.proofs.+read_behind_read_fields.Goals as goal

ruleset rest = (rules, all_count, all_run, all_list, behind_falls, behind_run, behind_room, behind_count, behind_list, behind_same)

ruleset parts = (rules, empty_run, empty_list, part_room, part_count, part_again, front_count, front_some, front_within, front_falls, part_broken, whole_run, whole_list)

pub read_behind-returns-then-out-n-clause-value : goal.read_behind-returns-then-out-n-clause-value
read_behind-returns-then-out-n-clause-value t c = search rest

pub read_behind-returns-then-out-n-clause-out_after : goal.read_behind-returns-then-out-n-clause-out_after
read_behind-returns-then-out-n-clause-out_after t c = search rest

pub read_fields-returns-then-out-lt1-clause-value : goal.read_fields-returns-then-out-lt1-clause-value
read_fields-returns-then-out-lt1-clause-value t c = search parts

pub read_fields-returns-then-out-lt1-clause-out_after : goal.read_fields-returns-then-out-lt1-clause-out_after
read_fields-returns-then-out-lt1-clause-out_after t c = search parts

pub read_fields-returns-clause-value : goal.read_fields-returns-clause-value
read_fields-returns-clause-value t c =
    let part = c.read_part in
    whole_run c.args.line.now c.args.out.now _ _ _ _ c.part_of-n.ensures refl part.new.room part.auto.room part.ensures.1
    c.in_ok-part.part (sym c.in_ok-part.was ∙ part.ensures.0) c.read_behind.result c.read_behind.ensures.value

pub read_fields-returns-clause-out_after : goal.read_fields-returns-clause-out_after
read_fields-returns-clause-out_after t c =
    let part = c.read_part in
    whole_list c.args.line.now c.args.out.now _ _ _ _ c.part_of-n.ensures refl part.new.room part.auto.room part.ensures.1
    c.in_ok-part.part (sym c.in_ok-part.was ∙ part.ensures.0) c.read_behind.result c.read_behind.ensures.value
    c.args.limit c.requires c.read_behind.new.out c.read_behind.ensures.out_after

pub read_fields-returns-in_err-part-clause-value : goal.read_fields-returns-in_err-part-clause-value
read_fields-returns-in_err-part-clause-value t c =
    let part = c.read_part in
    c.from_residual.ensures
    ∙ part_broken c.args.line.now c.args.out.now _ _ _ _ c.part_of-n.ensures refl part.new.room part.auto.room part.ensures.1
    (sym c.in_err-part.was ∙ part.ensures.0)
