-- What is told, and what the list has.
use Rattle.std.proofs.Common.{rules}
use Rattle.forms.proofs.Fronts.{front_run, front_read}
use Rattle.forms.proofs.read_front.Goals as goal

pub returns-clause-value : goal.returns-clause-value
returns-clause-value c = search (rules, front_run)

pub returns-clause-out_after : goal.returns-clause-out_after
returns-clause-out_after c =
    let read = c.read_fields-run in
    let cleared = c.clear_if in
    front_read c.args.line.now c.args.out.now c.args.at c.args.count c.requires.1
    read.new.out cleared.new.list read.result c.args.limit c.below.result
    read.ensures.out_after read.auto.out c.below.ensures cleared.ensures
