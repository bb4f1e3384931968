-- A line whose numbers are looked at: they are beyond the limit, or the list takes them.
use Rattle.std.proofs.Common.{sym, ◌∙◌}
use Rattle.lines.proofs.Answers.{beyond_line, beyond_list, taken_line, taken_list}
use Rattle.lines.proofs.read_line.Goals as goal

pub returns-then-limit-run-clause-value : goal.returns-then-limit-run-clause-value
returns-then-limit-run-clause-value c =
    beyond_line c.args.n c.args.k c.args.line.now c.args.out.now _ _ _ _ _ c.in-Some.ensures _ c.read_front.ensures.value _ _ c.in-Some-read_front.is
    _ c.out_of_range.ensures _ c.limit_of-limit.ensures c.if-limit-run.true _ c.no_line-then-limit-run.ensures

pub returns-then-limit-run-clause-out_after : goal.returns-then-limit-run-clause-out_after
returns-then-limit-run-clause-out_after c =
    beyond_list c.args.n c.args.k c.args.line.now c.args.out.now _ _ _ _ _ c.in-Some.ensures _ c.read_front.ensures.value _ _ c.in-Some-read_front.is
    _ c.out_of_range.ensures _ c.limit_of-limit.ensures c.if-limit-run.true _ c.read_front.ensures.out_after

pub returns-clause-value : goal.returns-clause-value
returns-clause-value c =
    taken_line c.args.n c.args.k c.args.line.now c.args.out.now _ _ _ _ _ c.in-Some.ensures _ c.read_front.ensures.value _ _ c.in-Some-read_front.is
    _ c.out_of_range.ensures _ c.limit_of-limit.ensures c.if-limit-run.false

pub returns-clause-out_after : goal.returns-clause-out_after
returns-clause-out_after c =
    taken_list c.args.n c.args.k c.args.line.now c.args.out.now _ _ _ _ _ c.in-Some.ensures _ c.read_front.ensures.value _ _ c.in-Some-read_front.is
    _ c.out_of_range.ensures _ c.limit_of-limit.ensures c.if-limit-run.false _ c.read_front.ensures.out_after
