-- A line that is taken: refused, or dealt.
use mathlib.Core.Path.{ap}
use Rattle.std.proofs.Common.{rules}
use Rattle.refusal.specs.Numbers.{number, refused}
use Rattle.refusal.proofs.Checks.{not_zero}
use Rattle.dealers.proofs.Turning.{untaken_dealt, untaken_rows, taken_dealt, taken_rows_is}
use Rattle.dealers.proofs.take_turn.Goals as goal

pub returns-in_err-said-clause-value : goal.returns-in_err-said-clause-value
returns-in_err-said-clause-value c =
    let taken = untaken_dealt c.args.shape c.args.marks.now c.args.rows.now c.args.state.now (refused c.args.checked) (ap refused c.in_ok-checked.was)
    _ c.in-Some.ensures.0 c.in-Some.ensures.1 (number c.in_err-said.field-0.0) c.in_err-said.ensures.value (not_zero c.in_err-said.field-0.0) in
    search (rules, taken)

pub returns-in_err-said-clause-rows_after : goal.returns-in_err-said-clause-rows_after
returns-in_err-said-clause-rows_after c =
    untaken_rows c.args.shape c.args.marks.now _ _ (refused c.args.checked) (ap refused c.in_ok-checked.was) _ c.in-Some.ensures.0 c.in-Some.ensures.1
    (number c.in_err-said.field-0.0) c.in_err-said.ensures.value (not_zero c.in_err-said.field-0.0)

pub returns-clause-value : goal.returns-clause-value
returns-clause-value c =
    taken_dealt _ _ _ _ (refused c.args.checked) (ap refused c.in_ok-checked.was) _ c.in-Some.ensures.0 c.in-Some.ensures.1 c.in_ok-said.said.row
    c.in_ok-said.said.c c.in_ok-said.ensures.value _ c.deal_said.ensures.value

pub returns-clause-rows_after : goal.returns-clause-rows_after
returns-clause-rows_after c =
    taken_rows_is c.args.shape c.args.marks.now _ _ (refused c.args.checked) (ap refused c.in_ok-checked.was) _ c.in-Some.ensures.0 c.in-Some.ensures.1
    c.in_ok-said.said.row c.in_ok-said.said.c c.in_ok-said.ensures.value _ c.deal_said.ensures.rows_after
