-- A turn as its parts have it: by the refusal of frame and state together.
use Rattle.dealers.specs.Turning.{dealt_as}
use Rattle.dealers.proofs.Turning.{turn_answer_is, turn_rows_is, turn_state_is}
use Rattle.dealers.proofs.turn.Goals as goal

pub returns-clause-value : goal.returns-clause-value
returns-clause-value c =
    turn_answer_is c.args.session c.args.rows.now c.args.state.now c.frame.result c.checks.result c.and-checked.result
    c.frame.ensures c.checks.ensures c.and-checked.ensures c.shape.result c.shape.ensures
    (dealt_as c.take_turn-dealt.result) c.take_turn-dealt.ensures.value c.answer_turn.result c.answer_turn.ensures

pub returns-clause-rows_after : goal.returns-clause-rows_after
returns-clause-rows_after c =
    turn_rows_is c.args.session c.args.rows.now c.args.state.now c.frame.result c.checks.result c.and-checked.result
    c.frame.ensures c.checks.ensures c.and-checked.ensures c.shape.result c.shape.ensures
    c.take_turn-dealt.new.rows c.take_turn-dealt.ensures.rows_after

pub returns-clause-state_after : goal.returns-clause-state_after
returns-clause-state_after c =
    turn_state_is c.args.session c.args.rows.now c.args.state.now c.frame.result c.checks.result c.and-checked.result
    c.frame.ensures c.checks.ensures c.and-checked.ensures c.shape.result c.shape.ensures
    c.take_turn-dealt.new.state c.take_turn-dealt.ensures.state_after
