-- One value more is written.
use Rattle.std.proofs.Common.{rules}
use Rattle.parts.proofs.Turns.{fill_start, fill_turn, check_is, fill_end}
use Rattle.parts.proofs.evaluate_each.Goals as goal

ruleset turns = (rules, fill_start, fill_turn, check_is, fill_end)

pub loop-i-init : goal.loop-i-init
loop-i-init c = search turns

pub loop-i-preserved : goal.loop-i-preserved
loop-i-preserved c = search turns

pub returns : goal.returns
returns c = search turns
