-- One number more is compared.
use Rattle.std.proofs.Common.{rules}
use Rattle.vanishing.proofs.Turns.{occurs_turn, occurs_ended}
use Rattle.vanishing.proofs.occurs.Goals as goal

pub loop-y-preserved : goal.loop-y-preserved
loop-y-preserved c = search (rules, occurs_turn)

pub returns : goal.returns
returns c = search (rules, occurs_ended)
