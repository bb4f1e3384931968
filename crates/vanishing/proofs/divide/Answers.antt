-- One coefficient more is divided.
use Rattle.std.proofs.Common.{rules}
use Rattle.vanishing.proofs.Turns.{divided_more, divided_end}
use Rattle.vanishing.proofs.divide.Goals as goal

pub loop-c-preserved : goal.loop-c-preserved
loop-c-preserved c = search (rules, divided_more)

pub returns : goal.returns
returns c = search (rules, divided_end)
