use Rattle.std.proofs.Common.{rules}
use Rattle.kinds.proofs.Kinded.{tallied_fits, tallied_more, tallied_end}
use Rattle.kinds.proofs.draws_len.Goals as goal

pub overflow_add-sum : goal.overflow_add-sum
overflow_add-sum c = search (rules, tallied_fits)

pub loop-kind-preserved : goal.loop-kind-preserved
loop-kind-preserved c = search (rules, tallied_more)

pub returns : goal.returns
returns c = search (rules, tallied_end)
