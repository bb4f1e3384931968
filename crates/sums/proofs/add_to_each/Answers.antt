-- c is added to one number more.
use Rattle.std.proofs.Common.{rules}
use Rattle.sums.proofs.Writers.{mapped_more, mapped_end}
use Rattle.sums.proofs.add_to_each.Goals as goal

pub loop-place-preserved : goal.loop-place-preserved
loop-place-preserved c = search (rules, mapped_more)

pub returns : goal.returns
returns c = search (rules, mapped_end)
