-- One number more is written.
use Rattle.std.proofs.Common.{rules}
use Rattle.sums.proofs.Writers.{combined_more, combined_end}
use Rattle.sums.proofs.combine.Goals as goal

pub loop-i-preserved : goal.loop-i-preserved
loop-i-preserved c = search (rules, combined_more)

pub returns : goal.returns
returns c = search (rules, combined_end)
