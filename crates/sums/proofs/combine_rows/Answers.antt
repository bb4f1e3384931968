-- One number more of row dest is written.
use Rattle.std.proofs.Common.{rules}
use Rattle.sums.proofs.Within.{within_more, within_end}
use Rattle.sums.proofs.combine_rows.Goals as goal

pub loop-i-preserved : goal.loop-i-preserved
loop-i-preserved c = (search rules, search rules, search (rules, within_more))

pub returns : goal.returns
returns c = search (rules, within_end)
