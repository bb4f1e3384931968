-- One number more is cleared.
use Rattle.std.proofs.Common.{rules}
use Rattle.linear.proofs.Sharing.{clear_more}
use Rattle.linear.proofs.sets.clear.Goals as goal

pub loop-k-preserved : goal.loop-k-preserved
loop-k-preserved c = search (rules, clear_more)
