-- One number more is joined.
use Rattle.std.proofs.Common.{rules}
use Rattle.callers.proofs.Shared.{shared_more}
use Rattle.callers.proofs.share.Goals as goal

pub loop-k-preserved : goal.loop-k-preserved
loop-k-preserved c = search (rules, shared_more)
