use Rattle.std.proofs.Common.{rules}
use Rattle.otherdraw.proofs.Asking.{rises}
use Rattle.otherdraw.proofs.checks.rising.Goals as goal

pub loop-post-preserved : goal.loop-post-preserved
loop-post-preserved c = search (rules, rises)
