use Rattle.std.proofs.Common.{rules}
use Rattle.packfile.proofs.Asking.{frame_joined}
use Rattle.packfile.proofs.checks.frame.Goals as goal

pub returns : goal.returns
returns c = search (rules, frame_joined)
