use Rattle.std.proofs.Common.{rules}
use Rattle.otherdraw.proofs.Asking.{own_joined}
use Rattle.otherdraw.proofs.checks.own.Goals as goal

pub returns : goal.returns
returns c = search (rules, own_joined)
