use Rattle.std.proofs.Common.{rules}
use Rattle.packfile.proofs.Asking.{drawn_joined}
use Rattle.packfile.proofs.checks.drawn.Goals as goal

pub returns : goal.returns
returns c = search (rules, drawn_joined)
