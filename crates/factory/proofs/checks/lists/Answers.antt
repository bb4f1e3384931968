use Rattle.std.proofs.Common.{rules}
use Rattle.factory.proofs.Refusals.{lists_joined}
use Rattle.factory.proofs.checks.lists.Goals as goal

pub returns : goal.returns
returns c = search (rules, lists_joined)
