-- No gap is left.
use Rattle.std.proofs.Common.{rules}
use Rattle.barycentric.proofs.Fours.{weighing_end}
use Rattle.barycentric.proofs.weigh_nodes.Goals as goal

pub returns : goal.returns
returns c = search (rules, weighing_end)
