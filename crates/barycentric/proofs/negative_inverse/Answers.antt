-- By the table's rule.
use Rattle.std.proofs.Common.{rules}
use Rattle.barycentric.proofs.Rows.{entry_below, entry_negative}
use Rattle.barycentric.proofs.negative_inverse.Goals as goal

pub returns : goal.returns
returns c = search (rules, entry_below, entry_negative)
