-- `barycentric::binomials` meets its contract.
use borrow.Author.Rules.{rules}
use Rattle.barycentric.proofs.Rows.{row_sized, row_sized_half}
use Rattle.barycentric.proofs.binomials.Goals as goal

pub upper_half-requires : goal.upper_half-requires
upper_half-requires c = (search rules, search rules, search (rules, row_sized_half))

pub returns : goal.returns
returns c = search (rules, row_sized)
