-- `inverses::to_255`: antt computes the test over the whole table.
use borrow.Author.Rules.{rules}
use Rattle.field.specs.Arithmetic.{product}
use Rattle.inverses.proofs.Entries.{table_inverts}
use Rattle.inverses.proofs.to_255.Goals as goal

pub returns : goal.returns
unfolding product
returns c = (search rules, search (rules, table_inverts 254))
