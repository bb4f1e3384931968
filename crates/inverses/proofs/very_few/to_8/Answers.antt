-- `inverses::very_few::to_8`: antt computes the test over the whole table.
use borrow.Author.Rules.{rules}
use Rattle.field.specs.Arithmetic.{product}
use Rattle.inverses.proofs.Entries.{table_inverts}
use Rattle.inverses.proofs.very_few.to_8.Goals as goal

pub returns : goal.returns
unfolding product
returns c = (search rules, search (rules, table_inverts 7))
