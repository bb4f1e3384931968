-- `mark_of` meets its contract.
use borrow.Author.Rules.{rules}
use Rattle.accepting.proofs.Parts.{mark_right}
use Rattle.accepting.proofs.mark_of.Goals as goal

pub returns-then-checked_value-row : goal.returns-then-checked_value-row
returns-then-checked_value-row c = search (rules, mark_right)
