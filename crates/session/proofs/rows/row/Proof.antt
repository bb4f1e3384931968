-- `rows::row` meets its contract.
use borrow.Author.Rules.{rules}
use Rattle.session.proofs.RowLaws.{row_part, row_wide}
use Rattle.session.proofs.rows.row.Statement.{statement}
use Rattle.session.proofs.rows.row.Tie as tie

pub row_spec : {M : Type 1} → statement M
row_spec =
    tie.close
    (tie.spec (λ c κs. search rules) (λ c κs. search rules) (λ c. search rules) (λ c. search rules) (λ c. search rules)
    (λ c. search rules) (λ c. search rules) (λ c. search (rules, row_part, row_wide)))
