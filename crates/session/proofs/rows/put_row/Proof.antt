-- `rows::put_row` meets its contract.
use borrow.Author.Rules.{rules}
use Rattle.session.proofs.RowLaws.{row_put}
use Rattle.session.proofs.rows.put_row.Statement.{statement}
use Rattle.session.proofs.rows.put_row.Tie as tie

pub put_row_spec : {M : Type 1} → statement M
put_row_spec =
    tie.close
    (tie.spec (λ c κs. search rules) (λ c κs. search rules) (λ c. search rules) (λ c. search rules) (λ c. search rules)
    (λ c. search rules) (λ c. search rules) (λ c κs. search rules) (λ c. search rules) (λ c. search (rules, row_put)))
