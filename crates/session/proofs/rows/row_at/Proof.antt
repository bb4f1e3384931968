-- `rows::row_at` meets its contract.
use borrow.Author.Rules.{rules}
use Rattle.session.proofs.RowLaws.{start_is, start_fits}
use Rattle.session.proofs.rows.row_at.Statement.{statement}
use Rattle.session.proofs.rows.row_at.Tie as tie

ruleset starts = (rules, start_is, start_fits)

pub row_at_spec : {M : Type 1} → statement M
row_at_spec = tie.close (tie.spec (λ c κs. search rules) (λ c. search starts) (λ c. search starts))
