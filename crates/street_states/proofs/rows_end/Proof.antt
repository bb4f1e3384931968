-- `rows_end` meets its contract.
use borrow.Author.Rules.{rules}
use Rattle.street_states.proofs.Calling.{shape_valid, rows_end}
use Rattle.street_states.proofs.rows_end.Statement.{statement}
use Rattle.street_states.proofs.rows_end.Tie as tie

ruleset ends = (rules, shape_valid, rows_end)

pub rows_end_spec : {M : Type 1} → statement M
rows_end_spec =
    tie.close
    (tie.spec (λ c κs. search ends) (λ c κs. search ends) (λ c. search ends))
