-- `start` meets its contract.
use borrow.Author.Rules.{rules}
use Rattle.street_interpreter.proofs.Changing.{start_ends}
use Rattle.street_interpreter.proofs.start.Statement.{statement}
use Rattle.street_interpreter.proofs.start.Tie as tie

ruleset ends = (rules, start_ends)

pub start_spec : {M : Type 1} → statement M
start_spec =
    tie.close
    (tie.spec (λ c κs. search ends) (λ c κs. search ends) (λ c. search ends))
