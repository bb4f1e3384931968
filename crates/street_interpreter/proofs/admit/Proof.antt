-- `admit` meets its contract.
use borrow.Author.Rules.{rules}
use Rattle.street_interpreter.proofs.Changing.{admit_ends}
use Rattle.street_interpreter.proofs.admit.Statement.{statement}
use Rattle.street_interpreter.proofs.admit.Tie as tie

ruleset ends = (rules, admit_ends)

pub admit_spec : {M : Type 1} → statement M
admit_spec =
    tie.close
    (tie.spec (λ c κs. search ends) (λ c. search ends))
