-- `keep_opening` meets its contract.
use borrow.Author.Rules.{rules}
use Rattle.street_store.proofs.Keeping.{street_valid}
use Rattle.street_interpreter.proofs.Fitting.{message_in, message_prefix, message_length_is}
use Rattle.street_interpreter.proofs.Looking.{opening_kept}
use Rattle.street_interpreter.proofs.keep_opening.Statement.{statement}
use Rattle.street_interpreter.proofs.keep_opening.Tie as tie

ruleset ends = (rules, street_valid, message_in, message_prefix, message_length_is, opening_kept)

pub keep_opening_spec : {M : Type 1} → statement M
keep_opening_spec =
    tie.close
    (tie.spec (λ c κs. search ends) (λ c. search ends) (λ c κs. search ends) (λ c. search ends) (λ c. search ends))
