-- `look` meets its contract.
use borrow.Author.Rules.{rules}
use Rattle.street_interpreter.proofs.Fitting.{street_g, street_o, street_m, low_o, high_o, low_m, high_m}
use Rattle.street_interpreter.proofs.Looking.{look_open, look_keep, look_masks, look_refused}
use Rattle.street_interpreter.proofs.look.Statement.{statement}
use Rattle.street_interpreter.proofs.look.Tie as tie

ruleset ends = (rules, street_g, street_o, street_m, low_o, high_o, low_m, high_m, look_open, look_keep, look_masks, look_refused)

pub look_spec : {M : Type 1} → statement M
look_spec =
    tie.close
    (tie.spec (λ c κs. search ends) (λ c. search ends) (λ c κs. search ends) (λ c κs. search ends)
    (λ c κs. search ends) (λ c κs. search ends) (λ c. search ends) (λ c. search ends) (λ c. search ends)
    (λ c. search ends) (λ c. search ends) (λ c. search ends) (λ c. search ends))
