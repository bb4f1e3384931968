-- `change` meets its contract.
use borrow.Author.Rules.{rules}
use Rattle.street_states.proofs.Calling.{shape_valid}
use Rattle.street_interpreter.proofs.Fitting.{street_d, street_r, street_t, street_l, street_x, row_in, row_fits, row_prefix, triple_in, triple_fits, triple_prefix, some_numbers}
use Rattle.street_interpreter.proofs.Changing.{change_deal, change_load, change_triple, change_sum, change_masks}
use Rattle.street_interpreter.proofs.change.Statement.{statement}
use Rattle.street_interpreter.proofs.change.Tie as tie

ruleset ends = (rules, shape_valid, street_d, street_r, street_t, street_l, street_x, row_in, row_fits, row_prefix, triple_in, triple_fits, triple_prefix, some_numbers, change_deal, change_load, change_triple, change_sum, change_masks)

pub change_spec : {M : Type 1} → statement M
change_spec =
    tie.close
    (tie.spec (λ c κs. search ends) (λ c. search ends) (λ c κs. search ends) (λ c κs. search ends) (λ c. search ends)
    (λ c. search ends) (λ c κs. search ends) (λ c κs. search ends) (λ c. search ends) (λ c. search ends)
    (λ c κs. search ends) (λ c κs. search ends) (λ c κs. search ends) (λ c. search ends) (λ c. search ends)
    (λ c. search ends) (λ c. search ends) (λ c. search ends) (λ c. search ends) (λ c. search ends)
    (λ c. search ends) (λ c. search ends) (λ c. search ends) (λ c. search ends))
