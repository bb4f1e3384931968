-- `multiply_after` meets its contract.
use borrow.Author.Rules.{rules}
use Rattle.street_states.proofs.Calling.{rows_in, rows_prefix}
use Rattle.street_finishlines.proofs.Finishing.{after_refused, after_unwritten, after_done, after_written}
use Rattle.street_finishlines.proofs.multiply_after.Statement.{statement}
use Rattle.street_finishlines.proofs.multiply_after.Tie as tie

ruleset ends = (rules, rows_in, rows_prefix, after_refused, after_unwritten, after_done, after_written)

pub multiply_after_spec : {M : Type 1} → statement M
multiply_after_spec =
    tie.close
    (tie.spec (λ c. search ends) (λ c κs. search ends) (λ c. search ends) (λ c. search ends)
    (λ c κs. search ends) (λ c. search ends) (λ c. search ends))
