-- `keep_halves` meets its contract.
use borrow.Author.Rules.{rules}
use Rattle.street_store.proofs.Keeping.{street_valid}
use Rattle.street_interpreter.proofs.Fitting.{both_in, both_prefix, both_length}
use Rattle.street_interpreter.proofs.Looking.{halves_kept}
use Rattle.street_interpreter.proofs.keep_halves.Statement.{statement}
use Rattle.street_interpreter.proofs.keep_halves.Tie as tie

ruleset ends = (rules, street_valid, both_in, both_prefix, both_length, halves_kept)

pub keep_halves_spec : {M : Type 1} → statement M
keep_halves_spec =
    tie.close
    (tie.spec (λ c κs. search ends) (λ c. search ends) (λ c κs. search ends) (λ c. search ends) (λ c. search ends))
