-- `State::first` meets its contract.
use borrow.Author.Rules.{rules}
use Rattle.street_states.proofs.Building.{first_is}
use Rattle.street_states.proofs.State.first.Statement.{statement}
use Rattle.street_states.proofs.State.first.Tie as tie

ruleset ends = (rules, first_is)

pub first_spec : {M : Type 1} → statement M
first_spec =
    tie.close
    (tie.spec (λ c κs. search ends) (λ c. search ends))
