-- `lay` meets its contract.
use borrow.Author.Rules.{rules}
use Rattle.cases.proofs.Room.{two_fit, feed_fits, end_fits, end_within}
use Rattle.cases.proofs.lay.Statement.{statement}
use Rattle.cases.proofs.lay.Tie as tie

ruleset room = (rules, two_fit, feed_fits, end_fits, end_within)

pub lay_spec : {M : Type 1} → statement M
lay_spec =
    tie.close
    (tie.spec (λ c. search rules) (λ c κs. search room) (λ c. search room) (λ c. search room) (λ c. search rules) (λ c. search room))
