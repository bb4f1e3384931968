-- `begin` meets its contract.
use borrow.Author.Rules.{rules}
use Rattle.street_feeds.proofs.Feeding.{begin_is}
use Rattle.street_feeds.proofs.begin.Statement.{statement}
use Rattle.street_feeds.proofs.begin.Tie as tie

ruleset ends = (rules, begin_is)

pub begin_spec : {M : Type 1} → statement M
begin_spec =
    tie.close
    (tie.spec (λ c κs. search ends) (λ c. search ends))
