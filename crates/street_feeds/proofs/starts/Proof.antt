-- `starts` meets its contract.
use borrow.Author.Rules.{rules}
use Rattle.street_feeds.proofs.Feeding.{starts_by, starts_not}
use Rattle.street_feeds.proofs.starts.Statement.{statement}
use Rattle.street_feeds.proofs.starts.Tie as tie

ruleset ends = (rules, starts_by, starts_not)

pub starts_spec : {M : Type 1} → statement M
starts_spec =
    tie.close
    (tie.spec (λ c. search ends) (λ c. search ends))
