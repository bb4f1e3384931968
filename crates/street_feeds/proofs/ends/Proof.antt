-- `ends` meets its contract.
use borrow.Author.Rules.{rules}
use Rattle.street_feeds.proofs.Feeding.{ends_closing, ends_feed}
use Rattle.street_feeds.proofs.ends.Statement.{statement}
use Rattle.street_feeds.proofs.ends.Tie as tie

ruleset ends = (rules, ends_closing, ends_feed)

pub ends_spec : {M : Type 1} → statement M
ends_spec =
    tie.close
    (tie.spec (λ c. search ends) (λ c. search ends) (λ c. search ends) (λ c. search ends))
