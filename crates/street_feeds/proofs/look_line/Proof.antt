-- `look_line` meets its contract.
use borrow.Author.Rules.{rules}
use Rattle.street_feeds.proofs.Feeding.{line_seen}
use Rattle.street_feeds.proofs.look_line.Statement.{statement}
use Rattle.street_feeds.proofs.look_line.Tie as tie

ruleset ends = (rules, line_seen)

pub look_line_spec : {M : Type 1} → statement M
look_line_spec =
    tie.close
    (tie.spec (λ c κs. search ends) (λ c. search ends) (λ c κs. search ends) (λ c. search ends)
    (λ c. search ends) (λ c. search ends))
