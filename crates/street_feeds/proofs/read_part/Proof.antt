-- `read_part` meets its contract.
use borrow.Author.Rules.{rules}
use Rattle.street_feeds.proofs.Feeding.{line_within, line_prefix, part_ended, part_begun}
use Rattle.street_feeds.proofs.read_part.Statement.{statement}
use Rattle.street_feeds.proofs.read_part.Tie as tie

ruleset ends = (rules, line_within, line_prefix, part_ended, part_begun)

pub read_part_spec : {M : Type 1} → statement M
read_part_spec =
    tie.close
    (tie.spec (λ c κs. search ends) (λ c κs. search ends) (λ c. search ends) (λ c. search ends)
    (λ c κs. search ends) (λ c. search ends) (λ c. search ends) (λ c. search ends) (λ c κs. search ends)
    (λ c. search ends) (λ c. search ends))
