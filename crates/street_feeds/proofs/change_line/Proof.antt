-- `change_line` meets its contract.
use borrow.Author.Rules.{rules}
use Rattle.street_feeds.proofs.Feeding.{head_answered}
use Rattle.street_feeds.proofs.change_line.Statement.{statement}
use Rattle.street_feeds.proofs.change_line.Tie as tie

ruleset ends = (rules, head_answered)

pub change_line_spec : {M : Type 1} → statement M
change_line_spec =
    tie.close
    (tie.spec (λ c κs. search ends) (λ c κs. search ends) (λ c. search ends) (λ c. search ends)
    (λ c. (search ends, search ends)))
