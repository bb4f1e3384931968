-- `print_change` meets its contract.
use borrow.Author.Rules.{rules}
use Rattle.street_feeds.proofs.Feeding.{tell_number, told_plain, told_refused, tell_post, tell_valid, tell_count, tell_prefix, tell_few, told_masks}
use Rattle.street_feeds.proofs.print_change.Statement.{statement}
use Rattle.street_feeds.proofs.print_change.Tie as tie

ruleset ends = (rules, tell_number, told_plain, told_refused, tell_post, tell_valid, tell_count, tell_prefix, tell_few, told_masks)

pub print_change_spec : {M : Type 1} → statement M
print_change_spec =
    tie.close
    (tie.spec (λ c. search ends) (λ c κs. search ends) (λ c. search ends) (λ c. search ends)
    (λ c κs. search ends) (λ c. search ends) (λ c. search ends) (λ c κs. search ends) (λ c. search ends)
    (λ c. search ends) (λ c κs. search ends) (λ c. search ends) (λ c. search ends))
