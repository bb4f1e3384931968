-- `grow` meets its contract.
use borrow.Author.Rules.{rules}
use Rattle.street_feeds.proofs.Feeding.{closing_line, closing_front, closing_len, grown_line, grown_front, grown_len}
use Rattle.street_feeds.proofs.grow.Statement.{statement}
use Rattle.street_feeds.proofs.grow.Tie as tie

ruleset ends = (rules, closing_line, closing_front, closing_len, grown_line, grown_front, grown_len)

pub grow_spec : {M : Type 1} → statement M
grow_spec =
    tie.close
    (tie.spec (λ c. ((search ends, search ends), (search ends, (search ends, search ends)))) (λ c κs. search ends) (λ c. search ends)
    (λ c. ((search ends, search ends), (search ends, (search ends, search ends)))))
