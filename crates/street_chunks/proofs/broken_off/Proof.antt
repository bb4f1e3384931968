-- `broken_off` answers as `broken_off_of` says.
use borrow.Author.Rules.{rules}
use Rattle.street_chunks.proofs.Feeding.{broken_unread, broken_unwritten}
use Rattle.street_chunks.proofs.broken_off.Statement.{statement}
use Rattle.street_chunks.proofs.broken_off.Tie as tie

ruleset ends = (rules, broken_unread, broken_unwritten)

pub broken_off_spec : {M : Type 1} → statement M
broken_off_spec = tie.close (tie.spec (λ c κs. search rules) (λ c. search ends) (λ c κs. search rules) (λ c. search ends))
