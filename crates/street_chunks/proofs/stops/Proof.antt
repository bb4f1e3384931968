-- `stops` answers as `stops_at` says.
use borrow.Author.Rules.{rules}
use Rattle.street_chunks.proofs.Feeding.{last_empty, last_unwritten}
use Rattle.street_chunks.proofs.stops.Statement.{statement}
use Rattle.street_chunks.proofs.stops.Tie as tie

ruleset ends = (rules, last_empty, last_unwritten)

pub stops_spec : {M : Type 1} → statement M
stops_spec = tie.close (tie.spec (λ c κs. search rules) (λ c. search ends) (λ c κs. search rules) (λ c. search ends))
