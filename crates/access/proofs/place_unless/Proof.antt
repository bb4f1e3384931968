-- `place_unless` meets its contract.
use borrow.Author.Rules.{rules}
use Rattle.access.proofs.Calling.{place_room, place_refused, place_done, place_length}
use Rattle.access.proofs.place_unless.Statement.{statement}
use Rattle.access.proofs.place_unless.Tie as tie

ruleset steps = (rules, place_room, place_refused, place_done, place_length)

pub place_unless_spec : {M : Type 1} → statement M
place_unless_spec = tie.close (tie.spec (λ c. search steps) (λ c κs. search steps) (λ c. search steps) (λ c. search steps))
