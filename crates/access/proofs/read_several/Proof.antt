-- `read_several` meets its contract.
use borrow.Author.Rules.{rules}
use Rattle.access.proofs.Reading.{posts_few, posts_walked}
use Rattle.access.proofs.read_several.Statement.{statement}
use Rattle.access.proofs.read_several.Tie as tie

ruleset steps = (rules, posts_few, posts_walked)

pub read_several_spec : {M : Type 1} → statement M
read_several_spec =
    tie.close
    (tie.spec (λ c κs. search steps) (λ c κs. search steps) (λ c. search steps) (λ c. search steps) (λ c κs. search steps) (λ c κs. search steps) (λ c. search steps))
