-- `read_posts` meets its contract.
use borrow.Author.Rules.{rules}
use Rattle.access.proofs.Reading.{posts_alone, posts_listed}
use Rattle.access.proofs.read_posts.Statement.{statement}
use Rattle.access.proofs.read_posts.Tie as tie

ruleset steps = (rules, posts_alone, posts_listed)

pub read_posts_spec : {M : Type 1} → statement M
read_posts_spec =
    tie.close
    (tie.spec (λ c κs. search steps) (λ c κs. search steps) (λ c. search steps) (λ c κs. search steps) (λ c. search steps))
