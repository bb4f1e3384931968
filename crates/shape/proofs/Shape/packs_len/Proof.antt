-- `Shape::packs_len` meets its contract.
use borrow.Author.Rules.{rules}
use Rattle.shape.proofs.Small.{small}
use Rattle.shape.proofs.Shape.packs_len.Statement.{statement}
use Rattle.shape.proofs.Shape.packs_len.Tie as tie

pub packs_len_spec : {M : Type 1} → statement M
packs_len_spec = tie.close (tie.spec (λ c κs. search rules) (λ c. search (rules, small)) (λ c. search (rules, small)))
