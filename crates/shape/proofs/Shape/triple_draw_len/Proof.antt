-- `Shape::triple_draw_len` meets its contract.
use borrow.Author.Rules.{rules}
use Rattle.shape.proofs.Small.{small}
use Rattle.shape.proofs.Shape.triple_draw_len.Statement.{statement}
use Rattle.shape.proofs.Shape.triple_draw_len.Tie as tie

pub triple_draw_len_spec : {M : Type 1} → statement M
triple_draw_len_spec =
    tie.close (tie.spec (λ c κs. search rules) (λ c. search (rules, small)) (λ c. search rules) (λ c. search rules))
