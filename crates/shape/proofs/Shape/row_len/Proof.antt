-- `Shape::row_len` meets its contract. The search finds it by itself; the file stands so that another length is refused at its last need.
use borrow.Author.Rules.{rules}
use Rattle.shape.proofs.Shape.row_len.Statement.{statement}
use Rattle.shape.proofs.Shape.row_len.Tie as tie

pub row_len_spec : {M : Type 1} → statement M
row_len_spec = tie.close (tie.spec (λ c κs. search rules) (λ c. search rules) (λ c. search rules))
