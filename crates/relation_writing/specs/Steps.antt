-- The steps of a relation's writing, as its functions hand them on: the products and the session from every product term's two numbers, in
-- two lists by the term's place.
use Rattle.std.specs.Prelude.{ℕ, suc, List, [], ◌∷◌, get_or}
use Rattle.session.specs.declared.Session.{Session}
use Rattle.multiply.specs.Multiply.{with_product}
use Rattle.terms.specs.declared.Term.{Term}
use Rattle.relation.specs.Finish.{pair_done}

-- The products, written from the two lists.
unfoldable pub products_written : Session → List ℕ → List ℕ → ℕ → List Term → List ℕ → List ℕ
products_written s y_a_of y_b_of k [] rows = rows
products_written s y_a_of y_b_of k (t ∷ ts) rows =
    products_written s y_a_of y_b_of (suc k) ts (with_product s (get_or y_a_of k 0) (get_or y_b_of k 0) t.first rows)

-- The triples as the pair of calls leaves them, from the two lists.
unfoldable pub triples_finished : List ℕ → List ℕ → ℕ → List Term → Session → Session
triples_finished y_a_of y_b_of k [] s = s
triples_finished y_a_of y_b_of k (t ∷ ts) s = triples_finished y_a_of y_b_of (suc k) ts (pair_done s t.first (get_or y_a_of k 0) (get_or y_b_of k 0))
