-- What the other words of a relation's tables mean, beside `WordsMean` (crate relation): the tests of every term, and those by its kind. Proved in
-- proofs/Words.antt.
use Rattle.std.specs.Prelude.{◌≡◌, true, false, List, [], ◌∷◌, ◌++◌}
use Rattle.refusal.specs.Refusal.{Test}
use Rattle.terms.specs.declared.Term.{Term}
use Rattle.relation.specs.Tests.{each, by_kind}

pub record EachMeans : Type 0 where
  -- of no terms no test; of one term more its tests behind the others', however many there are
  pub no_terms : (f : Term → List Test) → each f [] ≡ []
  pub last_term : (f : Term → List Test) (ts : List Term) (t : Term) → each f (ts ++ (t ∷ [])) ≡ each f ts ++ f t
  -- a plain term's tests, a product's
  pub plain_tests : (one other : List Test) → by_kind true one other ≡ one
  pub product_tests : (one other : List Test) → by_kind false one other ≡ other
