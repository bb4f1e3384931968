-- Which terms are products, and in which order: "a second row or 255 for none", "Masks and records follow one another by product term". Proved in
-- proofs/Ordered.antt.
use Rattle.std.specs.Prelude.{◌≡◌, ◌≢◌, List, [], ◌∷◌}
use Rattle.terms.specs.declared.Term.{Term}
use Rattle.terms.specs.Listed.{products_of}

-- The terms whose second row is not 255, in the order of the list.
pub record ProductsInOrder : Type 0 where
  pub none : products_of [] ≡ []
  pub single : (t : Term) (ts : List Term) → t.second ≡ 255 → products_of (t ∷ ts) ≡ products_of ts
  pub product : (t : Term) (ts : List Term) → t.second ≢ 255 → products_of (t ∷ ts) ≡ t ∷ products_of ts
