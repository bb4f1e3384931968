-- What the words of a relation's tables mean: "a triple named twice gets 7", and tests over all terms. Proved in proofs/Meant.antt.
use Rattle.std.specs.Prelude.{ℕ, ◌+◌, ◌≡◌, false, List, [], ◌∷◌, ◌++◌, length}
use Rattle.poly.specs.Counting.{Distinct}
use Rattle.refusal.specs.Refusal.{Test}
use Rattle.terms.specs.declared.Term.{Term}
use Rattle.relation.specs.Tests.{each_at_of}
use Rattle.relation.specs.Table.{repeats}

pub record WordsMean : Type 0 where
  -- no triple is named twice exactly where all are different
  pub once : (xs : List ℕ) → repeats xs ≡ false → Distinct xs
  pub once_passes : (xs : List ℕ) → Distinct xs → repeats xs ≡ false
  -- of no terms no test; of one term more its tests behind the others', by its place
  pub no_terms : (f : ℕ → Term → List Test) (k : ℕ) → each_at_of f k [] ≡ []
  pub last_term : (f : ℕ → Term → List Test) (k : ℕ) (ts : List Term) (t : Term)
      → each_at_of f k (ts ++ (t ∷ [])) ≡ each_at_of f k ts ++ f (k + length ts) t
