-- The openings of a relation's finish, as its functions hand them on: every product term's two numbers in two lists, by the term's place.
use Rattle.std.specs.Prelude.{ℕ, suc, Result, List, [], ◌∷◌, set, replicate}
use Rattle.refusal.specs.Refusal.{first, outcome}
use Rattle.session.specs.declared.Session.{Session}
use Rattle.refusal.specs.declared.Refusal.{Refusal}
use Rattle.refusal.specs.Numbers.{refused}
use Rattle.walk.specs.Number.{value_or_zero}
use Rattle.opening.specs.Walking.{opened_row}
use Rattle.mask_opening.specs.Either.{either_of}
use Rattle.terms.specs.declared.Term.{Term}
use Rattle.terms.specs.declared.Terms.{Terms}
use Rattle.terms.specs.Listed.{most_terms, factors_of}
use Rattle.relation.specs.Finish.{record_a_of, record_b_of, term_mask_a, term_mask_b, relation_finish_checks}
use Rattle.relation_writing.specs.declared.OpenedTerms.{OpenedTerms}

-- One product term's two numbers, at its place, and the refusal so far: a 9 of any record comes before a 13 of any.
abbrev pub kept_at : ℕ → Result ℕ Refusal → Result ℕ Refusal → OpenedTerms → OpenedTerms
kept_at k a b o = record {
  refusal = either_of o.refusal (either_of (refused a) (refused b));
  y_a = set o.y_a k (value_or_zero a);
  y_b = set o.y_b k (value_or_zero b);
}

abbrev pub with_opened : Session → List ℕ → List ℕ → ℕ → Term → OpenedTerms → OpenedTerms
with_opened s rows blocks k t o =
    kept_at k (opened_row s (term_mask_a s rows t) (record_a_of s blocks k)) (opened_row s (term_mask_b s rows t) (record_b_of s blocks k)) o

unfoldable pub opened_terms : Session → List ℕ → List ℕ → ℕ → List Term → OpenedTerms → OpenedTerms
opened_terms s rows blocks k [] o = o
opened_terms s rows blocks k (t ∷ ts) o = opened_terms s rows blocks (suc k) ts (with_opened s rows blocks k t o)

abbrev pub unopened : OpenedTerms
unopened = record { refusal = 0; y_a = replicate most_terms 0; y_b = replicate most_terms 0 }

abbrev pub opened_all : Session → List ℕ → Terms → List ℕ → OpenedTerms
opened_all s rows all blocks = opened_terms s rows blocks 0 (factors_of all) unopened

-- A refusal, with no numbers.
abbrev pub unopened_by : ℕ → OpenedTerms
unopened_by refusal = record { refusal = refusal; y_a = replicate most_terms 0; y_b = replicate most_terms 0 }

-- All checks, and the numbers.
abbrev pub opened_finish : Session → List ℕ → Terms → ℕ → List ℕ → OpenedTerms
opened_finish s rows all d blocks =
    outcome (first (relation_finish_checks s rows all d blocks)) (opened_all s rows all blocks) (unopened_by (first (relation_finish_checks s rows all d blocks)))
