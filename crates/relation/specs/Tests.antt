-- Document 02, (v): the tests that a relation's two calls share. "6 is checked over all terms before 7, the sum's row last in each."
use Rattle.std.specs.Prelude.{ℕ, suc, ◌≤◌, ◌≡◌, Bool, true, false, ◌||◌, List, [], ◌∷◌, ◌++◌, eqb}
use Rattle.shape.specs.Marks.{held}
use Rattle.refusal.specs.Refusal.{Test, ◌when◌}
use Rattle.refusal.specs.Conditions.{outside}
use Rattle.session.specs.declared.Session.{Session}
use Rattle.session.specs.Checks.{no_row, no_triple, wrong_mark_of}
use Rattle.session.specs.Between.{RowIn, TripleIn}
use Rattle.shape.specs.declared.Shape.{Shape}
use Rattle.product_masks.specs.Masks.{triple_marks_of}
use Rattle.terms.specs.declared.Term.{Term}
use Rattle.terms.specs.declared.Terms.{Terms}
use Rattle.terms.specs.Listed.{most_terms, plain, products_of, terms_of, factors_of}

-- The tests of every term of a list, one term after the other; they may go by the term's place, which is k for the first.
unfoldable pub each_at_of : (ℕ → Term → List Test) → ℕ → List Term → List Test
each_at_of f k [] = []
each_at_of f k (t ∷ ts) = f k t ++ each_at_of f (suc k) ts

abbrev pub each : (Term → List Test) → List Term → List Test
each f ts = each_at_of (λ k. f) 0 ts

-- One list for a plain term, another for a product.
abbrev pub by_kind : {A : Type 0} → Bool → A → A → A
by_kind true one other = one
by_kind false one other = other

-- 14: "a list of no terms or of more than 32"
abbrev pub bad_count : ℕ → Bool
bad_count count = outside 1 most_terms count

-- 6, of a term's rows; the triple is "not looked at when there is none".
abbrev pub place_tests : Term → List Test
place_tests t =
    6 when no_row t.row ∷ by_kind (plain t) [] (6 when no_row t.second ∷ 6 when no_triple t.first ∷ [])

-- 7: "Both calls need each term's row or rows held"; a product's triple is tested as a single product's is, with mark m on its first
-- row.
abbrev pub mark_tests : Session → ℕ → Term → List Test
mark_tests s m t =
    by_kind (plain t) (7 when wrong_mark_of s t.row held ∷ []) (triple_marks_of s t.row t.second t.first m)

-- 7: "a triple named twice", by the product terms of a list.
unfoldable pub named_in : ℕ → List Term → Bool
named_in r [] = false
named_in r (t ∷ ts) = eqb t.first r || named_in r ts

unfoldable pub named_twice_of : List Term → Bool
named_twice_of [] = false
named_twice_of (t ∷ ts) = named_in t.first ts || named_twice_of ts

-- What the walk over the list leaves to the calls: its product terms are those of its terms, where all of them are at hand.
pub record Counted (all : Terms) : Type 0 where
  pub fewer : all.products ≤ all.count
  pub same : all.count ≤ most_terms → factors_of all ≡ products_of (terms_of all)

-- What 14 leaves.
pub record Few (all : Terms) : Type 0 where
  pub terms_in : all.count ≤ most_terms
  pub products_in : all.products ≤ most_terms

-- Something holds of every term.
unfoldable pub Every : (Term → Type 0) → List Term → Type 0
Every P [] = Unit {0}
Every P (t ∷ ts) = P t × Every P ts

-- What 6 leaves of a term, and of a product term.
pub record Factors (g : Shape) (t : Term) : Type 0 where
  pub row_in : RowIn g t.row
  pub second_in : RowIn g t.second
  pub triple_in : TripleIn g t.first

pub record Placed (g : Shape) (t : Term) : Type 0 where
  pub row_in : RowIn g t.row
  pub factors_in : plain t ≡ false → Factors g t
