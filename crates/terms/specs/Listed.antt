-- Document 02, (v): "The terms come as a lent list of records: a coefficient, a row, a second row or 255 for none, and the first
-- row of a triple, not looked at when there is none." Here such a list is handed on by value, as far as a relation may go.
use Rattle.std.specs.Prelude.{ℕ, zero, suc, ◌+◌, Bool, true, false, cond, List, [], ◌∷◌, eqb, length, replicate, set, take}
use Rattle.terms.specs.declared.Term.{Term}
use Rattle.terms.specs.declared.Terms.{Terms}

-- "a list of no terms or of more than 32"
abbrev pub most_terms : ℕ
most_terms = 32

-- "a second row or 255 for none"
abbrev pub no_row : ℕ
no_row = 255

-- a term without a second row: no product
abbrev pub plain : Term → Bool
plain t = eqb t.second no_row

-- the product terms of a list, in its order
unfoldable pub products_of : List Term → List Term
products_of [] = []
products_of (t ∷ ts) = elim (plain t) [ true ↦ products_of ts | false ↦ t ∷ products_of ts ]

-- k places, the first of them taken by the list, as far as it goes
abbrev pub blank : Term
blank = record { coefficient = 0; row = 0; second = 0; first = 0 }

unfoldable pub padded : ℕ → List Term → List Term
padded zero ts = []
padded (suc k) [] = blank ∷ padded k []
padded (suc k) (t ∷ ts) = t ∷ padded k ts

-- What the walk over a lent list hands on: how many terms it has and how many of them are products, over the whole list, and the
-- first 32 of either.
abbrev pub collected : List Term → Terms
collected ts = record {
  count = length ts;
  products = length (products_of ts);
  list = padded most_terms ts;
  factors = padded most_terms (products_of ts);
}

-- the terms and the product terms that were handed on
abbrev pub terms_of : Terms → List Term
terms_of all = take all.count all.list

abbrev pub factors_of : Terms → List Term
factors_of all = take all.products all.factors

-- The steps of the walk: no terms yet, of a list of n; a term at its place, and among the product terms if it is one.
abbrev pub none_of_of : ℕ → Terms
none_of_of n = record { count = n; products = 0; list = replicate most_terms blank; factors = replicate most_terms blank }

abbrev pub counted_in : Terms → Term → Terms
counted_in all t = record { count = all.count; products = all.products + 1; list = all.list; factors = set all.factors all.products t }

abbrev pub listed_in : Terms → ℕ → Term → Terms
listed_in all i t = record { count = all.count; products = all.products; list = set all.list i t; factors = all.factors }

abbrev pub placed : Terms → ℕ → Term → Terms
placed all i t = cond (plain t) (listed_in all i t) (counted_in (listed_in all i t) t)
