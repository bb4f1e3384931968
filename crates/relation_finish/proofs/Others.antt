-- A relation's finish changes no row but the sum's and the third row of each product term's triple.
use Prim.Native.Nat.{ℕ, suc, ◌+◌, ◌≤◌, ◌<◌}
use mathlib.Core.Path.{◌≡◌, refl, ◌∙◌}
use mathlib.Core.Logic.{◌≢◌}
use mathlib.Core.Bool.{Bool, true, false}
use mathlib.Core.List.{List, [], ◌∷◌}
use native.Mathlib.Omega.{arith}
use lib.ListN.{length, replicate, length-replicate}
use Rattle.shape.specs.Bounds.{row_count_of, last_row_at, last_triple}
use Rattle.shape.specs.Marks.{masked}
use Rattle.poly.specs.Counting.{All}
use Rattle.poly.proofs.Lists.{all_map, all_zip, all_mapped}
use Rattle.session.specs.declared.Session.{Session}
use Rattle.session.specs.Sessions.{shape_of}
use Rattle.session.specs.Rows.{width, sums_at_of, row_at, with_row, summed}
use Rattle.session.specs.Between.{Sized}
use Rattle.session.proofs.Passed.{row_below}
use Rattle.session.proofs.RowLaws.{length_with_row}
use Rattle.session.proofs.Kept.{others_kept, outcome_keeps}
use Rattle.sums.proofs.Summed.{length_row_summed}
use Rattle.product_masks.proofs.Passed.{Factored}
use Rattle.multiply.specs.Multiply.{with_product}
use Rattle.multiply.proofs.Written.{others_read, length_written}
use Rattle.terms.specs.declared.Term.{Term}
use Rattle.terms.specs.Listed.{plain, products_of, collected, terms_of, factors_of}
use Rattle.terms.proofs.Placing.{terms_again, factors_again}
use Rattle.relation.specs.Tests.{by_kind}
use Rattle.relation.specs.Finish.{term_number_a, term_number_b, with_products, number_row_of, plus_term, plus_terms, cleared, with_sum, relation_finish_refusal}
use Rattle.relation.specs.Table.{triples_of}
use Rattle.relation.proofs.Passed.{products_back, RelationFinished, relation_finished}
use Rattle.relation_finish.specs.Claims.{RelationKeepsOthers}

module _ (s : Session) (q : ℕ) where
  -- of two lists of rows: as long, and row q the same
  pub record Kept (before now : List ℕ) : Type 0 where
    pub as_long : length now ≡ length before
    pub row_same : row_at (width s) now q ≡ row_at (width s) before q

  sized_again : (before now : List ℕ) → Kept before now → Sized (shape_of s) before → Sized (shape_of s) now
  sized_again before now e z = record { valid = z.valid; length_is = e.as_long ∙ z.length_is }

  none : (l : List ℕ) → Kept l l
  none l = record { as_long = refl; row_same = refl }

  behind : (a b c : List ℕ) → Kept a b → Kept b c → Kept a c
  behind a b c e f = record { as_long = f.as_long ∙ e.as_long; row_same = f.row_same ∙ e.row_same }

  module _ (rows blocks : List ℕ) where
    products_kept : (k : ℕ) (ts : List Term) (now : List ℕ) → Sized (shape_of s) now → All (λ t. t.first ≤ last_triple) ts
        → All (λ t. q ≢ t.first + 2) ts → Kept now (with_products s rows blocks k ts now)
    unfolding with_products
    products_kept k [] now z i n = none now
    products_kept k (t ∷ ts) now z (i, is) (n, ns) =
        let y = term_number_a s rows blocks k t in
        let y' = term_number_b s rows blocks k t in
        let next = with_product s y y' t.first now in
        let one : Kept now next = record { as_long = length_written s now t.first y y' z i; row_same = others_read s now t.first y y' z i q n } in
        behind now next _ one (products_kept (suc k) ts next (sized_again now next one z) is ns)

  module _ (d : ℕ) (i : d < row_count_of) (n : q ≢ d) where
    written : (now x : List ℕ) → Sized (shape_of s) now → length x ≡ width s → Kept now (with_row (width s) d x now)
    written now x z e = record {
      as_long = length_with_row (width s) row_count_of now d z.length_is i x e;
      row_same = others_kept (width s) row_count_of now d x z.length_is i e q n;
    }

    terms_kept : (ts : List Term) (now : List ℕ) → Sized (shape_of s) now → All (λ t. number_row_of t ≤ last_row_at) ts → Kept now (plus_terms s d ts now)
    unfolding plus_terms
    terms_kept [] now z h = none now
    terms_kept (t ∷ ts) now z (h, hs) =
        let g = shape_of s in
        let to = row_below g d (omega (arith, i)) in
        let long = length_row_summed g now z d d (number_row_of t) t.coefficient to to (row_below g (number_row_of t) h) 0 in
        let one = written now (summed (sums_at_of s) t.coefficient 0 (row_at (width s) now d) (row_at (width s) now (number_row_of t))) z long in
        behind now _ _ one (terms_kept ts (plus_term s d t now) (sized_again now _ one z) hs)

    sum_kept : (ts : List Term) (now : List ℕ) → Sized (shape_of s) now → All (λ t. number_row_of t ≤ last_row_at) ts → Kept now (with_sum s d ts now)
    sum_kept ts now z h =
        let one = written now (replicate (width s) 0) z (length-replicate (width s) 0) in
        behind now _ _ one (terms_kept ts (cleared s d now) (sized_again now _ one z) h)

-- the row with a term's number is one of the rows
number_low : (t : Term) → t.row ≤ last_row_at → (plain t ≡ false → t.first ≤ last_triple) → number_row_of t ≤ last_row_at
number_low t h f = go (plain t) refl
  where
    go : (b : Bool) → plain t ≡ b → by_kind b t.row (t.first + 2) ≤ last_row_at
    go true e = h
    go false e = omega (arith, f e)

module _ (s : Session) (rows : List ℕ) (ts : List Term) (d : ℕ) (blocks : List ℕ) (q : ℕ) (nd : q ≢ d) (nt : All (λ r. q ≢ r + 2) (triples_of ts)) where
  finish_kept : RelationFinished s rows ts d blocks
      → Kept s q rows (with_sum s d (terms_of (collected ts)) (with_products s rows blocks 0 (factors_of (collected ts)) rows))
  finish_kept f =
      let few = f.checked.placed.few in
      let z = f.checked.framed.sized in
      let triples = all_map (λ t (h : Factored s t.row t.second t.first masked). h.triple_in) (products_of ts) f.checked.placed.factors in
      let numbers = all_zip (λ t h g. number_low t h.0 g) ts f.checked.placed.terms_held (products_back (λ t. t.first ≤ last_triple) ts triples) in
      let one = products_kept s q rows blocks 0 (products_of ts) rows z triples (all_mapped (λ r. q ≢ r + 2) (λ t. t.first) (products_of ts) nt) in
      let two = sum_kept s q d (omega (arith, f.checked.placed.sum_in)) nd ts _ (sized_again s q rows _ one z) numbers in
      rw (terms_again ts few, factors_again ts few) (behind s q rows _ _ one two)

pub relation_keeps_others : RelationKeepsOthers
relation_keeps_others s rows ts d blocks q nd nt =
    outcome_keeps (width s) (relation_finish_refusal s rows (collected ts) d blocks)
    (with_sum s d (terms_of (collected ts)) (with_products s rows blocks 0 (factors_of (collected ts)) rows)) rows q
    (λ z. (finish_kept s rows ts d blocks q nd nt (relation_finished s ts d blocks rows z)).row_same)
