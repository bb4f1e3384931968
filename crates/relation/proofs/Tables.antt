-- The refusals of a relation's two calls are those of the tables: behind 14 the terms that the walk handed on are those of the list.
use Prim.Native.Nat.{ℕ, zero, suc, ◌+◌, ◌≤◌}
use mathlib.Core.Path.{◌≡◌, refl, sym, ◌∙◌, ap, ap₂}
use mathlib.Core.Bool.{Bool, ◌||◌}
use mathlib.Core.List.{List, [], ◌∷◌, ◌++◌, map}
use native.Mathlib.Omega.{arith}
use lib.Dec.{eqb, ltb}
use lib.ListN.{length}
use Rattle.shape.specs.Marks.{empty, unused, masked}
use Rattle.shape.specs.Lengths.{rows_length}
use Rattle.refusal.specs.Refusal.{Test, ◌when◌, first}
use Rattle.refusal.specs.Conditions.{wrong_length, beyond, any_beyond}
use Rattle.refusal.proofs.Laws.{Numbered, inside, all_fail}
use Rattle.refusal.proofs.Groups.{stopped}
use Rattle.refusal.proofs.Figures.{beyond_figures}
use Rattle.session.specs.declared.Session.{Session}
use Rattle.session.specs.Sessions.{shape_of, points_of}
use Rattle.session.specs.Rows.{width, row_at}
use Rattle.session.specs.Checks.{frame_tests, no_row, wrong_mark_of}
use Rattle.session.specs.Table.{new_table}
use Rattle.session.proofs.Tables.{session_table}
use Rattle.product_masks.specs.Masks.{factor_numbers_of}
use Rattle.terms.specs.declared.Term.{Term}
use Rattle.terms.specs.Listed.{most_terms, plain, products_of, collected, terms_of, factors_of}
use Rattle.terms.proofs.Placing.{terms_again, factors_again}
use Rattle.relation.specs.Tests.{each_at_of, each, by_kind, place_tests, mark_tests, named_in, named_twice_of}
use Rattle.relation.specs.Masks.{masks_sizes, mask_number_tests, relation_masks_refusal}
use Rattle.relation.specs.Finish.{finish_sizes, remember_tests, term_number_tests, record_pair, record_tests, open_tests, relation_finish_refusal}
use Rattle.relation.specs.Table.{is_among, repeats, triples_of, RelationTables}

-- late tests that differ only where early ones refuse
late_same : (early late late' : List Test) → Numbered early → (first early ≡ 0 → late ≡ late') → first (early ++ late) ≡ first (early ++ late')
late_same early late late' n h = go (first early) refl
  where
    go : (a : ℕ) → first early ≡ a → first (early ++ late) ≡ first (early ++ late')
    go zero e = ap (λ (l : List Test). first (early ++ l)) (h e)
    go (suc a) e =
        let no : first early ≡ 0 → ⊥ = λ z. never (sym e ∙ z) in
        sym (stopped early late n (first early) refl no) ∙ stopped early late' n (first early) refl no
      where
        never : suc a ≡ 0 → ⊥
        never q = omega arith

-- the code's search for a triple that is named twice, and the table's word
named_among : (r : ℕ) (ts : List Term) → named_in r ts ≡ is_among r (map (λ t. t.first) ts)
unfolding named_in is_among
named_among r [] = refl
named_among r (t ∷ ts) = ap (λ (b : Bool). eqb t.first r || b) (named_among r ts)

named_repeats : (ts : List Term) → named_twice_of ts ≡ repeats (map (λ t. t.first) ts)
unfolding named_twice_of repeats
named_repeats [] = refl
named_repeats (t ∷ ts) = ap₂ (λ (a b : Bool). a || b) (named_among t.first ts) (named_repeats ts)

-- the records' tests, by product terms
records_each : (s : Session) (blocks : List ℕ) (k : ℕ) (us : List Term)
    → record_tests s blocks k (length us) ≡ each_at_of (λ k t. record_pair s blocks k) k us
unfolding record_tests each_at_of
records_each s blocks k [] = refl
records_each s blocks k (t ∷ us) = ap (λ (l : List Test). record_pair s blocks k ++ l) (records_each s blocks (suc k) us)

-- a term's 8, with the test of its coefficient in figures
figured : (rest : Term → List Test)
    → ◌≡◌ {A = Term → List Test} (λ t. 8 when beyond t.coefficient ∷ rest t) (λ t. 8 when ltb 2147483646 t.coefficient ∷ rest t)
figured rest = λ j t. 8 when beyond_figures t.coefficient j ∷ rest t

module _ (s : Session) (rows : List ℕ) (ts : List Term) where
  -- 1 to 5 on the session and its rows, with the check points in figures
  abbrev frame : List Test
  frame = new_table s.n s.t s.post s.points (points_of s) ++ (5 when wrong_length rows (rows_length (shape_of s)) ∷ [])

  framed : frame_tests s rows ≡ frame
  framed = ap (λ (l : List Test). l ++ (5 when wrong_length rows (rows_length (shape_of s)) ∷ [])) (session_table s.n s.t s.post s.points (points_of s))

  module _ (out : List ℕ) where
    abbrev early : List Test → List Test
    early fr = fr ++ masks_sizes s (collected ts) out

    abbrev late : (Term → List Test) → List Term → Bool → List Test
    late eights l twice = each place_tests l ++ ((each (mark_tests s unused) l ++ (7 when twice ∷ [])) ++ each eights l)

    at_hand : first (early (frame_tests s rows)) ≡ 0 → length ts ≤ most_terms
    at_hand e = (inside 1 most_terms (length ts) (all_fail (early (frame_tests s rows)) tt e).1.1.1.1.1.1.0).1

    abbrev products : Term → List Test
    products t = by_kind (plain t) [] (factor_numbers_of (width s) rows t.row t.second t.first)

    pub masks_table_is : first (early (frame_tests s rows) ++ late (mask_number_tests (width s) rows) (terms_of (collected ts)) (named_twice_of (factors_of (collected ts))))
        ≡ first (early frame ++ late (λ t. 8 when ltb 2147483646 t.coefficient ∷ products t) ts (repeats (triples_of ts)))
    masks_table_is =
        let own = late (mask_number_tests (width s) rows) in
        late_same (early (frame_tests s rows)) (own (terms_of (collected ts)) (named_twice_of (factors_of (collected ts)))) (own ts (repeats (triples_of ts))) tt
        (λ e. ap₂ own (terms_again ts (at_hand e)) (ap named_twice_of (factors_again ts (at_hand e)) ∙ named_repeats (products_of ts)))
        ∙ ap₂ (λ (fr : List Test) (eights : Term → List Test). first (early fr ++ late eights ts (repeats (triples_of ts)))) framed (figured products)

  module _ (d : ℕ) (blocks : List ℕ) where
    abbrev before : List Test → List Test
    before fr = fr ++ finish_sizes s (collected ts) blocks

    abbrev behind : (Term → List Test) → List Term → List Term → Bool → List Test → List Test
    behind eights l f twice records =
        ((each place_tests l ++ (6 when no_row d ∷ []))
        ++ ((each (mark_tests s masked) l
        ++ (7 when twice ∷ (each (remember_tests s) f ++ (7 when wrong_mark_of s d empty ∷ []))))
        ++ (each eights l ++ records)))
        ++ open_tests s rows blocks 0 f

    at_hand' : first (before (frame_tests s rows)) ≡ 0 → length ts ≤ most_terms
    at_hand' e = (inside 1 most_terms (length ts) (all_fail (before (frame_tests s rows)) tt e).1.1.1.1.1.1.0).1

    -- the records' tests, counted as the call does and by product terms
    abbrev counted : List Test
    counted = record_tests s blocks 0 (length (products_of ts))

    abbrev pairs : List Test
    pairs = each_at_of (λ k t. record_pair s blocks k) 0 (products_of ts)

    abbrev again : List Term
    again = factors_of (collected ts)

    abbrev numbers : Term → List Test
    numbers t =
        by_kind (plain t) (8 when any_beyond (row_at (width s) rows t.row) ∷ [])
        (factor_numbers_of (width s) rows t.row t.second t.first ++ (8 when any_beyond (row_at (width s) rows (t.first + 2)) ∷ []))

    pub finish_table : first (before (frame_tests s rows) ++ behind (term_number_tests (width s) rows) (terms_of (collected ts)) again (named_twice_of again) counted)
        ≡ first (before frame ++ behind (λ t. 8 when ltb 2147483646 t.coefficient ∷ numbers t) ts (products_of ts) (repeats (triples_of ts)) pairs)
    finish_table =
        let own = behind (term_number_tests (width s) rows) in
        late_same (before (frame_tests s rows)) (own (terms_of (collected ts)) again (named_twice_of again) counted)
        (own ts (products_of ts) (repeats (triples_of ts)) pairs) tt
        (λ e. ap₂ (λ (l f : List Term). own l f (named_twice_of f) counted) (terms_again ts (at_hand' e)) (factors_again ts (at_hand' e))
        ∙ ap₂ (own ts (products_of ts)) (named_repeats (products_of ts)) (records_each s blocks 0 (products_of ts)))
        ∙ ap₂ (λ (fr : List Test) (eights : Term → List Test). first (before fr ++ behind eights ts (products_of ts) (repeats (triples_of ts)) pairs)) framed
        (figured numbers)

pub relation_tables : RelationTables
unfolding relation_masks_refusal relation_finish_refusal
relation_tables = record {
  masks = λ s rows ts out. masks_table_is s rows ts out;
  finish = λ s rows ts d blocks. finish_table s rows ts d blocks;
}
