-- One post in two runs, whose rows differ by multiples of the kernel: a relation's two calls get the same refusals.
use Prim.Native.Nat.{ℕ, suc, ◌+◌, ◌<◌}
use mathlib.Core.Path.{◌≡◌, refl, sym, ◌∙◌, ap, ap₂, subst}
use mathlib.Core.Bool.{Bool, true, false}
use mathlib.Core.List.{List, [], ◌∷◌, ◌++◌, append_assoc}
use native.Mathlib.Omega.{arith}
use lib.ListN.{length}
use Rattle.poly.specs.Counting.{All}
use Rattle.poly.proofs.Lists.{all_map, all_zip}
use Rattle.shape.specs.Bounds.{row_count_of}
use Rattle.shape.specs.Marks.{unused, masked}
use Rattle.refusal.specs.Refusal.{Test, ◌when◌, first}
use Rattle.refusal.specs.Conditions.{beyond, any_beyond}
use Rattle.session.specs.declared.Session.{Session}
use Rattle.session.specs.Rows.{row_at}
use Rattle.opening.specs.Walking.{too_few_of, disagree}
use Rattle.product_masks.specs.Masks.{factor_numbers_of}
use Rattle.product_masks.proofs.Passed.{Factored, factor_tests}
use Rattle.terms.specs.declared.Term.{Term}
use Rattle.terms.specs.declared.Terms.{Terms}
use Rattle.terms.specs.Listed.{plain, products_of, collected, terms_of, factors_of}
use Rattle.terms.proofs.Placing.{terms_again, factors_again}
use Rattle.relation.specs.Tests.{each_at_of, each, by_kind, place_tests}
use Rattle.relation.specs.Masks.{masks_sizes, masks_marks, mask_number_tests, relation_masks_refusal}
use Rattle.relation.specs.Finish.{record_a_of, record_b_of, term_mask_a, term_mask_b, finish_sizes, finish_places, finish_marks, term_number_tests, record_tests, finish_numbers, few_tests, off_tests, open_tests, relation_finish_refusal}
use Rattle.relation.proofs.Passed.{products_back, relation_masks_placed, RelationFinishPlaced, relation_finish_placed}
use Rattle.vectors.specs.Vector.{number}
use Rattle.runs.proofs.Marks.{mark_of, remembered_a, remembered_b, session_at, less, mask_vector_a, mask_vector_b}
use Rattle.runs.proofs.Holds.{wide}
use Rattle.secrecy.proofs.Twins.{same_after, Twin, elements_same, mask_same, behind, numbers_same}

-- the tests of every term
each_same : (f g : ℕ → Term → List Test) (k : ℕ) (ts : List Term) → All (λ t. (k : ℕ) → f k t ≡ g k t) ts → each_at_of f k ts ≡ each_at_of g k ts
unfolding each_at_of
each_same f g k [] a = refl
each_same f g k (t ∷ ts) a = ap₂ ◌++◌ (a.0 k) (each_same f g (suc k) ts a.1)

module _ (T : Twin) where
  open T use {plan, draw as d, K, marks as M, vec, vec', post as i, rows as l, rows' as l', opened as Y}

  abbrev s : Session
  s = session_at plan d i M Y

  abbrev W : ℕ
  W = wide plan

  -- ---- masks

  mask_tests : (t : Term) (b : Bool) → plain t ≡ b → (plain t ≡ false → Factored s t.row t.second t.first unused)
      → ◌≡◌ {A = List Test} (8 when beyond t.coefficient ∷ by_kind b [] (factor_numbers_of W l t.row t.second t.first))
      (8 when beyond t.coefficient ∷ by_kind b [] (factor_numbers_of W l' t.row t.second t.first))
  mask_tests t true is f = refl
  mask_tests t false is f =
      let e = numbers_same T t.row t.second t.first (f is) in
      λ j. 8 when beyond t.coefficient ∷ factor_tests (e.a_same j) (e.b_same j) (e.first_same j) (e.second_same j)

  pub relation_masks_same : (ts : List Term) (lent lent' : List ℕ) → length lent ≡ length lent'
      → relation_masks_refusal s l (collected ts) lent ≡ relation_masks_refusal s l' (collected ts) lent'
  unfolding relation_masks_refusal
  relation_masks_same ts lent lent' e =
      let all = collected ts in
      behind T (masks_sizes s all lent) (each place_tests (terms_of all) ++ (masks_marks s all ++ late l)) (each place_tests (terms_of all) ++ (masks_marks s all ++ late l')) (λ fr sizes.
      same_after (each place_tests (terms_of all)) (masks_marks s all ++ late l) (masks_marks s all ++ late l') (λ place.
      same_after (masks_marks s all) (late l) (late l') (λ marks.
      let k = relation_masks_placed s ts lent sizes place marks in
      ap first
      (each_same (λ k. mask_number_tests W l) (λ k. mask_number_tests W l') 0 (terms_of all)
      (subst (All (λ t. (k : ℕ) → mask_number_tests W l t ≡ mask_number_tests W l' t)) (sym (terms_again ts k.few))
      (all_map (λ t f k. mask_tests t (plain t) refl f) ts (products_back _ ts k.factors)))))))
      ∙ rw e
    where
      late : List ℕ → List Test
      late rows = each (mask_number_tests W rows) (terms_of (collected ts))

  -- ---- a finish

  term_tests : (t : Term) (b : Bool) → plain t ≡ b → any_beyond (row_at W l t.row) ≡ any_beyond (row_at W l' t.row)
      → (plain t ≡ false → Factored s t.row t.second t.first masked)
      → ◌≡◌ {A = List Test} (8 when beyond t.coefficient ∷ by_kind b (8 when any_beyond (row_at W l t.row) ∷ []) (factor_numbers_of W l t.row t.second t.first ++ (8 when any_beyond (row_at W l (t.first + 2)) ∷ [])))
      (8 when beyond t.coefficient ∷ by_kind b (8 when any_beyond (row_at W l' t.row) ∷ []) (factor_numbers_of W l' t.row t.second t.first ++ (8 when any_beyond (row_at W l' (t.first + 2)) ∷ [])))
  term_tests t true is e f = ap (λ (b : Bool). 8 when beyond t.coefficient ∷ 8 when b ∷ []) e
  term_tests t false is e' f =
      let e = numbers_same T t.row t.second t.first (f is) in
      let third = elements_same T (t.first + 2) (omega (arith, (f is).triple_in)) (f is).third_mark in
      λ j. 8 when beyond t.coefficient ∷ (factor_tests (e.a_same j) (e.b_same j) (e.first_same j) (e.second_same j) ++ (8 when third j ∷ []))

  -- the masks have one number in both runs
  abbrev pub OneNumber : Type 0
  OneNumber = (r : ℕ) → mark_of M r ≡ masked → r < row_count_of
      → (number (mask_vector_a M vec r) ≡ number (mask_vector_a M vec' r)) × (number (mask_vector_b M vec r) ≡ number (mask_vector_b M vec' r))

  masks_one : OneNumber → (t : Term) → Factored s t.row t.second t.first masked
      → (remembered_a M t.first ≡ t.row) × (remembered_b M t.first ≡ t.second)
      → (term_mask_a s l t ≡ term_mask_a s l' t) × (term_mask_b s l t ≡ term_mask_b s l' t)
  masks_one eq t f e =
      let w = eq t.first f.first_mark (omega (arith, f.triple_in)) in (
        mask_same T t.row t.first f.a_in f.a_held (omega (arith, f.triple_in)) f.first_mark
            (subst (λ (a : ℕ). number (less (vec a) (vec t.first)) ≡ number (less (vec' a) (vec' t.first))) e.0 w.0),
        mask_same T t.second (t.first + 1) f.b_in f.b_held (omega (arith, f.triple_in)) f.second_mark
            (subst (λ (b : ℕ). number (less (vec b) (vec (t.first + 1))) ≡ number (less (vec' b) (vec' (t.first + 1)))) e.1 w.1),
      )

  pub relation_finish_same : (ts : List Term) (d : ℕ) (blocks : List ℕ) → OneNumber
      → relation_finish_refusal s l (collected ts) d blocks ≡ relation_finish_refusal s l' (collected ts) d blocks
  unfolding relation_finish_refusal
  relation_finish_same ts d blocks eq =
      behind T (finish_sizes s all blocks) ((finish_places all d ++ (finish_marks s all d ++ finish_numbers s l all blocks)) ++ walks l)
      ((finish_places all d ++ (finish_marks s all d ++ finish_numbers s l' all blocks)) ++ walks l') (λ fr sizes.
      ap first (joined l)
      ∙ same_after (finish_places all d) (finish_marks s all d ++ (finish_numbers s l all blocks ++ walks l)) (finish_marks s all d ++ (finish_numbers s l' all blocks ++ walks l')) (λ places.
      same_after (finish_marks s all d) (finish_numbers s l all blocks ++ walks l) (finish_numbers s l' all blocks ++ walks l') (λ marks.
      ap first (late (relation_finish_placed s ts d blocks sizes places marks))))
      ∙ sym (ap first (joined l')))
    where
      all : Terms
      all = collected ts

      walks : List ℕ → List Test
      walks rows = open_tests s rows blocks 0 (factors_of (collected ts))

      joined : (rows : List ℕ)
          → (finish_places (collected ts) d ++ (finish_marks s (collected ts) d ++ finish_numbers s rows (collected ts) blocks)) ++ open_tests s rows blocks 0 (factors_of (collected ts))
          ≡ finish_places (collected ts) d ++ (finish_marks s (collected ts) d ++ (finish_numbers s rows (collected ts) blocks ++ open_tests s rows blocks 0 (factors_of (collected ts))))
      joined rows =
          append_assoc (finish_places (collected ts) d) (finish_marks s (collected ts) d ++ finish_numbers s rows (collected ts) blocks) _
          ∙ ap (λ (x : List Test). finish_places (collected ts) d ++ x) (append_assoc (finish_marks s (collected ts) d) (finish_numbers s rows (collected ts) blocks) _)

      late : RelationFinishPlaced s ts d blocks
          → finish_numbers s l (collected ts) blocks ++ open_tests s l blocks 0 (factors_of (collected ts))
          ≡ finish_numbers s l' (collected ts) blocks ++ open_tests s l' blocks 0 (factors_of (collected ts))
      late k =
          let same = all_zip (λ t f e. masks_one eq t f e) (products_of ts) k.factors k.remembered in
          let is = sym (factors_again ts k.few) in
          ap₂ ◌++◌
          (ap (λ (x : List Test). x ++ record_tests s blocks 0 (collected ts).products)
          (each_same (λ k. term_number_tests W l) (λ k. term_number_tests W l') 0 (terms_of (collected ts))
          (subst (All (λ t. (k : ℕ) → term_number_tests W l t ≡ term_number_tests W l' t)) (sym (terms_again ts k.few))
          (all_zip (λ t h f k. term_tests t (plain t) refl (elements_same T t.row h.0 h.1) f) ts k.terms_held (products_back _ ts k.factors)))))
          (ap₂ ◌++◌
          (each_same (few_tests s l blocks) (few_tests s l' blocks) 0 (factors_of (collected ts))
          (subst (All (λ t. (k : ℕ) → few_tests s l blocks k t ≡ few_tests s l' blocks k t)) is
          (all_map (λ t e k. ap₂ (λ (x y : List ℕ). 9 when too_few_of s x (record_a_of s blocks k) ∷ 9 when too_few_of s y (record_b_of s blocks k) ∷ []) e.0 e.1) (products_of ts) same)))
          (each_same (off_tests s l blocks) (off_tests s l' blocks) 0 (factors_of (collected ts))
          (subst (All (λ t. (k : ℕ) → off_tests s l blocks k t ≡ off_tests s l' blocks k t)) is
          (all_map (λ t e k. ap₂ (λ (x y : List ℕ). 13 when disagree s x (record_a_of s blocks k) ∷ 13 when disagree s y (record_b_of s blocks k) ∷ []) e.0 e.1) (products_of ts) same))))
