-- What the checks of a relation's two calls leave, by name, of the list of terms that they were lent.
use Prim.Native.Nat.{ℕ, suc, ◌*◌, ◌≤◌}
use mathlib.Core.Path.{◌≡◌, refl, sym, ◌∙◌, ap, subst}
use mathlib.Core.Bool.{Bool, true, false}
use mathlib.Core.List.{List, [], ◌∷◌, ◌++◌}
use native.Mathlib.Omega.{arith}
use borrow.Author.Tests.{ltb-false}
use lib.ListN.{length}
use Rattle.shape.specs.Bounds.{last_row_at}
use Rattle.shape.specs.Marks.{empty, held, unused, masked}
use Rattle.shape.specs.Lengths.{masks_length}
use Rattle.poly.specs.Counting.{All}
use Rattle.poly.proofs.Lists.{all_map, all_zip}
use Rattle.refusal.specs.Refusal.{Test, ◌when◌, first, AllFail}
use Rattle.refusal.proofs.Laws.{equal, inside, all_fail}
use Rattle.refusal.proofs.Groups.{fail_parts}
use Rattle.session.specs.declared.Session.{Session}
use Rattle.session.specs.Sessions.{shape_of, mark, factor_a_of, factor_b_of}
use Rattle.session.specs.Rows.{width}
use Rattle.session.specs.Checks.{frame_tests, no_row, no_triple, wrong_mark_of}
use Rattle.session.specs.Between.{Framed}
use Rattle.session.proofs.Calls.{frame_passed}
use Rattle.opening.specs.Walking.{record_length, bad_record, too_few_of, disagree}
use Rattle.opening.proofs.Passed.{clear_parts}
use Rattle.product_masks.specs.Masks.{triple_marks_of}
use Rattle.product_masks.proofs.Passed.{Factored, factored}
use Rattle.terms.specs.declared.Term.{Term}
use Rattle.terms.specs.Listed.{most_terms, plain, products_of, collected, terms_of, factors_of}
use Rattle.terms.proofs.Placing.{terms_again, factors_again}
use Rattle.relation.specs.Tests.{each_at_of, each, by_kind, place_tests, mark_tests, named_twice_of}
use Rattle.relation.specs.Masks.{masks_sizes, masks_marks, mask_number_tests, relation_masks_refusal}
use Rattle.relation.specs.Finish.{record_a_of, record_b_of, term_mask_a, term_mask_b, finish_sizes, finish_places, remember_tests, finish_marks, term_number_tests, record_tests, finish_numbers, few_tests, off_tests, open_tests, relation_finish_checks, relation_finish_refusal}
use Rattle.relation.proofs.Numbering.{masks_numbered, checks_numbered, open_numbered}

-- ---- tests of every term

-- P holds of every term of a list, with its place, from k on
abbrev pub AllAt : (ℕ → Term → Type 0) → ℕ → List Term → Type 0
AllAt P k [] = Unit {0}
AllAt P k (t ∷ ts) = P k t × AllAt P (suc k) ts

pub each_fail : (f : ℕ → Term → List Test) (k : ℕ) (ts : List Term) → AllFail (each_at_of f k ts) → AllAt (λ k t. AllFail (f k t)) k ts
unfolding each_at_of
each_fail f k [] a = tt
each_fail f k (t ∷ ts) a =
    let q = fail_parts (f k t) (each_at_of f (suc k) ts) a in (q.0, each_fail f (suc k) ts q.1)

pub forget : (P : Term → Type 0) (k : ℕ) (ts : List Term) → AllAt (λ k. P) k ts → All P ts
forget P k [] a = tt
forget P k (t ∷ ts) a = (a.0, forget P (suc k) ts a.1)

-- of product terms
products_step : (P Q : Term → Type 0) → ((t : Term) → plain t ≡ false → P t → Q t) → (b : Bool) (t : Term) (ts : List Term) → plain t ≡ b → P t
    → All Q (products_of ts) → All Q (elim b [ true ↦ products_of ts | false ↦ t ∷ products_of ts ])
products_step P Q h true t ts e x r = r
products_step P Q h false t ts e x r = (h t e x, r)

pub products_all : (P Q : Term → Type 0) → ((t : Term) → plain t ≡ false → P t → Q t) → (ts : List Term) → All P ts → All Q (products_of ts)
unfolding products_of
products_all P Q h [] a = tt
products_all P Q h (t ∷ ts) a = products_step P Q h (plain t) t ts refl a.0 (products_all P Q h ts a.1)

-- and back
back_step : (P : Term → Type 0) (b : Bool) (t : Term) (ts : List Term) → plain t ≡ b
    → All P (elim b [ true ↦ products_of ts | false ↦ t ∷ products_of ts ]) → (plain t ≡ false → P t) × All P (products_of ts)
back_step P true t ts e a = ((λ f. let w : true ≡ false = sym e ∙ f in let z : ◌≡◌ {A = ℕ} 0 1 = cc in absurd (omega arith)), a)
back_step P false t ts e a = ((λ f. a.0), a.1)

pub products_back : (P : Term → Type 0) (ts : List Term) → All P (products_of ts) → All (λ t. plain t ≡ false → P t) ts
unfolding products_of
products_back P [] a = tt
products_back P (t ∷ ts) a = let h = back_step P (plain t) t ts refl a in (h.0, products_back P ts h.1)

-- ---- 6 and 7 of the terms

module _ (s : Session) (m : ℕ) where
  abbrev Passes : Term → Type 0
  Passes t = AllFail (place_tests t) × AllFail (mark_tests s m t)

  factors_of_lem : (t : Term) → plain t ≡ false → Passes t → Factored s t.row t.second t.first m
  factors_of_lem t e h =
      let place = subst (λ (b : Bool). AllFail (by_kind b [] (6 when no_row t.second ∷ 6 when no_triple t.first ∷ []))) e h.0.1 in
      let marks = subst (λ (b : Bool). AllFail (by_kind b (7 when wrong_mark_of s t.row held ∷ []) (triple_marks_of s t.row t.second t.first m))) e h.1 in
      factored s t.row t.second t.first m h.0.0 place.0 place.1.0 marks

  held_of : (t : Term) (b : Bool) → AllFail (by_kind b (7 when wrong_mark_of s t.row held ∷ []) (triple_marks_of s t.row t.second t.first m))
      → mark s t.row ≡ held
  held_of t true h = equal _ _ h.0
  held_of t false h = equal _ _ h.0

  all_passed : (ts : List Term) → AllFail (each place_tests ts) → AllFail (each (mark_tests s m) ts) → All Passes ts
  all_passed ts a b =
      all_zip (λ t x y. (x, y)) ts (forget (λ t. AllFail (place_tests t)) 0 ts (each_fail (λ k. place_tests) 0 ts a))
      (forget (λ t. AllFail (mark_tests s m t)) 0 ts (each_fail (λ k. mark_tests s m) 0 ts b))

-- ---- masks

pub record RelationMasksPlaced (s : Session) (ts : List Term) (out : List ℕ) : Type 0 where
  pub few : length ts ≤ most_terms
  pub out_long : length out ≡ length (products_of ts) * masks_length (shape_of s)
  pub factors : All (λ t. Factored s t.row t.second t.first unused) (products_of ts)
  pub once : named_twice_of (products_of ts) ≡ false

module _ (s : Session) (ts : List Term) where
  masks_by : (out : List ℕ) (l fs : List Term) → length ts ≤ most_terms
      → length out ≡ length (products_of ts) * masks_length (shape_of s)
      → AllFail (each place_tests l) → AllFail (each (mark_tests s unused) l ++ (7 when named_twice_of fs ∷ [])) → l ≡ ts → fs ≡ products_of ts
      → RelationMasksPlaced s ts out
  masks_by out l fs few long place marks is isf =
      let q = fail_parts (each (mark_tests s unused) l) (7 when named_twice_of fs ∷ []) marks in
      record {
        few = few;
        out_long = long;
        factors =
            products_all (Passes s unused) _ (factors_of_lem s unused) ts
            (subst (All (Passes s unused)) is (all_passed s unused l place q.0));
        once = sym (ap named_twice_of isf) ∙ q.1.0;
      }

  pub relation_masks_placed : (out : List ℕ) → AllFail (masks_sizes s (collected ts) out) → AllFail (each place_tests (terms_of (collected ts)))
      → AllFail (masks_marks s (collected ts)) → RelationMasksPlaced s ts out
  relation_masks_placed out sizes place marks =
      let few = (inside 1 most_terms (length ts) sizes.1.0).1 in
      masks_by out (terms_of (collected ts)) (factors_of (collected ts)) few (equal _ _ sizes.0) place marks (terms_again ts few) (factors_again ts few)

pub record RelationMasksMade (s : Session) (rows : List ℕ) (ts : List Term) (out : List ℕ) : Type 0 where
  pub framed : Framed s rows
  pub placed : RelationMasksPlaced s ts out

pub relation_masks_made : (s : Session) (rows : List ℕ) (ts : List Term) (out : List ℕ) → relation_masks_refusal s rows (collected ts) out ≡ 0
    → RelationMasksMade s rows ts out
unfolding relation_masks_refusal
relation_masks_made s rows ts out z =
    let all = collected ts in
    let eights = each (mask_number_tests (width s) rows) (terms_of all) in
    let behind = each place_tests (terms_of all) ++ (masks_marks s all ++ eights) in
    let (frame, own) = clear_parts (frame_tests s rows) (masks_sizes s all out ++ behind) tt z in
    let (sizes, rest) = fail_parts (masks_sizes s all out) behind (all_fail (masks_sizes s all out ++ behind) (masks_numbered s rows all) own) in
    let (place, rest') = fail_parts (each place_tests (terms_of all)) (masks_marks s all ++ eights) rest in
    let (marks, _) = fail_parts (masks_marks s all) eights rest' in
    record { framed = frame_passed s rows 0 (sym frame) refl; placed = relation_masks_placed s ts out sizes place marks }

-- ---- a finish

pub record RelationFinishPlaced (s : Session) (ts : List Term) (d : ℕ) (blocks : List ℕ) : Type 0 where
  pub some : 1 ≤ length ts
  pub few : length ts ≤ most_terms
  pub blocks_long : length blocks ≡ length (products_of ts) * (2 * record_length s)
  pub factors : All (λ t. Factored s t.row t.second t.first masked) (products_of ts)
  pub once : named_twice_of (products_of ts) ≡ false
  pub remembered : All (λ t. (factor_a_of s t.first ≡ t.row) × (factor_b_of s t.first ≡ t.second)) (products_of ts)
  pub terms_held : All (λ t. (t.row ≤ last_row_at) × (mark s t.row ≡ held)) ts
  pub sum_in : d ≤ last_row_at
  pub sum_empty : mark s d ≡ empty

-- 9 and 13 of the two records at place k, and 8
abbrev pub Enough : Session → List ℕ → List ℕ → ℕ → Term → Type 0
Enough s rows blocks k t =
    (too_few_of s (term_mask_a s rows t) (record_a_of s blocks k) ≡ false) × (too_few_of s (term_mask_b s rows t) (record_b_of s blocks k) ≡ false)

abbrev pub Agreed : Session → List ℕ → List ℕ → ℕ → Term → Type 0
Agreed s rows blocks k t =
    (disagree s (term_mask_a s rows t) (record_a_of s blocks k) ≡ false) × (disagree s (term_mask_b s rows t) (record_b_of s blocks k) ≡ false)

abbrev pub RecordsLow : Session → List ℕ → ℕ → Term → Type 0
RecordsLow s blocks k t = (bad_record s (record_a_of s blocks k) ≡ false) × (bad_record s (record_b_of s blocks k) ≡ false)

pub record RelationFinishChecked (s : Session) (rows : List ℕ) (ts : List Term) (d : ℕ) (blocks : List ℕ) : Type 0 where
  pub framed : Framed s rows
  pub placed : RelationFinishPlaced s ts d blocks
  pub records_low : AllAt (RecordsLow s blocks) 0 (products_of ts)

pub record RelationFinished (s : Session) (rows : List ℕ) (ts : List Term) (d : ℕ) (blocks : List ℕ) : Type 0 where
  pub checked : RelationFinishChecked s rows ts d blocks
  pub enough : AllAt (Enough s rows blocks) 0 (products_of ts)
  pub agreed : AllAt (Agreed s rows blocks) 0 (products_of ts)

-- P of every term with its place follows from Q
pub all_at_map : (P Q : ℕ → Term → Type 0) → ((k : ℕ) (t : Term) → P k t → Q k t) → (k : ℕ) (ts : List Term) → AllAt P k ts → AllAt Q k ts
all_at_map P Q h k [] a = tt
all_at_map P Q h k (t ∷ ts) a = (h k t a.0, all_at_map P Q h (suc k) ts a.1)

module _ (s : Session) (ts : List Term) (d : ℕ) (blocks : List ℕ) where
  finish_by : (l fs : List Term) → (1 ≤ length ts) × (length ts ≤ most_terms)
      → length blocks ≡ length (products_of ts) * (2 * record_length s)
      → AllFail (each place_tests l ++ (6 when no_row d ∷ []))
      → AllFail (each (mark_tests s masked) l ++ (7 when named_twice_of fs ∷ (each (remember_tests s) fs ++ (7 when wrong_mark_of s d empty ∷ []))))
      → l ≡ ts → fs ≡ products_of ts → RelationFinishPlaced s ts d blocks
  finish_by l fs count long places marks is isf =
      let (place, sum) = fail_parts (each place_tests l) (6 when no_row d ∷ []) places in
      let (marked, own) = fail_parts (each (mark_tests s masked) l) _ marks in
      let (remember, sum') = fail_parts (each (remember_tests s) fs) _ own.1 in
      let passed = subst (All (Passes s masked)) is (all_passed s masked l place marked) in
      record {
        some = count.0;
        few = count.1;
        blocks_long = long;
        factors = products_all (Passes s masked) _ (factors_of_lem s masked) ts passed;
        once = sym (ap named_twice_of isf) ∙ own.0;
        remembered =
            subst (All (λ t. (factor_a_of s t.first ≡ t.row) × (factor_b_of s t.first ≡ t.second))) isf
            (all_map (λ t h. (equal _ _ h.0, equal _ _ h.1.0)) fs
            (forget (λ t. AllFail (remember_tests s t)) 0 fs (each_fail (λ k. remember_tests s) 0 fs remember)));
        terms_held = all_map (λ t h. (ltb-false last_row_at t.row h.0.0, held_of s masked t (plain t) h.1)) ts passed;
        sum_in = ltb-false last_row_at d sum.0;
        sum_empty = equal _ _ sum'.0;
      }

  pub relation_finish_placed : AllFail (finish_sizes s (collected ts) blocks) → AllFail (finish_places (collected ts) d)
      → AllFail (finish_marks s (collected ts) d) → RelationFinishPlaced s ts d blocks
  relation_finish_placed sizes places marks =
      let count = inside 1 most_terms (length ts) sizes.1.0 in
      finish_by (terms_of (collected ts)) (factors_of (collected ts)) count (equal _ _ sizes.0) places marks (terms_again ts count.1)
      (factors_again ts count.1)

  records_each : (k : ℕ) (fs : List Term) → AllFail (record_tests s blocks k (length fs)) → AllAt (RecordsLow s blocks) k fs
  unfolding record_tests
  records_each k [] a = tt
  records_each k (t ∷ fs) a = ((a.0, a.1.0), records_each (suc k) fs a.1.1)

  module _ (rows : List ℕ) where
    pub relation_finish_checked : first (relation_finish_checks s rows (collected ts) d blocks) ≡ 0 → RelationFinishChecked s rows ts d blocks
    relation_finish_checked z =
        let all = collected ts in
        let late = finish_marks s all d ++ finish_numbers s rows all blocks in
        let behind = finish_places all d ++ late in
        let (frame, own) = clear_parts (frame_tests s rows) (finish_sizes s all blocks ++ behind) tt z in
        let (sizes, rest) = fail_parts (finish_sizes s all blocks) behind (all_fail (finish_sizes s all blocks ++ behind) (checks_numbered s rows all d blocks) own) in
        let (places, rest') = fail_parts (finish_places all d) late rest in
        let (marks, numbers) = fail_parts (finish_marks s all d) (finish_numbers s rows all blocks) rest' in
        let (_, records) = fail_parts (each (term_number_tests (width s) rows) (terms_of all)) (record_tests s blocks 0 all.products) numbers in
        record {
          framed = frame_passed s rows 0 (sym frame) refl;
          placed = relation_finish_placed sizes places marks;
          records_low = records_each 0 (products_of ts) records;
        }

    abbrev few_off : List Term → Type 0
    few_off fs = AllFail (open_tests s rows blocks 0 fs)

    walked : (fs : List Term) → fs ≡ products_of ts → few_off fs
        → AllAt (Enough s rows blocks) 0 (products_of ts) × AllAt (Agreed s rows blocks) 0 (products_of ts)
    walked fs is a =
        let (few, off) = fail_parts (each_at_of (few_tests s rows blocks) 0 fs) _ a in (
          subst (AllAt (Enough s rows blocks) 0) is (all_at_map _ _ (λ k t h. (h.0, h.1.0)) 0 fs (each_fail (few_tests s rows blocks) 0 fs few)),
          subst (AllAt (Agreed s rows blocks) 0) is (all_at_map _ _ (λ k t h. (h.0, h.1.0)) 0 fs (each_fail (off_tests s rows blocks) 0 fs off)),
        )

    pub relation_finished : relation_finish_refusal s rows (collected ts) d blocks ≡ 0 → RelationFinished s rows ts d blocks
    unfolding relation_finish_refusal
    relation_finished z =
        let all = collected ts in
        let (clear, walks) = clear_parts (relation_finish_checks s rows all d blocks) (open_tests s rows blocks 0 (factors_of all)) (checks_numbered s rows all d blocks) z in
        let f = relation_finish_checked clear in
        let w = walked (factors_of all) (factors_again ts f.placed.few) (all_fail (open_tests s rows blocks 0 (factors_of all)) (open_numbered s rows blocks 0 (factors_of all)) walks) in
        record { checked = f; enough = w.0; agreed = w.1 }
