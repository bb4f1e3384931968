-- No test of a relation's two calls has the number 0.
use Prim.Native.Nat.{ℕ, zero, suc, ◌+◌}
use mathlib.Core.Bool.{Bool, true, false}
use mathlib.Core.List.{List, [], ◌∷◌, ◌++◌}
use Rattle.shape.specs.Marks.{empty, unused, masked}
use Rattle.refusal.specs.Refusal.{◌when◌}
use Rattle.refusal.specs.Conditions.{any_beyond}
use Rattle.refusal.proofs.Laws.{Numbered}
use Rattle.session.specs.declared.Session.{Session}
use Rattle.session.specs.Rows.{width, row_at}
use Rattle.session.specs.Checks.{no_row, wrong_mark_of}
use Rattle.product_masks.specs.Masks.{factor_numbers_of}
use Rattle.terms.specs.declared.Term.{Term}
use Rattle.terms.specs.declared.Terms.{Terms}
use Rattle.terms.specs.Listed.{plain, terms_of, factors_of}
use Rattle.relation.specs.Tests.{each_at_of, each, by_kind, place_tests, mark_tests, named_twice_of}
use Rattle.relation.specs.Masks.{mask_number_tests, masks_marks, masks_own}
use Rattle.relation.specs.Finish.{finish_places, remember_tests, finish_marks, term_number_tests, record_tests, finish_numbers, finish_own, few_tests, off_tests}
use Rattle.relation.specs.Finish.{open_tests, relation_finish_checks}
use Rattle.relation.proofs.Sorts.{place_numbered, mark_numbered, number_numbered}
use Rattle.relation.proofs.Passing.{numbered_append, each_numbered}

pub remember_numbered : (s : Session) (k : ℕ) (t : Term) → Numbered (remember_tests s t)
remember_numbered s k t = tt

pub term_numbered : (w : ℕ) (rows : List ℕ) (k : ℕ) (t : Term) → Numbered (term_number_tests w rows t)
term_numbered w rows k t = go (plain t)
  where
    go : (b : Bool)
        → Numbered (by_kind b (8 when any_beyond (row_at w rows t.row) ∷ [])
        (factor_numbers_of w rows t.row t.second t.first ++ (8 when any_beyond (row_at w rows (t.first + 2)) ∷ [])))
    go true = tt
    go false = tt

records_numbered : (s : Session) (blocks : List ℕ) (k m : ℕ) → Numbered (record_tests s blocks k m)
unfolding record_tests
records_numbered s blocks k zero = tt
records_numbered s blocks k (suc m) = records_numbered s blocks (suc k) m

pub placed_numbered : (all : Terms) → Numbered (each place_tests (terms_of all))
placed_numbered all = each_numbered (λ k. place_tests) place_numbered 0 (terms_of all)

-- of the masks
module _ (s : Session) (rows : List ℕ) (all : Terms) where
  pub unused_numbered : Numbered (each (mark_tests s unused) (terms_of all))
  unused_numbered = each_numbered (λ k. mark_tests s unused) (mark_numbered s unused) 0 (terms_of all)

  pub mask_marks_numbered : Numbered (masks_marks s all)
  mask_marks_numbered = numbered_append (each (mark_tests s unused) (terms_of all)) (7 when named_twice_of (factors_of all) ∷ []) unused_numbered tt

  pub masks_numbered : Numbered (masks_own s rows all)
  masks_numbered =
      let numbers = each (mask_number_tests (width s) rows) (terms_of all) in
      numbered_append (each place_tests (terms_of all)) (masks_marks s all ++ numbers) (placed_numbered all)
      (numbered_append (masks_marks s all) numbers mask_marks_numbered
      (each_numbered (λ k. mask_number_tests (width s) rows) (number_numbered (width s) rows) 0 (terms_of all)))

-- of the finish
module _ (s : Session) (rows : List ℕ) (all : Terms) (d : ℕ) (blocks : List ℕ) where
  pub places_numbered : Numbered (finish_places all d)
  places_numbered = numbered_append (each place_tests (terms_of all)) (6 when no_row d ∷ []) (placed_numbered all) tt

  pub remembered_numbered : Numbered (each (remember_tests s) (factors_of all))
  remembered_numbered = each_numbered (λ k. remember_tests s) (remember_numbered s) 0 (factors_of all)

  pub held_numbered : Numbered (each (mark_tests s masked) (terms_of all))
  held_numbered = each_numbered (λ k. mark_tests s masked) (mark_numbered s masked) 0 (terms_of all)

  pub marks_numbered : Numbered (finish_marks s all d)
  marks_numbered =
      let remember = each (remember_tests s) (factors_of all) in
      let sum = 7 when wrong_mark_of s d empty ∷ [] in
      numbered_append (each (mark_tests s masked) (terms_of all)) (7 when named_twice_of (factors_of all) ∷ (remember ++ sum)) held_numbered
      (numbered_append remember sum remembered_numbered tt)

  pub terms_numbered : Numbered (each (term_number_tests (width s) rows) (terms_of all))
  terms_numbered = each_numbered (λ k. term_number_tests (width s) rows) (term_numbered (width s) rows) 0 (terms_of all)

  pub numbers_numbered : Numbered (finish_numbers s rows all blocks)
  numbers_numbered =
      numbered_append (each (term_number_tests (width s) rows) (terms_of all)) (record_tests s blocks 0 all.products) terms_numbered
      (records_numbered s blocks 0 all.products)

  pub finish_numbered : Numbered (finish_own s rows all d blocks)
  finish_numbered =
      numbered_append (finish_places all d) (finish_marks s all d ++ finish_numbers s rows all blocks) places_numbered
      (numbered_append (finish_marks s all d) (finish_numbers s rows all blocks) marks_numbered numbers_numbered)

  pub checks_numbered : Numbered (relation_finish_checks s rows all d blocks)
  checks_numbered = finish_numbered

module _ (s : Session) (rows blocks : List ℕ) (k : ℕ) (ts : List Term) where
  pub few_numbered : Numbered (each_at_of (few_tests s rows blocks) k ts)
  few_numbered = each_numbered (few_tests s rows blocks) (λ k t. tt) k ts

  pub open_numbered : Numbered (open_tests s rows blocks k ts)
  open_numbered =
      numbered_append (each_at_of (few_tests s rows blocks) k ts) (each_at_of (off_tests s rows blocks) k ts) few_numbered
      (each_numbered (off_tests s rows blocks) (λ k t. tt) k ts)
