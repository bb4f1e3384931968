-- What 1 to 5 and the 8s leave of a relation's finish: its frame, and the rows of each product term. relation's own records drop these.
use Prim.Native.Nat.{ℕ, ◌+◌, ◌≤◌}
use mathlib.Core.Path.{◌≡◌, subst}
use mathlib.Core.Bool.{Bool, false}
use mathlib.Core.List.{List, [], ◌∷◌, ◌++◌}
use lib.ListN.{length}
use Rattle.poly.specs.Counting.{All}
use Rattle.refusal.specs.Refusal.{◌when◌, first, AllFail}
use Rattle.refusal.specs.Conditions.{any_beyond}
use Rattle.refusal.proofs.Laws.{all_fail}
use Rattle.refusal.proofs.Groups.{fail_parts}
use Rattle.session.specs.declared.Session.{Session}
use Rattle.session.specs.Rows.{width, row_at}
use Rattle.session.specs.Checks.{frame_tests}
use Rattle.opening.proofs.Passed.{clear_parts}
use Rattle.product_masks.specs.Masks.{factor_numbers_of}
use Rattle.product_masks.proofs.Passed.{FactorsLow}
use Rattle.terms.specs.declared.Term.{Term}
use Rattle.terms.specs.Listed.{most_terms, plain, products_of, collected, terms_of, factors_of}
use Rattle.terms.proofs.Placing.{terms_again}
use Rattle.relation.specs.Tests.{each, by_kind}
use Rattle.relation.specs.Finish.{finish_sizes, finish_places, finish_marks, term_number_tests, record_tests, finish_numbers, finish_own, open_tests, relation_finish_checks, relation_finish_refusal}
use Rattle.relation.proofs.Numbering.{checks_numbered}
use Rattle.relation.proofs.Passed.{each_fail, forget, products_all}

-- a product term's rows are low
abbrev pub TermLow : Session → List ℕ → Term → Type 0
TermLow s rows t =
    FactorsLow s rows t.row t.second t.first × (any_beyond (row_at (width s) rows (t.first + 2)) ≡ false)

module _ (s : Session) (rows : List ℕ) where
  low_of : (t : Term) → plain t ≡ false → AllFail (term_number_tests (width s) rows t) → TermLow s rows t
  low_of t e h =
      let alone = 8 when any_beyond (row_at (width s) rows t.row) ∷ [] in
      let five = factor_numbers_of (width s) rows t.row t.second t.first ++ (8 when any_beyond (row_at (width s) rows (t.first + 2)) ∷ []) in
      let (a, (b, (one, (two, (three, _))))) = subst (λ (k : Bool). AllFail (by_kind k alone five)) e h.1 in
      (record { a_low = a; b_low = b; first_low = one; second_low = two }, three)

  module _ (ts : List Term) (d : ℕ) (blocks : List ℕ) (z : relation_finish_refusal s rows (collected ts) d blocks ≡ 0) where
    checks_clear : first (relation_finish_checks s rows (collected ts) d blocks) ≡ 0
    unfolding relation_finish_refusal
    checks_clear =
        let all = collected ts in
        (clear_parts (relation_finish_checks s rows all d blocks) (open_tests s rows blocks 0 (factors_of all)) (checks_numbered s rows all d blocks) z).0

    pub frame_clear : first (frame_tests s rows) ≡ 0
    frame_clear =
        let all = collected ts in
        (clear_parts (frame_tests s rows) (finish_sizes s all blocks ++ finish_own s rows all d blocks) tt checks_clear).0

    pub terms_low : length ts ≤ most_terms → All (TermLow s rows) (products_of ts)
    terms_low few =
        let all = collected ts in
        let eights = each (term_number_tests (width s) rows) (terms_of all) in
        let late = finish_marks s all d ++ finish_numbers s rows all blocks in
        let fails = all_fail (relation_finish_checks s rows all d blocks) (checks_numbered s rows all d blocks) checks_clear in
        let (_, own) = fail_parts (frame_tests s rows) (finish_sizes s all blocks ++ finish_own s rows all d blocks) fails in
        let (_, behind) = fail_parts (finish_sizes s all blocks) (finish_places all d ++ late) own in
        let (_, rest) = fail_parts (finish_places all d) late behind in
        let (_, numbers) = fail_parts (finish_marks s all d) (finish_numbers s rows all blocks) rest in
        let (low, _) = fail_parts eights (record_tests s blocks 0 all.products) numbers in
        products_all (λ t. AllFail (term_number_tests (width s) rows t)) (TermLow s rows) low_of ts
        (subst (All (λ t. AllFail (term_number_tests (width s) rows t))) (terms_again ts few)
        (forget (λ t. AllFail (term_number_tests (width s) rows t)) 0 (terms_of all) (each_fail (λ k. term_number_tests (width s) rows) 0 (terms_of all) low)))
