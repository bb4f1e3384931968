-- Nor does a relation: 13 is no number of the masks' tests, and every record of a finish shows what was broadcast.
use Prim.Native.Nat.{ℕ, zero, suc, ◌+◌, ◌*◌, ◌≤◌}
use mathlib.Core.Path.{◌≡◌, refl, sym, ◌∙◌, ap, ap₂, subst}
use mathlib.Core.Bool.{Bool, true, false}
use mathlib.Core.Logic.{inr}
use mathlib.Core.List.{List, [], ◌∷◌, ◌++◌}
use native.Mathlib.Omega.{arith}
use lib.ListN.{length, take, drop}
use Rattle.poly.specs.Counting.{All}
use Rattle.shape.specs.Marks.{empty, held, unused, masked, present}
use Rattle.shape.specs.Lengths.{v_length}
use Rattle.refusal.specs.Refusal.{Test, ◌when◌, first, or_else, AllFail}
use Rattle.refusal.specs.Conditions.{beyond, any_beyond}
use Rattle.refusal.proofs.Laws.{first_join, all_fail, not_refused}
use Rattle.session.specs.declared.Session.{Session}
use Rattle.session.specs.Sessions.{shape_of}
use Rattle.session.specs.Rows.{width, row_at}
use Rattle.session.specs.Checks.{frame_tests, no_row, no_triple, wrong_mark_of}
use Rattle.opening.specs.Walking.{record_length, block_mark, block_coefficients, too_few_of, disagree}
use Rattle.product_masks.specs.Masks.{triple_marks_of, factor_numbers_of, mask_row}
use Rattle.terms.specs.declared.Term.{Term}
use Rattle.terms.specs.Listed.{plain, products_of, collected, terms_of, factors_of}
use Rattle.terms.proofs.Placing.{factors_again}
use Rattle.relation.specs.Tests.{each_at_of, each, by_kind, place_tests, mark_tests, named_twice_of}
use Rattle.relation.specs.Masks.{masks_sizes, masks_marks, mask_number_tests, relation_masks_tests, relation_masks_refusal}
use Rattle.relation.specs.Finish.{record_a_of, record_b_of, finish_sizes, finish_places, finish_marks, remember_tests, term_number_tests, record_tests, finish_numbers, few_tests, off_tests, open_tests, relation_finish_checks, relation_finish_refusal}
use Rattle.relation.proofs.Passed.{AllAt, each_fail, RelationFinishPlaced, relation_finish_checked}
use Rattle.relation.proofs.Numbering.{checks_numbered, few_numbered}
use Rattle.runs.specs.Outline.{takes, Move, finishing, summing}
use Rattle.runs.specs.Calls.{ToldHalf}
use Rattle.runs.specs.Draws.{plan_shape}
use Rattle.runs.proofs.Marks.{remembered_a, remembered_b, session_at}
use Rattle.runs.proofs.Related.{cut_is}
use Rattle.runs.proofs.Relations.{Waits}
use Rattle.runs.proofs.Allowed.{waiting}
use Rattle.secrecy.specs.Steps.{Fixed, Record}
use Rattle.secrecy.specs.Rules.{RuleWith}
use Rattle.secrecy.proofs.State.{Run, Moment, State}
use Rattle.secrecy.proofs.Thirteen.{Other, never_first, none_before, agrees_a, agrees_b}

-- ---- the numbers of a relation's tests

other_join : (xs ys : List Test) → Other xs → Other ys → Other (xs ++ ys)
other_join [] ys a b = b
other_join (k when x ∷ xs) ys a b = (a.0, other_join xs ys a.1 b)

other_each : (f : ℕ → Term → List Test) → ((k : ℕ) (t : Term) → Other (f k t)) → (k : ℕ) (ts : List Term) → Other (each_at_of f k ts)
unfolding each_at_of
other_each f h k [] = tt
other_each f h k (t ∷ ts) = other_join (f k t) (each_at_of f (suc k) ts) (h k t) (other_each f h (suc k) ts)

other_place : (k : ℕ) (t : Term) → Other (place_tests t)
other_place k t = go (plain t)
  where
    go : (b : Bool) → Other (6 when no_row t.row ∷ by_kind b [] (6 when no_row t.second ∷ 6 when no_triple t.first ∷ []))
    go true = omega arith
    go false = omega arith

other_mark : (s : Session) (m k : ℕ) (t : Term) → Other (mark_tests s m t)
other_mark s m k t = go (plain t)
  where
    go : (b : Bool) → Other (by_kind b (7 when wrong_mark_of s t.row held ∷ []) (triple_marks_of s t.row t.second t.first m))
    go true = omega arith
    go false = omega arith

other_mask : (w : ℕ) (rows : List ℕ) (k : ℕ) (t : Term) → Other (mask_number_tests w rows t)
other_mask w rows k t = go (plain t)
  where
    go : (b : Bool) → Other (8 when beyond t.coefficient ∷ by_kind b [] (factor_numbers_of w rows t.row t.second t.first))
    go true = omega arith
    go false = omega arith

other_term : (w : ℕ) (rows : List ℕ) (k : ℕ) (t : Term) → Other (term_number_tests w rows t)
other_term w rows k t = go (plain t)
  where
    go : (b : Bool)
        → Other (8 when beyond t.coefficient ∷ by_kind b (8 when any_beyond (row_at w rows t.row) ∷ []) (factor_numbers_of w rows t.row t.second t.first ++ (8 when any_beyond (row_at w rows (t.first + 2)) ∷ [])))
    go true = omega arith
    go false = omega arith

other_records : (s : Session) (blocks : List ℕ) (k m : ℕ) → Other (record_tests s blocks k m)
unfolding record_tests
other_records s blocks k zero = tt
other_records s blocks k (suc m) = ((λ e. omega arith), ((λ e. omega arith), other_records s blocks (suc k) m))

module _ (C : Run) (m : Moment) (S : State C m) (i : ℕ) (lo : 1 ≤ i) (hi : i ≤ C.plan.n) where
  open C use {plan, draw}
  open m use {marks as M, vec, lines, posts as q}

  abbrev l : List ℕ
  l = (q i).rows

  abbrev s : Session
  s = session_at plan draw i M (S.posts i lo hi).opened

  other_marks : (m : ℕ) (ts : List Term) → Other (each (mark_tests s m) ts)
  other_marks m ts = other_each (λ k. mark_tests s m) (other_mark s m) 0 ts

  pub relation_masks_never : (ts : List Term) (out : List ℕ) → relation_masks_refusal s l (collected ts) out ≡ 13 → ⊥
  unfolding relation_masks_refusal
  relation_masks_never ts out e =
      let all = collected ts in
      let eights = each (mask_number_tests (width s) l) (terms_of all) in
      let behind = each place_tests (terms_of all) ++ (masks_marks s all ++ eights) in
      never_first (relation_masks_tests s l all out)
      (other_join (frame_tests s l) (masks_sizes s all out ++ behind) (omega arith)
      (other_join (masks_sizes s all out) behind (omega arith)
      (other_join (each place_tests (terms_of all)) (masks_marks s all ++ eights) (other_each (λ k. place_tests) other_place 0 (terms_of all))
      (other_join (masks_marks s all) eights (other_join (each (mark_tests s unused) (terms_of all)) (7 when named_twice_of (factors_of all) ∷ []) (other_marks unused (terms_of all)) (omega arith))
      (other_each (λ k. mask_number_tests (width s) l) (other_mask (width s) l) 0 (terms_of all))))))
      e

  -- ---- a finish

  module _ (ts : List Term) (d : ℕ) (blocks : Record) where
    abbrev bl : List ℕ
    bl = blocks i lines

    abbrev fs : List Term
    fs = products_of ts

    checks_other : Other (relation_finish_checks s l (collected ts) d (blocks i lines))
    checks_other =
        let all = collected ts in
        let late = finish_marks s all d ++ finish_numbers s l all bl in
        let rows = terms_of all in
        other_join (frame_tests s l) (finish_sizes s all bl ++ (finish_places all d ++ late)) (omega arith)
        (other_join (finish_sizes s all bl) (finish_places all d ++ late) (omega arith)
        (other_join (finish_places all d) late (other_join (each place_tests rows) (6 when no_row d ∷ []) (other_each (λ k. place_tests) other_place 0 rows) (omega arith))
        (other_join (finish_marks s all d) (finish_numbers s l all bl)
        (other_join (each (mark_tests s masked) rows) (7 when named_twice_of (factors_of all) ∷ (each (remember_tests s) (factors_of all) ++ (7 when wrong_mark_of s d empty ∷ []))) (other_marks masked rows)
        ((λ e. omega arith), other_join (each (remember_tests s) (factors_of all)) (7 when wrong_mark_of s d empty ∷ []) (other_each (λ k. remember_tests s) (λ k t. omega arith) 0 (factors_of all)) (omega arith)))
        (other_join (each (term_number_tests (width s) l) rows) (record_tests s bl 0 all.products) (other_each (λ k. term_number_tests (width s) l) (other_term (width s) l) 0 rows) (other_records s bl 0 all.products)))))

    -- where 9 refuses nothing, 13 does not either
    all_agree_is : RelationFinishPlaced s ts d (blocks i lines) → (k : ℕ) (us : List Term) (rest : List (Move Fixed)) → length us ≤ length (products_of ts)
        → All (Waits M) us → All (λ t. (remembered_a M t.first ≡ t.row) × (remembered_b M t.first ≡ t.second)) us
        → AllAt (λ k t. AllFail (few_tests s l (blocks i lines) k t)) k us
        → All (λ m. RuleWith plan 13 lines (takes m.0) m.1) (finishing Fixed (2 * length (products_of ts)) blocks k us ++ rest)
        → AllFail (each_at_of (off_tests s l (blocks i lines)) k us)
    unfolding each_at_of
    all_agree_is f k [] rest some w r few rule = tt
    all_agree_is f k (t ∷ us) rest some w r few rule =
        let cuts = cut_is (length fs) (record_length s) bl (omega arith) f.blocks_long in
        let shown = rule.0 (inr (inr refl)) in (
          subst (λ (x : List ℕ). too_few_of s x (record_a_of s bl k) ≡ false → disagree s x (record_a_of s bl k) ≡ false)
              (ap (λ (x : ℕ). mask_row (shape_of s) l x t.first) r.0.0)
              (agrees_a C m S i lo hi t.first w.0 (record_a_of s bl k) (λ j lj hj ne.
              subst (λ (x : List ℕ). block_mark (v_length (plan_shape plan)) x j ≡ present → ToldHalf (plan_shape plan) (take (v_length (plan_shape plan))) t.first lines j (block_coefficients (v_length (plan_shape plan)) x j))
              (cuts (2 * k)) (shown.0 i j lo hi lj hj ne)))
              few.0.0,
          (
            subst (λ (x : List ℕ). too_few_of s x (record_b_of s bl k) ≡ false → disagree s x (record_b_of s bl k) ≡ false)
                (ap (λ (x : ℕ). mask_row (shape_of s) l x (t.first + 1)) r.0.1)
                (agrees_b C m S i lo hi t.first w.0 (record_b_of s bl k) (λ j lj hj ne.
                subst (λ (x : List ℕ). block_mark (v_length (plan_shape plan)) x j ≡ present → ToldHalf (plan_shape plan) (drop (v_length (plan_shape plan))) t.first lines j (block_coefficients (v_length (plan_shape plan)) x j))
                (cuts (2 * k + 1)) (shown.1 i j lo hi lj hj ne)))
                few.0.1.0,
            all_agree_is f (suc k) us rest (omega arith) w.1 r.1 few.1 rule.1.1,
          ),
        )

    pub relation_finish_never : relation_finish_refusal s l (collected ts) d (blocks i lines) ≡ 13
        → All (λ m. RuleWith plan 13 lines (takes m.0) m.1) (finishing Fixed (2 * length (products_of ts)) blocks 0 (products_of ts) ++ summing Fixed d ts) → ⊥
    unfolding relation_finish_refusal
    relation_finish_never e rule =
        let all = collected ts in
        let checks = relation_finish_checks s l all d bl in
        let walks = open_tests s l bl 0 (factors_of all) in
        let numbered = checks_numbered s l all d bl in
        let z = none_before checks walks numbered checks_other e in
        let f = (relation_finish_checked s ts d bl l z).placed in
        let last = sym (first_join checks walks numbered ∙ ap (λ (k : ℕ). or_else k (first walks)) z) ∙ e in
        let off = subst (λ (us : List Term). first (open_tests s l bl 0 us) ≡ 13) (factors_again ts f.few) last in
        let nine = each_at_of (few_tests s l bl) 0 fs in
        let thirteen = each_at_of (off_tests s l bl) 0 fs in
        let numbered' = few_numbered s l bl 0 fs in
        let none = none_before nine thirteen numbered' (other_each (few_tests s l bl) (λ k t. omega arith) 0 fs) off in
        let agree = not_refused thirteen (all_agree_is f 0 fs (summing Fixed d ts) (omega arith) (waiting plan draw i M (S.posts i lo hi).opened l ts d bl f) f.remembered (each_fail (few_tests s l bl) 0 fs (all_fail nine numbered' none)) rule) in
        let wrong : ◌≡◌ {A = ℕ} 0 13 = sym (first_join nine thirteen numbered' ∙ ap₂ or_else none agree) ∙ off in
        omega arith
