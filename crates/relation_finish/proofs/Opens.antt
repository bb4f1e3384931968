-- The numbers that a relation's finish opens: its refusal, and the products and the session from them.
use Prim.Native.Nat.{ℕ, zero, suc, ◌+◌, ◌≤◌, ◌<◌}
use mathlib.Core.Path.{◌≡◌, refl, sym, ◌∙◌, ap, ap₂}
use mathlib.Core.Logic.{◌≢◌}
use mathlib.Core.Bool.{Bool, true, false, ◌||◌}
use mathlib.Core.List.{List, [], ◌∷◌, ◌++◌}
use native.Mathlib.Omega.{arith}
use lib.ListN.{length, get_or, length-set, length-take, length-replicate}
use lib.Seq.{get_or-set_same, get_or-set_other}
use Rattle.refusal.specs.Refusal.{Test, ◌when◌, first, or_else, outcome, AllFail}
use Rattle.refusal.proofs.Laws.{Numbered, first_join, all_fail, not_refused}
use Rattle.refusal.proofs.Groups.{fail_parts}
use Rattle.std.specs.Prelude.{Result}
use Rattle.refusal.specs.declared.Refusal.{Refusal}
use Rattle.refusal.specs.Numbers.{refused}
use Rattle.refusal.proofs.Endings.{refused as refused_end, accepted}
use Rattle.session.specs.declared.Session.{Session}
use Rattle.session.specs.declared.Answer.{Answer}
use Rattle.session.specs.Sessions.{shape_of, holding, marked, sharing_all}
use Rattle.session.specs.Between.{Framed, RowIn}
use Rattle.shape.specs.Bounds.{last_row_at}
use Rattle.shape.specs.Marks.{held}
use Rattle.session.proofs.Endings.{refused_answer, accepted_answer}
use Rattle.walk.specs.Number.{value_or_zero, or_nine}
use Rattle.opening.specs.Walking.{too_few_of, disagree, opened, opened_row}
use Rattle.mask_opening.specs.Either.{either_of}
use Rattle.multiply.specs.Multiply.{with_product}
use Rattle.terms.specs.declared.Term.{Term}
use Rattle.terms.specs.declared.Terms.{Terms}
use Rattle.terms.specs.Listed.{most_terms, terms_of, factors_of}
use Rattle.relation_writing.specs.declared.OpenedTerms.{OpenedTerms}
use Rattle.relation.specs.Tests.{each_at_of, Counted, Few, Every, Factors, Placed}
use Rattle.relation.specs.Finish.{record_a_of, record_b_of, term_mask_a, term_mask_b, term_number_a, term_number_b, few_tests, off_tests, open_tests}
use Rattle.relation.specs.Finish.{with_products, with_sum, pair_done, finished_terms, relation_done, number_rows}
use Rattle.relation.specs.Finish.{relation_finish_checks, relation_finish_refusal, relation_finish_answer, relation_finish_rows}
use Rattle.relation_writing.specs.Steps.{products_written, triples_finished}
use Rattle.relation_finish.specs.Steps.{with_opened, opened_terms, unopened, opened_all, unopened_by, opened_finish}
use Rattle.relation.proofs.Passing.{numbered_append}
use Rattle.relation.proofs.Numbering.{checks_numbered, few_numbered, open_numbered}
use Rattle.relation.proofs.Loops.{walked}
use Rattle.relation_checks.proofs.Finishing.{checks_allowed}
use Rattle.relation_writing.proofs.Summing.{products_walk, finished_walk, products_of_is, finished_of}

-- 9, or else 13
abbrev told : Bool → Bool → ℕ
told few off = first (9 when few ∷ 13 when off ∷ [])

told_either : (f f' d d' : Bool) → either_of (told f d) (told f' d') ≡ told (f || f') (d || d')
told_either true true d d' = refl
told_either true false d true = refl
told_either true false d false = refl
told_either false true d d' = refl
told_either false false true true = refl
told_either false false true false = refl
told_either false false false true = refl
told_either false false false false = refl

refusal_told : (f d : Bool) (v : ℕ) → refused (or_nine f d v) ≡ told f d
refusal_told true d v = refl
refusal_told false true v = refl
refusal_told false false v = refl

value_of : (f d : Bool) (v : ℕ) → f ≡ false → d ≡ false → value_or_zero (or_nine f d v) ≡ v
value_of f d v ef ed = rw (ef, ed) refl

-- a condition on either record of some product term, from place k on
abbrev any_at : (ℕ → Term → Bool) → (ℕ → Term → Bool) → ℕ → List Term → Bool
any_at a b k [] = false
any_at a b k (t ∷ ts) = (a k t || b k t) || any_at a b (suc k) ts

any_first : (j : ℕ) (a b : ℕ → Term → Bool) (k : ℕ) (ts : List Term)
    → first (each_at_of (λ i t. j when a i t ∷ j when b i t ∷ []) k ts) ≡ first (j when any_at a b k ts ∷ [])
unfolding each_at_of
any_first j a b k [] = refl
any_first j a b k (t ∷ ts) = go (a k t) (b k t) (any_at a b (suc k) ts) (any_first j a b (suc k) ts)
  where
    rest : List Test
    rest = each_at_of (λ i t. j when a i t ∷ j when b i t ∷ []) (suc k) ts

    go : (x y z : Bool) → first rest ≡ first (j when z ∷ []) → first (j when x ∷ j when y ∷ rest) ≡ first (j when ((x || y) || z) ∷ [])
    go true y z e = refl
    go false true z e = refl
    go false false z e = e

told_groups : (xs ys : List Test) → Numbered xs → (f d : Bool) → first xs ≡ first (9 when f ∷ []) → first ys ≡ first (13 when d ∷ [])
    → first (xs ++ ys) ≡ told f d
told_groups xs ys n f d ex ey = first_join xs ys n ∙ ap₂ or_else ex ey ∙ go f
  where
    go : (f : Bool) → or_else (first (9 when f ∷ [])) (first (13 when d ∷ [])) ≡ told f d
    go true = refl
    go false = refl

or_assoc : (a b c : Bool) → (a || b) || c ≡ a || (b || c)
or_assoc true b c = refl
or_assoc false b c = refl

or_none : (a : Bool) → a || false ≡ a
or_none true = refl
or_none false = refl

module _ (s : Session) (rows blocks : List ℕ) where
  abbrev xa : Term → List ℕ
  xa t = term_mask_a s rows t

  abbrev xb : Term → List ℕ
  xb t = term_mask_b s rows t

  abbrev few_a : ℕ → Term → Bool
  few_a k t = too_few_of s (xa t) (record_a_of s blocks k)

  abbrev few_b : ℕ → Term → Bool
  few_b k t = too_few_of s (xb t) (record_b_of s blocks k)

  abbrev off_a : ℕ → Term → Bool
  off_a k t = disagree s (xa t) (record_a_of s blocks k)

  abbrev off_b : ℕ → Term → Bool
  off_b k t = disagree s (xb t) (record_b_of s blocks k)

  a_is : (k : ℕ) (t : Term) → opened_row s (xa t) (record_a_of s blocks k) ≡ or_nine (few_a k t) (off_a k t) (opened s (xa t) (record_a_of s blocks k))
  a_is k t = refl

  b_is : (k : ℕ) (t : Term) → opened_row s (xb t) (record_b_of s blocks k) ≡ or_nine (few_b k t) (off_b k t) (opened s (xb t) (record_b_of s blocks k))
  b_is k t = refl

  term_told : (k : ℕ) (t : Term)
      → either_of (refused (opened_row s (xa t) (record_a_of s blocks k))) (refused (opened_row s (xb t) (record_b_of s blocks k)))
      ≡ told (few_a k t || few_b k t) (off_a k t || off_b k t)
  term_told k t =
      ap₂ (λ (a b : Result ℕ Refusal). either_of (refused a) (refused b)) (a_is k t) (b_is k t)
      ∙ ap₂ either_of (refusal_told (few_a k t) (off_a k t) (opened s (xa t) (record_a_of s blocks k))) (refusal_told (few_b k t) (off_b k t) (opened s (xb t) (record_b_of s blocks k)))
      ∙ told_either (few_a k t) (few_b k t) (off_a k t) (off_b k t)

  opened_told : (k : ℕ) (ts : List Term) (o : OpenedTerms) (f d : Bool) → o.refusal ≡ told f d
      → (opened_terms s rows blocks k ts o).refusal ≡ told (f || any_at few_a few_b k ts) (d || any_at off_a off_b k ts)
  unfolding opened_terms
  opened_told k [] o f d e = e ∙ ap₂ told (sym (or_none f)) (sym (or_none d))
  opened_told k (t ∷ ts) o f d e =
      let f' = few_a k t || few_b k t in
      let d' = off_a k t || off_b k t in
      opened_told (suc k) ts (with_opened s rows blocks k t o) (f || f') (d || d') (ap₂ either_of e (term_told k t) ∙ told_either f f' d d')
      ∙ ap₂ told (or_assoc f f' (any_at few_a few_b (suc k) ts)) (or_assoc d d' (any_at off_a off_b (suc k) ts))

  abbrev fews : ℕ → List Term → List Test
  fews k ts = each_at_of (few_tests s rows blocks) k ts

  abbrev offs : ℕ → List Term → List Test
  offs k ts = each_at_of (off_tests s rows blocks) k ts

  opened_refusal : (ts : List Term) → (opened_terms s rows blocks 0 ts unopened).refusal ≡ first (open_tests s rows blocks 0 ts)
  opened_refusal ts =
      opened_told 0 ts unopened false false refl
      ∙ sym (told_groups (fews 0 ts) (offs 0 ts) (few_numbered s rows blocks 0 ts) (any_at few_a few_b 0 ts) (any_at off_a off_b 0 ts)
      (any_first 9 few_a few_b 0 ts) (any_first 13 off_a off_b 0 ts))

  -- a later term leaves the numbers of those before it
  kept_below : (k : ℕ) (ts : List Term) (o : OpenedTerms) (i : ℕ) → i < k
      → (get_or (opened_terms s rows blocks k ts o).y_a i 0 ≡ get_or o.y_a i 0) × (get_or (opened_terms s rows blocks k ts o).y_b i 0 ≡ get_or o.y_b i 0)
  unfolding opened_terms
  kept_below k [] o i h = (refl, refl)
  kept_below k (t ∷ ts) o i h =
      let q = kept_below (suc k) ts (with_opened s rows blocks k t o) i (omega arith) in
      let other : i ≢ k = λ e. omega arith in
      (q.0 ∙ get_or-set_other o.y_a k i _ 0 other, q.1 ∙ get_or-set_other o.y_b k i _ 0 other)

  -- what is done with each term and its numbers in the two lists is done with the numbers that it opens to
  with_own : {X : Type 0} (f : ℕ → ℕ → Term → X → X) (k : ℕ) (ts : List Term) (o : OpenedTerms) (now : X) → length o.y_a ≡ most_terms
      → length o.y_b ≡ most_terms → k + length ts ≤ most_terms → AllFail (each_at_of (few_tests s rows blocks) k ts) → AllFail (each_at_of (off_tests s rows blocks) k ts)
      → walked (λ i t x. f (get_or (opened_terms s rows blocks k ts o).y_a i 0) (get_or (opened_terms s rows blocks k ts o).y_b i 0) t x) k ts now
      ≡ walked (λ i t x. f (term_number_a s rows blocks i t) (term_number_b s rows blocks i t) t x) k ts now
  unfolding opened_terms each_at_of
  with_own f k [] o now la lb h few off = refl
  with_own f k (t ∷ ts) o now la lb h few off =
      let p = with_opened s rows blocks k t o in
      let m = fail_parts (few_tests s rows blocks k t) (fews (suc k) ts) few in
      let g = fail_parts (off_tests s rows blocks k t) (offs (suc k) ts) off in
      let q = kept_below (suc k) ts p k (omega arith) in
      let ya : get_or (opened_terms s rows blocks (suc k) ts p).y_a k 0 ≡ term_number_a s rows blocks k t =
      q.0 ∙ get_or-set_same o.y_a k _ 0 (omega arith) ∙ ap value_or_zero (a_is k t)
      ∙ value_of (few_a k t) (off_a k t) (term_number_a s rows blocks k t) m.0.0 g.0.0 in
      let yb : get_or (opened_terms s rows blocks (suc k) ts p).y_b k 0 ≡ term_number_b s rows blocks k t =
      q.1 ∙ get_or-set_same o.y_b k _ 0 (omega arith) ∙ ap value_or_zero (b_is k t)
      ∙ value_of (few_b k t) (off_b k t) (term_number_b s rows blocks k t) m.0.1.0 g.0.1.0 in
      with_own f (suc k) ts p (f (get_or (opened_terms s rows blocks (suc k) ts p).y_a k 0) (get_or (opened_terms s rows blocks (suc k) ts p).y_b k 0) t now)
      (length-set o.y_a k _ ∙ la) (length-set o.y_b k _ ∙ lb) (omega arith) m.1 g.1
      ∙ ap₂ (λ (u v : ℕ). walked (λ i t x. f (term_number_a s rows blocks i t) (term_number_b s rows blocks i t) t x) (suc k) ts (f u v t now)) ya yb

module _ (s : Session) (rows : List ℕ) (all : Terms) (d : ℕ) (blocks : List ℕ) where
  abbrev checks : List Test
  checks = relation_finish_checks s rows all d blocks

  abbrev opens : List Test
  opens = open_tests s rows blocks 0 (factors_of all)

  -- 1 to 8 stop the call, or the openings settle it
  module _ (f : ℕ) (e : f ≡ first (relation_finish_checks s rows all d blocks)) where
    pub terms_unopened : (f ≡ 0 → ⊥) → (o : OpenedTerms) → o ≡ unopened_by f → o ≡ opened_finish s rows all d blocks
    terms_unopened n o eo =
        eo ∙ ap unopened_by e ∙ refused_end f (first checks) (opened_all s rows all blocks) (unopened_by (first checks)) e n

    pub terms_opened : f ≡ 0 → (o : OpenedTerms) → o ≡ opened_all s rows all blocks → o ≡ opened_finish s rows all d blocks
    terms_opened z o eo = accepted f (first checks) o (opened_all s rows all blocks) (unopened_by (first checks)) e z eo

  refusal_of_lem : (k : ℕ) → (outcome k (opened_all s rows all blocks) (unopened_by k)).refusal ≡ or_else k (first opens)
  unfolding outcome
  refusal_of_lem zero = opened_refusal s rows blocks (factors_of all)
  refusal_of_lem (suc k) = refl

  numbers_of : (k : ℕ) → k ≡ 0 → outcome k (opened_all s rows all blocks) (unopened_by k) ≡ opened_all s rows all blocks
  unfolding outcome
  numbers_of zero e = refl
  numbers_of (suc k) e = absurd (omega arith)

  -- the call's two ends
  module _ (c : Counted all) (given : OpenedTerms) (e : given ≡ opened_finish s rows all d blocks) where
    abbrev o : OpenedTerms
    o = given

    abbrev done : Session
    done = relation_done s rows blocks (factors_of all) (terms_of all) d

    abbrev whole : List ℕ
    whole = with_sum s d (terms_of all) (with_products s rows blocks 0 (factors_of all) rows)

    refusal_is : o.refusal ≡ relation_finish_refusal s rows all d blocks
    unfolding relation_finish_refusal
    refusal_is =
        ap (λ (x : OpenedTerms). x.refusal) e ∙ refusal_of_lem (first checks)
        ∙ sym (first_join checks opens (checks_numbered s rows all d blocks))

    module _ (n : o.refusal ≡ 0 → ⊥) where
      pub finish_refused : (a : Answer) → a ≡ holding o.refusal 0 s → a ≡ relation_finish_answer s rows all d blocks
      finish_refused a h = h ∙ refused_answer o.refusal (relation_finish_refusal s rows all d blocks) 0 s done s refusal_is n refl

      pub finish_kept : rows ≡ relation_finish_rows s rows all d blocks
      finish_kept = refused_end o.refusal (relation_finish_refusal s rows all d blocks) whole rows refusal_is n

    module _ (z : o.refusal ≡ 0) where
      fails : AllFail (relation_finish_checks s rows all d blocks) × AllFail (open_tests s rows blocks 0 (factors_of all))
      unfolding relation_finish_refusal
      fails =
          let n = open_numbered s rows blocks 0 (factors_of all) in
          fail_parts checks opens
          (all_fail (checks ++ opens) (numbered_append checks opens (checks_numbered s rows all d blocks) n) (sym refusal_is ∙ z))

      checked : first (relation_finish_checks s rows all d blocks) ≡ 0
      checked = not_refused checks fails.0

      pub finish_framed : Framed s rows
      finish_framed = (checks_allowed s rows all d blocks c (first checks) refl checked).0

      pub finish_few : Few all
      finish_few = (checks_allowed s rows all d blocks c (first checks) refl checked).1

      pub finish_placed : Every (Placed (shape_of s)) (terms_of all)
      finish_placed = (checks_allowed s rows all d blocks c (first checks) refl checked).2

      pub finish_factors : Every (Factors (shape_of s)) (factors_of all)
      finish_factors = (checks_allowed s rows all d blocks c (first checks) refl checked).3

      pub finish_dest : RowIn (shape_of s) d
      finish_dest = (checks_allowed s rows all d blocks c (first checks) refl checked).4

      pub finish_96 : d < 96
      finish_96 = omega (arith, finish_dest.row_in)

      pub finish_row : d ≤ last_row_at
      finish_row = finish_dest.row_in

      numbers_are : o ≡ opened_all s rows all blocks
      numbers_are = e ∙ numbers_of (first checks) checked

      -- with the numbers in the two lists as with those that the terms open to
      owned : {X : Type 0} (f : ℕ → ℕ → Term → X → X) (now : X)
          → walked (λ i t x. f (get_or o.y_a i 0) (get_or o.y_b i 0) t x) 0 (factors_of all) now
          ≡ walked (λ i t x. f (term_number_a s rows blocks i t) (term_number_b s rows blocks i t) t x) 0 (factors_of all) now
      owned f now =
          let l : 0 + length (factors_of all) ≤ most_terms = omega (arith, length-take all.products all.factors, finish_few.products_in) in
          let split = fail_parts (fews s rows blocks 0 (factors_of all)) (offs s rows blocks 0 (factors_of all)) fails.1 in
          ap (λ (x : OpenedTerms). walked (λ i t y. f (get_or x.y_a i 0) (get_or x.y_b i 0) t y) 0 (factors_of all) now) numbers_are
          ∙ with_own s rows blocks f 0 (factors_of all) unopened now (length-replicate {A = ℕ} most_terms 0) (length-replicate {A = ℕ} most_terms 0) l split.0 split.1

      pub finish_done : (g : Session) (a : Answer) → g ≡ sharing_all (triples_finished o.y_a o.y_b 0 (factors_of all) s) d (number_rows (terms_of all))
          → a ≡ holding 0 0 (marked g d held) → a ≡ relation_finish_answer s rows all d blocks
      finish_done g a eg h =
          let w : triples_finished o.y_a o.y_b 0 (factors_of all) s ≡ finished_terms s rows blocks 0 (factors_of all) s =
          sym (finished_walk o.y_a o.y_b 0 (factors_of all) s) ∙ owned (λ y y' t x. pair_done x t.first y y') s
          ∙ finished_of s rows blocks 0 (factors_of all) s in
          h ∙ accepted_answer o.refusal (relation_finish_refusal s rows all d blocks) 0 0 (marked g d held) done s refusal_is z refl
          (ap (λ (x : Session). marked x d held) (eg ∙ ap (λ (x : Session). sharing_all x d (number_rows (terms_of all))) w))

      pub finish_written : (out : List ℕ) → out ≡ with_sum s d (terms_of all) (products_written s o.y_a o.y_b 0 (factors_of all) rows)
          → out ≡ relation_finish_rows s rows all d blocks
      finish_written out eo =
          let w : products_written s o.y_a o.y_b 0 (factors_of all) rows ≡ with_products s rows blocks 0 (factors_of all) rows =
          sym (products_walk s o.y_a o.y_b 0 (factors_of all) rows) ∙ owned (λ y y' t x. with_product s y y' t.first x) rows
          ∙ products_of_is s rows blocks 0 (factors_of all) rows in
          accepted o.refusal (relation_finish_refusal s rows all d blocks) out whole rows refusal_is z (eo ∙ ap (with_sum s d (terms_of all)) w)
