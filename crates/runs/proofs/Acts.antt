-- A call that is not refused leaves the marks that its acts make.
use Prim.Native.Nat.{ℕ, suc, ◌+◌, ◌*◌, ◌≤◌}
use mathlib.Core.Path.{◌≡◌, refl, sym, ◌∙◌, ap, ap₂}
use mathlib.Core.List.{List, [], ◌∷◌, ◌++◌}
use native.Mathlib.Omega.{arith}
use lib.ListN.{length}
use Rattle.session.specs.declared.Session.{Session}
use Rattle.terms.specs.declared.Term.{Term}
use Rattle.terms.specs.Listed.{products_of}
use Rattle.terms.proofs.Placing.{factors_again, terms_again}
use Rattle.relation.specs.Masks.{masked_terms}
use Rattle.relation.specs.Finish.{finished_terms, relation_done, pair_done, term_number_a, term_number_b}
use Rattle.relation.proofs.Passed.{relation_masks_made, relation_finished}
use Rattle.runs.specs.Outline.{load_row_of, load_triple_of, deal, message, opening, linear, masks, collect, multiply, relation_masks_of, relation_finish_of, access, factoring, finishing, summing, Move, Act, acts_in, acts}
use Rattle.runs.specs.Calls.{Actual, Post, Call, perform, after}
use Rattle.runs.specs.Acts.{marks_after, many, ActsDo}
use Rattle.runs.proofs.Outcomes.{refusal_of, refusal_is, does, done}

-- ---- of a relation's product terms

masked_marks : (ts : List Term) (s : Session) → (masked_terms s ts).marks ≡ marks_after (acts_in Actual (factoring Actual ts)) s.marks
unfolding masked_terms
masked_marks [] s = refl
masked_marks (t ∷ ts) s = masked_marks ts _

module _ (m : ℕ) (blocks : List ℕ) (rest : List (Move Actual)) where
  finished_marks : (s : Session) (rows : List ℕ) (k : ℕ) (ts : List Term) (now : Session)
      → marks_after (acts_in Actual rest) (finished_terms s rows blocks k ts now).marks ≡ marks_after (acts_in Actual (finishing Actual m blocks k ts ++ rest)) now.marks
  unfolding finished_terms
  finished_marks s rows k [] now = refl
  finished_marks s rows k (t ∷ ts) now =
      finished_marks s rows (suc k) ts (pair_done now t.first (term_number_a s rows blocks k t) (term_number_b s rows blocks k t))

  finishing_many : (k : ℕ) (ts : List Term) → length (acts_in Actual (finishing Actual m blocks k ts ++ rest)) ≡ 2 * length ts + length (acts_in Actual rest)
  finishing_many k [] = omega arith
  finishing_many k (t ∷ ts) = let e = finishing_many (suc k) ts in omega (arith, e)

factoring_many : (ts : List Term) → length (acts_in Actual (factoring Actual ts)) ≡ length ts
factoring_many [] = refl
factoring_many (t ∷ ts) = ap suc (factoring_many ts)

-- and then the sum, of one term or more
with_sum_lem : (ts : List Term) (r : ℕ) (blocks : List ℕ) (q : Post) → 1 ≤ length ts
    → (relation_done q.session q.rows blocks (products_of ts) ts r).marks ≡ marks_after (acts {K = Actual} (relation_finish_of (record { terms = ts; r = r; blocks = blocks }))) q.session.marks
with_sum_lem [] r blocks q h = absurd (omega arith)
with_sum_lem (t ∷ ts) r blocks q h =
    finished_marks (2 * length (products_of (t ∷ ts))) blocks (summing Actual r (t ∷ ts)) q.session q.rows 0 (products_of (t ∷ ts)) q.session

many_with_sum : (ts : List Term) (r : ℕ) (blocks : List ℕ) → 1 ≤ length ts
    → length (acts {K = Actual} (relation_finish_of (record { terms = ts; r = r; blocks = blocks }))) ≡ 2 * length (products_of ts) + 1
many_with_sum [] r blocks h = absurd (omega arith)
many_with_sum (t ∷ ts) r blocks h = finishing_many (2 * length (products_of (t ∷ ts))) blocks (summing Actual r (t ∷ ts)) 0 (products_of (t ∷ ts))

-- ---- call by call

marks_left : (c : Call) (q : Post) → refusal_of c q ≡ 0 → (does c q).session.marks ≡ marks_after (acts c) q.session.marks
marks_left (load_row_of x) q z = refl
marks_left (load_triple_of x) q z = refl
marks_left (deal x) q z = refl
marks_left (message x) q z = refl
marks_left (opening x) q z = refl
marks_left (linear x) q z = refl
marks_left (masks x) q z = refl
marks_left (collect x) q z = refl
marks_left (multiply x) q z = refl
marks_left (access x) q z = refl
marks_left (relation_masks_of x) q z =
    let f = (relation_masks_made q.session q.rows x.terms x.lent z).placed in
    ap (λ (fs : List Term). (masked_terms q.session fs).marks) (factors_again x.terms f.few) ∙ masked_marks (products_of x.terms) q.session
marks_left (relation_finish_of x) q z =
    let f = (relation_finished q.session x.terms x.r x.blocks q.rows z).checked.placed in
    ap₂ (λ (fs ts : List Term). (relation_done q.session q.rows x.blocks fs ts x.r).marks) (factors_again x.terms f.few)
    (terms_again x.terms f.few)
    ∙ with_sum_lem x.terms x.r x.blocks q f.some

many_acts : (c : Call) (q : Post) → refusal_of c q ≡ 0 → length (acts c) ≡ many c
many_acts (load_row_of x) q z = refl
many_acts (load_triple_of x) q z = refl
many_acts (deal x) q z = refl
many_acts (message x) q z = refl
many_acts (opening x) q z = refl
many_acts (linear x) q z = refl
many_acts (masks x) q z = refl
many_acts (collect x) q z = refl
many_acts (multiply x) q z = refl
many_acts (access x) q z = refl
many_acts (relation_masks_of x) q z = factoring_many (products_of x.terms)
many_acts (relation_finish_of x) q z =
    let f = (relation_finished q.session x.terms x.r x.blocks q.rows z).checked.placed in
    many_with_sum x.terms x.r x.blocks f.some

pub acts_do : ActsDo
acts_do c q z =
    let z' = sym (refusal_is c q) ∙ z in
    record {
      marks = ap (λ (p : Post). p.session.marks) (done c q z') ∙ marks_left c q z';
      count = many_acts c q z';
    }
