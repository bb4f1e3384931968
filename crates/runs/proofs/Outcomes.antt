-- What a call gives, by its refusal: the post as it came, or the call's own session and rows.
use Prim.Native.Nat.{ℕ, zero, suc, ◌+◌}
use mathlib.Core.Path.{◌≡◌, refl, ◌∙◌, ap, ap₂}
use mathlib.Core.List.{List, [], ◌∷◌}
use native.Mathlib.Omega.{arith}
use lib.ListN.{length}
use Rattle.shape.specs.Lengths.{masks_length}
use Rattle.shape.specs.Marks.{raw, held, unused, further, masked, collected as collectedMark}
use Rattle.refusal.specs.Refusal.{outcome}
use Rattle.session.specs.declared.Session.{Session}
use Rattle.session.specs.Sessions.{shape_of, answer, opened_a_of, opened_b_of, marked, with_barred, summed_row, finished_triple, remembering, recalling}
use Rattle.session.specs.Rows.{width, coefficients, sums_at_of, row_at, with_row, plus_sums, summed}
use Rattle.load.specs.Load.{load_row_refusal_of, load_triple_refusal_of, with_triple}
use Rattle.deal.specs.Deal.{deal_refusal_of}
use Rattle.message.specs.Message.{message_refusal_of}
use Rattle.linear.specs.Linear.{linear_refusal_of}
use Rattle.opening.specs.Walking.{opened}
use Rattle.opening.specs.Opening.{open_refusal_of}
use Rattle.product_masks.specs.Masks.{masks_refusal_of, mask_numbers_of}
use Rattle.collect.specs.Collect.{number_a, number_b, collect_refusal}
use Rattle.multiply.specs.Multiply.{with_product, multiply_refusal_of}
use Rattle.terms.specs.Listed.{products_of, collected, terms_of, factors_of}
use Rattle.relation.specs.Masks.{relation_masks_refusal, masked_terms, term_masks}
use Rattle.relation.specs.Finish.{relation_finish_refusal, with_products, with_sum, relation_done}
use Rattle.access.specs.Access.{access_refusal, access_sets}
use Rattle.runs.specs.Outline.{load_row_of, load_triple_of, deal, message, opening, linear, masks, collect, multiply, relation_masks_of, relation_finish_of, access, Sending}
use Rattle.runs.specs.Calls.{Post, Call, Performed, performed, pieces, perform, after, line_of, sent_if, sent_by}

-- ---- one answer

pub answer_refusal : (k v : ℕ) (new old : Session) → (answer k v new old).refusal ≡ k
unfolding outcome
answer_refusal zero v new old = refl
answer_refusal (suc k) v new old = refl

pub done_is : {A : Type 0} (k : ℕ) (new old : A) → k ≡ 0 → outcome k new old ≡ new
unfolding outcome
done_is zero new old z = refl
done_is (suc k) new old z = absurd (omega arith)

-- the post after an answer with the refusal k
pub settled : (k v : ℕ) (new old : Session) (l' l : List ℕ) → k ≡ 0
    → ◌≡◌ {A = Post} (record { session = (answer k v new old).session; rows = outcome k l' l }) (record { session = new; rows = l' })
unfolding outcome
settled zero v new old l' l z = refl
settled (suc k) v new old l' l z = absurd (omega arith)

returned : (k v : ℕ) (new old : Session) (l' l : List ℕ) (j : ℕ) → k ≡ suc j
    → ◌≡◌ {A = Post} (record { session = (answer k v new old).session; rows = outcome k l' l }) (record { session = old; rows = l })
unfolding outcome
returned zero v new old l' l j e = absurd (omega arith)
returned (suc k) v new old l' l j e = refl

-- ---- the calls

-- What a call does at a post: its refusal; and, where that is 0, its value, the session, the rows, and what is written into the
-- list that it was lent.
pub record Doing : Type 0 where
  pub refusal : ℕ
  pub value : ℕ
  pub session : Session
  pub rows : List ℕ
  pub lent : List (List ℕ)
  pub written : List (List ℕ)

abbrev changes : ℕ → Session → List ℕ → Doing
changes k s rows = record { refusal = k; value = 0; session = s; rows = rows; lent = []; written = [] }

abbrev writes : ℕ → Session → List ℕ → List (List ℕ) → List (List ℕ) → Doing
writes k s rows lent written = record { refusal = k; value = 0; session = s; rows = rows; lent = lent; written = written }

abbrev pub does : Call → Post → Doing
does (load_row_of x) q =
    let s = q.session in
    changes (load_row_refusal_of s q.rows x.r x.pack) (marked s x.r raw) (with_row (width s) x.r x.pack q.rows)
does (load_triple_of x) q =
    let s = q.session in
    changes (load_triple_refusal_of s q.rows x.r x.pack) (marked (marked (marked s x.r unused) (x.r + 1) further) (x.r + 2) further)
    (with_triple (width s) x.r x.pack q.rows)
does (deal x) q =
    let s = q.session in
    changes (deal_refusal_of s q.rows x.r x.c) (marked s x.r held)
    (with_row (width s) x.r (plus_sums (sums_at_of s) x.c (row_at (width s) q.rows x.r)) q.rows)
does (message x) q =
    let s = q.session in
    writes (message_refusal_of s q.rows x.r x.caller x.lent) s q.rows (x.lent ∷ []) (coefficients s (row_at (width s) q.rows x.r) ∷ [])
does (opening x) q =
    let s = q.session in
    record {
      refusal = open_refusal_of s q.rows x.r x.blocks;
      value = opened s (row_at (width s) q.rows x.r) x.blocks;
      session = s;
      rows = q.rows;
      lent = [];
      written = [];
    }
does (linear x) q =
    let s = q.session in
    changes (linear_refusal_of s q.rows x.r x.a x.b x.scale x.fee) (summed_row s x.r (x.a ∷ x.b ∷ []))
    (with_row (width s) x.r (summed (sums_at_of s) x.scale x.fee (row_at (width s) q.rows x.a) (row_at (width s) q.rows x.b)) q.rows)
does (masks x) q =
    let s = q.session in
    writes (masks_refusal_of s q.rows x.a x.b x.r x.lent) (remembering (marked s x.r masked) x.r x.a x.b) q.rows
    (x.lent ∷ []) (mask_numbers_of s q.rows x.a x.b x.r ∷ [])
does (collect x) q =
    let s = q.session in
    changes (collect_refusal s q.rows x.r x.blocks_a x.blocks_b)
    (recalling (marked s x.r collectedMark) x.r (number_a s q.rows x.r x.blocks_a) (number_b s q.rows x.r x.blocks_b)) q.rows
does (multiply x) q =
    let s = q.session in
    changes (multiply_refusal_of s q.rows x.r) (finished_triple s x.r)
    (with_product s (opened_a_of s x.r) (opened_b_of s x.r) x.r q.rows)
does (relation_masks_of x) q =
    let s = q.session in
    let all = collected x.terms in
    let lines = pieces (masks_length (shape_of s)) (length (products_of x.terms)) in
    writes (relation_masks_refusal s q.rows all x.lent) (masked_terms s (factors_of all)) q.rows (lines x.lent)
    (lines (term_masks (shape_of s) q.rows (factors_of all)))
does (relation_finish_of x) q =
    let s = q.session in
    let all = collected x.terms in
    changes (relation_finish_refusal s q.rows all x.r x.blocks) (relation_done s q.rows x.blocks (factors_of all) (terms_of all) x.r)
    (with_sum s x.r (terms_of all) (with_products s q.rows x.blocks 0 (factors_of all) q.rows))
does (access x) q =
    let s = q.session in changes (access_refusal s x.line) (with_barred s (access_sets x.line s.barred)) q.rows

-- "Refused ... every lent list as it came": the answer, the rows and the lent list of every contract are of this form
abbrev performed_by : Doing → Post → Performed
performed_by d q =
    performed (answer d.refusal d.value d.session q.session) (outcome d.refusal d.rows q.rows)
    (outcome d.refusal d.written d.lent)

-- rows, or no list lent: as they were in either case
module _ {A : Type 0} where
  still : (k : ℕ) (x : A) → x ≡ outcome k x x
  unfolding outcome
  still zero x = refl
  still (suc k) x = refl

  -- the parts of a lent list
  through : {B : Type 0} (f : A → B) (k : ℕ) (x y : A) → f (outcome k x y) ≡ outcome k (f x) (f y)
  unfolding outcome
  through f zero x y = refl
  through f (suc k) x y = refl

performs : (c : Call) (q : Post) → perform c q ≡ performed_by (does c q) q
unfolding perform
performs (load_row_of x) q = ap (performed _ _) (still _ [])
performs (load_triple_of x) q = ap (performed _ _) (still _ [])
performs (deal x) q = ap (performed _ _) (still _ [])
performs (message x) q = ap₂ (performed _) (still _ q.rows) (through (λ (l : List ℕ). l ∷ []) _ _ _)
performs (opening x) q = ap₂ (performed _) (still _ q.rows) (still _ [])
performs (linear x) q = ap (performed _ _) (still _ [])
performs (masks x) q = ap₂ (performed _) (still _ q.rows) (through (λ (l : List ℕ). l ∷ []) _ _ _)
performs (collect x) q = ap₂ (performed _) (still _ q.rows) (still _ [])
performs (multiply x) q = ap (performed _ _) (still _ [])
performs (relation_masks_of x) q =
    ap₂ (performed _) (still _ q.rows) (through (pieces (masks_length (shape_of q.session)) (length (products_of x.terms))) _ _ _)
performs (relation_finish_of x) q = ap (performed _ _) (still _ [])
performs (access x) q = ap₂ (performed _) (still _ q.rows) (still _ [])

abbrev pub refusal_of : Call → Post → ℕ
refusal_of c q = (does c q).refusal

pub refusal_is : (c : Call) (q : Post) → (perform c q).answer.refusal ≡ refusal_of c q
refusal_is c q = ap (λ (o : Performed). o.answer.refusal) (performs c q) ∙ answer_refusal _ _ _ _

pub value_is : (c : Call) (q : Post) → (perform c q).answer.value ≡ (answer (does c q).refusal (does c q).value (does c q).session q.session).value
value_is c q = ap (λ (o : Performed). o.answer.value) (performs c q)

-- not refused: the call's own session and rows; refused: those that it came with
abbrev pub own : Doing → Post
own d = record { session = d.session; rows = d.rows }

pub done : (c : Call) (q : Post) → refusal_of c q ≡ 0 → after (perform c q) ≡ own (does c q)
done c q z = ap after (performs c q) ∙ settled _ _ _ _ _ _ z

pub written_is : (c : Call) (q : Post) → refusal_of c q ≡ 0 → (perform c q).lent ≡ (does c q).written
written_is c q z = ap (λ (o : Performed). o.lent) (performs c q) ∙ done_is _ _ _ z

pub refused : (c : Call) (q : Post) (k : ℕ) → refusal_of c q ≡ suc k
    → ((perform c q).answer.session ≡ q.session) × ((perform c q).rows ≡ q.rows)
refused c q k e =
    let h = returned _ _ _ _ _ _ k e in (
      ap (λ (o : Performed). o.answer.session) (performs c q) ∙ ap (λ (p : Post). p.session) h,
      ap (λ (o : Performed). o.rows) (performs c q) ∙ ap (λ (p : Post). p.rows) h,
    )

-- and nothing is sent
pub silent : (i j k : ℕ) (ss : List Sending) (parts : List (List ℕ)) → j ≡ suc k → sent_by i j ss parts ≡ []
silent i j k [] parts e = refl
silent i j k (s ∷ ss) [] e = refl
silent i j k (s ∷ ss) (xs ∷ parts) e =
    ap (λ (m : ℕ). sent_if m (line_of i s xs) (sent_by i j ss parts)) e ∙ silent i j k ss parts e
