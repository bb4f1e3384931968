-- Document 02, (viii): "the relations, use the pair". By induction over the product terms.
use Prim.Native.Nat.{ℕ, zero, suc, ◌+◌, ◌*◌, ◌≤◌}
use mathlib.Core.Path.{◌≡◌, refl, sym, ◌∙◌, ap, ap₂, subst}
use mathlib.Core.Bool.{false}
use mathlib.Core.List.{List, [], ◌∷◌}
use native.Mathlib.Nat.{mul_assoc, mul_comm}
use native.Mathlib.Omega.{arith}
use lib.ListN.{length, set, length-set}
use Rattle.shape.specs.Marks.{held, masked, spent, collected as collectedMark}
use Rattle.poly.specs.Counting.{All}
use Rattle.poly.proofs.Lists.{all_map, all_zip}
use Rattle.refusal.specs.Refusal.{first, outcome}
use Rattle.callers.specs.Sets.{shared}
use Rattle.session.specs.declared.Session.{Session}
use Rattle.session.specs.declared.Answer.{Answer}
use Rattle.session.specs.Sessions.{factor_a_of, factor_b_of, marked, holding, answer, summed_row}
use Rattle.session.specs.Checks.{frame_tests}
use Rattle.session.proofs.RowLaws.{length_row}
use Rattle.opening.specs.Walking.{record_length}
use Rattle.product_masks.proofs.Passed.{Factored}
use Rattle.multiply.specs.Multiply.{with_product}
use Rattle.product_law.specs.Claims.{Whole}
use Rattle.terms.specs.declared.Term.{Term}
use Rattle.terms.specs.Listed.{products_of, collected, terms_of, factors_of}
use Rattle.terms.proofs.Placing.{terms_again, factors_again}
use Rattle.relation.specs.Tests.{named_twice_of}
use Rattle.relation.specs.Finish.{term_number_a, term_number_b, with_products, with_sum, pair_done, finished_terms, relation_done, relation_finish_refusal, relation_finish_answer, relation_finish_rows, number_rows}
use Rattle.relation.proofs.Naming.{twice_parts}
use Rattle.relation.proofs.Passed.{AllAt, Enough, Agreed, RecordsLow, RelationFinished, relation_finished}
use Rattle.relation_law.specs.Pairs.{first_call, second_call, second_rows, PairsAccepted, session_after, rows_after_of}
use Rattle.relation_law.specs.Claims.{FinishIsPairs}
use Rattle.relation_law.proofs.Lows.{TermLow, frame_clear, terms_low}
use Rattle.relation_law.proofs.Step.{state_of, pair_marks, answered, left, Stays, Waits, Long, first_is, second_is, rows_are, written_long, still_waits}

length_marks : (m : List ℕ) (r : ℕ) → length (pair_marks m r) ≡ length m
length_marks m r =
    let one = set m r collectedMark in
    let two = set one r spent in
    let three = set two (r + 1) spent in
    length-set three (r + 2) held ∙ length-set two (r + 1) spent ∙ length-set one r spent ∙ length-set m r collectedMark

module _ (s : Session) (rows blocks : List ℕ) where
  -- the walk is accepted, and leaves what the relation's finish leaves behind its product terms
  abbrev Left : ℕ → List Term → Session → List ℕ → Type 0
  Left k ts now l =
      PairsAccepted blocks k ts now l
      × (finished_terms s rows blocks k ts now ≡ session_after blocks k ts now l)
      × (with_products s rows blocks k ts l ≡ rows_after_of blocks k ts now l)

  -- one pair more in front
  in_front : (k : ℕ) (t : Term) (ts : List Term) (now : Session) (l : List ℕ) → (first_call blocks k t now l).refusal ≡ 0
      → second_call blocks k t now l ≡ holding 0 0 (pair_done now t.first (term_number_a s rows blocks k t) (term_number_b s rows blocks k t))
      → second_rows blocks k t now l ≡ with_product s (term_number_a s rows blocks k t) (term_number_b s rows blocks k t) t.first l
      → Left (suc k) ts (pair_done now t.first (term_number_a s rows blocks k t) (term_number_b s rows blocks k t))
      (with_product s (term_number_a s rows blocks k t) (term_number_b s rows blocks k t) t.first l)
      → Left k (t ∷ ts) now l
  unfolding PairsAccepted session_after rows_after_of finished_terms with_products
  in_front k t ts now l one two three (ok, session, written) =
      let e = sym (ap (λ (x : Answer). x.session) two) in
      let f = sym three in (
        (
          one,
          ap (λ (x : Answer). x.refusal) two,
          subst (λ (q : Session). PairsAccepted blocks (suc k) ts q (second_rows blocks k t now l)) e (subst (PairsAccepted blocks (suc k) ts _) f ok),
        ),
        session ∙ ap₂ (session_after blocks (suc k) ts) e f,
        written ∙ ap₂ (rows_after_of blocks (suc k) ts) e f,
      )

  none : (k : ℕ) (now : Session) (l : List ℕ) → Left k [] now l
  unfolding PairsAccepted session_after rows_after_of finished_terms with_products
  none k now l = (tt, refl, refl)

  module _ (frame : first (frame_tests s rows) ≡ 0) where
    walked : (k : ℕ) (ts : List Term) (m a b sets l : List ℕ) → Long s rows blocks m a b sets l → AllAt (Stays s rows blocks) k ts → All (Waits s rows blocks m l) ts
        → named_twice_of ts ≡ false → Left k ts (state_of s m a b sets) l
    walked k [] m a b sets l long f h once = none k (state_of s m a b sets) l
    walked k (t ∷ ts) m a b sets l long (f, fs) (h, hs) once =
        let r = t.first in
        let now = state_of s m a b sets in
        let y = term_number_a s rows blocks k t in
        let y' = term_number_b s rows blocks k t in
        let (apart, rest) = twice_parts t ts once in
        in_front k t ts now l
        (ap (λ (x : Answer). x.refusal) (first_is s rows blocks frame m a b sets l long k t f h))
        (second_is s rows blocks frame m a b sets l long k t f h) (rows_are s rows blocks frame m a b sets l long k t f h)
        (walked (suc k) ts (pair_marks m r) (set a r y) (set b r y') (shared 8 sets (r + 2) (factor_a_of s r) (factor_b_of s r)) (with_product s y y' r l)
        (record {
          marks = length_marks m r ∙ long.marks;
          y_a_is = length-set a r y ∙ long.y_a_is;
          y_b_is = length-set b r y' ∙ long.y_b_is;
          as_long = written_long s rows blocks frame m a b sets l long k t f h ∙ long.as_long;
        })
        fs (all_zip (λ u ne v. still_waits s rows blocks frame m a b sets l long k t f h u ne v) ts apart hs) rest)

  -- ---- the start of the walk

  waiting : (t : Term) → Factored s t.row t.second t.first masked → Waits s rows blocks s.marks rows t
  waiting t f = record {
    a_in = f.a_in;
    b_in = f.b_in;
    triple_in = f.triple_in;
    a_held = f.a_held;
    b_held = f.b_held;
    first_mark = f.first_mark;
    second_mark = f.second_mark;
    third_mark = f.third_mark;
    a_row = refl;
    b_row = refl;
    first_row = refl;
    second_row = refl;
    third_row = refl;
  }

  staying : (all : ℕ) → length blocks ≡ 2 * all * record_length s → (k : ℕ) (ts : List Term) → k + length ts ≤ all
      → All (λ t. (factor_a_of s t.first ≡ t.row) × (factor_b_of s t.first ≡ t.second)) ts → All (TermLow s rows) ts
      → AllAt (RecordsLow s blocks) k ts → AllAt (Enough s rows blocks) k ts → AllAt (Agreed s rows blocks) k ts → AllAt (Stays s rows blocks) k ts
  staying all size k [] few kept low records enough agreed = tt
  staying all size k (t ∷ ts) few (e, kept) (n, low) (x, records) (y, enough) (z, agreed) = (
    record {
      remembered = e;
      low = n;
      a_long = length_row (record_length s) (2 * all) blocks (2 * k) size (omega arith);
      b_long = length_row (record_length s) (2 * all) blocks (2 * k + 1) size (omega arith);
      records_low = x;
      enough = y;
      agreed = z;
    },
    staying all size (suc k) ts (omega arith) kept low records enough agreed,
  )

  module _ (ts : List Term) (d : ℕ) (whole : Whole s) (z : relation_finish_refusal s rows (collected ts) d blocks ≡ 0) where
    passed : RelationFinished s rows ts d blocks
    passed = relation_finished s ts d blocks rows z

    whole_walk : Left 0 (products_of ts) s rows
    whole_walk =
        let f = passed.checked in
        let all = length (products_of ts) in
        walked (frame_clear s rows ts d blocks z) 0 (products_of ts) s.marks s.y_a s.y_b s.barred rows
        (record { marks = whole.marks; y_a_is = whole.y_a_is; y_b_is = whole.y_b_is; as_long = refl })
        (staying all (f.placed.blocks_long ∙ sym (mul_assoc all 2 (record_length s)) ∙ ap (λ (x : ℕ). x * record_length s) (mul_comm all 2)) 0 (products_of ts)
        (omega arith) f.placed.remembered (terms_low s rows ts d blocks z f.placed.few) f.records_low passed.enough passed.agreed)
        (all_map waiting (products_of ts) f.placed.factors) f.placed.once

    session_left : (relation_finish_answer s rows (collected ts) d blocks).session ≡ relation_done s rows blocks (products_of ts) ts d
    session_left =
        let x = relation_finish_refusal s rows (collected ts) d blocks in
        let new = relation_done s rows blocks (factors_of (collected ts)) (terms_of (collected ts)) d in
        ap (λ (q : Answer). q.session) (answered x new s z)
        ∙ ap₂ (λ (f l : List Term). relation_done s rows blocks f l d) (factors_again ts passed.checked.placed.few) (terms_again ts passed.checked.placed.few)

    rows_left : relation_finish_rows s rows (collected ts) d blocks ≡ with_sum s d ts (with_products s rows blocks 0 (products_of ts) rows)
    rows_left =
        let x = relation_finish_refusal s rows (collected ts) d blocks in
        let few = passed.checked.placed.few in
        left x (with_sum s d (terms_of (collected ts)) (with_products s rows blocks 0 (factors_of (collected ts)) rows)) rows z
        ∙ ap₂ (λ (l fs : List Term). with_sum s d l (with_products s rows blocks 0 fs rows)) (terms_again ts few) (factors_again ts few)

-- the answer's refusal is the call's
pub refusal_is : (x : ℕ) (new old : Session) → (answer x 0 new old).refusal ≡ 0 → x ≡ 0
unfolding outcome
refusal_is zero new old e = refl
refusal_is (suc x) new old e = e

pub finish_is_pairs : FinishIsPairs
finish_is_pairs s rows ts d blocks whole e =
    let z = refusal_is (relation_finish_refusal s rows (collected ts) d blocks) (relation_done s rows blocks (factors_of (collected ts)) (terms_of (collected ts)) d) s e in
    let (ok, session, written) = whole_walk s rows blocks ts d whole z in
    record {
      accepted = ok;
      session_is = session_left s rows blocks ts d whole z ∙ ap (λ (q : Session). summed_row q d (number_rows ts)) session;
      rows_are = rows_left s rows blocks ts d whole z ∙ ap (with_sum s d ts) written;
    }
