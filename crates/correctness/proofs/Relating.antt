-- A relation's finish at a post that stands by the ledger: 1 to 8 refuse nothing, and what it gives, by 9 and 13.
use Prim.Native.Nat.{ℕ, suc, ◌+◌, ◌*◌, ◌≤◌, ◌<◌}
use mathlib.Core.Path.{◌≡◌, refl, sym, ◌∙◌, ap, ap₂, subst}
use mathlib.Core.Bool.{Bool, true, false, not, ◌||◌, false≢true}
use mathlib.Core.Logic.{◌⊎◌, inl, inr}
use mathlib.Core.List.{List, [], ◌∷◌, ◌++◌}
use native.Mathlib.Omega.{arith}
use borrow.Author.Tests.{le-ltb, eq-eqb}
use lib.Dec.{eqb}
use lib.ListN.{length}
use Rattle.field.specs.Modulus.{p}
use Rattle.shape.specs.Bounds.{last_row_at, last_triple}
use Rattle.shape.specs.Marks.{empty, held, further, masked}
use Rattle.poly.specs.Counting.{All}
use Rattle.poly.proofs.Lists.{all_map, all_zip}
use Rattle.refusal.specs.Refusal.{Test, ◌when◌, first, or_else, AllFail}
use Rattle.refusal.specs.Conditions.{any_beyond}
use Rattle.refusal.proofs.Laws.{first_join, not_refused}
use Rattle.refusal.proofs.Elements.{element_test}
use Rattle.session.specs.declared.Session.{Session}
use Rattle.session.specs.Sessions.{mark, factor_a_of, factor_b_of}
use Rattle.session.specs.Rows.{width, row_at}
use Rattle.session.specs.Checks.{frame_tests, no_row, no_triple, wrong_mark_of}
use Rattle.opening.specs.Walking.{record_length, bad_record, too_few_of, disagree}
use Rattle.opening.proofs.Passed.{clear_join}
use Rattle.product_masks.specs.Masks.{triple_marks_of, factor_numbers_of}
use Rattle.terms.specs.declared.Term.{Term}
use Rattle.terms.specs.Listed.{most_terms, plain, products_of, collected, terms_of, factors_of}
use Rattle.terms.proofs.Placing.{terms_again, factors_again}
use Rattle.relation.specs.Tests.{each_at_of, each, by_kind, place_tests, mark_tests, named_twice_of}
use Rattle.relation.specs.Finish.{record_a_of, record_b_of, term_mask_a, term_mask_b, finish_sizes, finish_places, remember_tests, finish_marks, term_number_tests, record_tests, finish_numbers, few_tests, off_tests, open_tests, relation_finish_checks, relation_finish_refusal, relation_finish_answer}
use Rattle.relation.proofs.Numbering.{checks_numbered, few_numbered}
use Rattle.relation.proofs.Passed.{products_back}
use Rattle.runs.proofs.Marks.{mark_of, remembered_a}
use Rattle.runs.proofs.Outcomes.{answer_refusal}
use Rattle.runs.proofs.Facts.{Multiplying}
use Rattle.correctness.specs.Relation.{EachAt, OneAt, Ready, Few, Enough, Off}
use Rattle.correctness.proofs.Accepting.{too_few, not_few}
use Rattle.correctness.proofs.Permitted as Permitted
use Rattle.correctness.proofs.Permitted.{Stander, below, frame_clear, numbers_pass, waiting}

-- ---- lists of tests

fail_join : (xs ys : List Test) → AllFail xs → AllFail ys → AllFail (xs ++ ys)
fail_join [] ys a b = b
fail_join (k when x ∷ xs) ys a b = (a.0, fail_join xs ys a.1 b)

each_fails : (f : ℕ → Term → List Test) (k : ℕ) (ts : List Term) → EachAt (λ k t. AllFail (f k t)) k ts → AllFail (each_at_of f k ts)
unfolding each_at_of
each_fails f k [] a = tt
each_fails f k (t ∷ ts) a = fail_join (f k t) (each_at_of f (suc k) ts) a.0 (each_fails f (suc k) ts a.1)

everywhere : (P : Term → Type 0) (k : ℕ) (ts : List Term) → All P ts → EachAt (λ k. P) k ts
everywhere P k [] a = tt
everywhere P k (t ∷ ts) a = (a.0, everywhere P (suc k) ts a.1)

each_map : (P Q : ℕ → Term → Type 0) → ((k : ℕ) (t : Term) → P k t → Q k t) → (k : ℕ) (ts : List Term) → EachAt P k ts → EachAt Q k ts
each_map P Q h k [] a = tt
each_map P Q h k (t ∷ ts) a = (h k t a.0, each_map P Q h (suc k) ts a.1)

is_mark : (s : Session) (x m : ℕ) → mark s x ≡ m → not (eqb (mark s x) m) ≡ false
is_mark s x m e = ap not (eq-eqb (mark s x) m e)

module _ (G : Stander) (ts : List Term) (r : ℕ) (blocks : List ℕ) (ready : Ready (Permitted.q G) ts r blocks) where
  open G use {plan, marks as M, rows as l}

  abbrev s : Session
  s = Permitted.s G

  abbrev fs : List Term
  fs = products_of ts

  -- a term: its row is held, its coefficient an element, and a product's triple waits with its rows
  record Fine (t : Term) : Type 0 where
    pub row : mark_of M t.row ≡ held
    pub coefficient : t.coefficient < p
    pub product : plain t ≡ false → Multiplying masked M t.row t.second t.first

  waits : All (λ t. Multiplying masked M t.row t.second t.first) (products_of ts)
  waits =
      all_map (λ t h. subst (λ (a : ℕ). Multiplying masked M a t.second t.first) h.1
      (subst (λ (b : ℕ). Multiplying masked M (remembered_a M t.first) b t.first) h.2 (waiting G t.first h.0))) (products_of ts) ready.products

  all_fine : All Fine ts
  all_fine = all_zip (λ t h k. record { row = h.0; coefficient = h.1; product = k }) ts ready.terms (products_back _ ts waits)

  low_row : (t : Term) → Fine t → no_row t.row ≡ false
  low_row t f = le-ltb last_row_at t.row (omega (arith, below G t.row f.row))

  place_fails : (t : Term) (b : Bool) → plain t ≡ b → Fine t → AllFail (by_kind b [] (6 when no_row t.second ∷ 6 when no_triple t.first ∷ []))
  place_fails t true e f = tt
  place_fails t false e f =
      let k = f.product e in (le-ltb last_row_at t.second (omega (arith, k.b_low)), (le-ltb last_triple t.first (omega (arith, k.r_low)), tt))

  mark_fails : (t : Term) (b : Bool) → plain t ≡ b → Fine t → AllFail (by_kind b (7 when wrong_mark_of s t.row held ∷ []) (triple_marks_of s t.row t.second t.first masked))
  mark_fails t true e f = (is_mark s t.row held f.row, tt)
  mark_fails t false e f =
      let k = f.product e in
      (is_mark s t.row held k.a_held, (is_mark s t.second held k.b_held, (is_mark s t.first masked k.first, (is_mark s (t.first + 1) further k.second, (is_mark s (t.first + 2) further k.third, tt)))))

  number_fails : (t : Term) (b : Bool) → plain t ≡ b → Fine t
      → AllFail (by_kind b (8 when any_beyond (row_at (width s) l t.row) ∷ []) (factor_numbers_of (width s) l t.row t.second t.first ++ (8 when any_beyond (row_at (width s) l (t.first + 2)) ∷ [])))
  number_fails t true e f = (numbers_pass G t.row f.row, tt)
  number_fails t false e f =
      let k = f.product e in
      (numbers_pass G t.row k.a_held, (numbers_pass G t.second k.b_held, (numbers_pass G t.first k.first, (numbers_pass G (t.first + 1) k.second, (numbers_pass G (t.first + 2) k.third, tt)))))

  -- the tests of the terms that were handed on
  each_term : (f : Term → List Test) → ((t : Term) → Fine t → AllFail (f t)) → AllFail (each f (terms_of (collected ts)))
  each_term f h =
      subst (λ (us : List Term). AllFail (each f us)) (sym (terms_again ts ready.count.1))
      (each_fails (λ k. f) 0 ts (everywhere (λ t. AllFail (f t)) 0 ts (all_map h ts all_fine)))

  records_fail : (k : ℕ) (us : List Term) → EachAt (λ k t. (bad_record s (record_a_of s blocks k) ≡ false) × (bad_record s (record_b_of s blocks k) ≡ false)) k us
      → AllFail (record_tests s blocks k (length us))
  unfolding record_tests
  records_fail k [] a = tt
  records_fail k (t ∷ us) a = (a.0.0, (a.0.1, records_fail (suc k) us a.1))

  -- ---- 1 to 8

  some_row : (us : List Term) → 1 ≤ length us → All Fine us → first (frame_tests s l) ≡ 0
  some_row [] some a = absurd (omega arith)
  some_row (t ∷ us) some a = frame_clear G t.row a.0.row

  checks_clear : first (relation_finish_checks s l (collected ts) r blocks) ≡ 0
  checks_clear =
      let all = collected ts in
      let is = sym (factors_again ts ready.count.1) in
      clear_join (frame_tests s l) (finish_sizes s all blocks ++ (finish_places all r ++ (finish_marks s all r ++ finish_numbers s l all blocks))) tt
      (some_row ts ready.count.0 all_fine)
      (not_refused (finish_sizes s all blocks ++ (finish_places all r ++ (finish_marks s all r ++ finish_numbers s l all blocks))) (
        ap not (eq-eqb (length blocks) (length fs * (2 * record_length s)) ready.long),
        (
          ap₂ ◌||◌ (le-ltb (length ts) 1 ready.count.0) (le-ltb most_terms (length ts) ready.count.1),
          fail_join (finish_places all r) (finish_marks s all r ++ finish_numbers s l all blocks)
              (fail_join (each place_tests (terms_of all)) (6 when no_row r ∷ []) (each_term place_tests (λ t f. (low_row t f, place_fails t (plain t) refl f))) (le-ltb last_row_at r (omega (arith, ready.empty.0)), tt))
              (fail_join (finish_marks s all r) (finish_numbers s l all blocks)
              (fail_join (each (mark_tests s masked) (terms_of all)) (7 when named_twice_of (factors_of all) ∷ (each (remember_tests s) (factors_of all) ++ (7 when wrong_mark_of s r empty ∷ [])))
              (each_term (mark_tests s masked) (λ t f. mark_fails t (plain t) refl f)) (
                subst (λ (us : List Term). named_twice_of us ≡ false) is ready.once,
                fail_join (each (remember_tests s) (factors_of all)) (7 when wrong_mark_of s r empty ∷ [])
                    (subst (λ (us : List Term). AllFail (each (remember_tests s) us)) is
                    (each_fails (λ k. remember_tests s) 0 fs (everywhere (λ t. AllFail (remember_tests s t)) 0 fs
                    (all_map (λ t h. (ap not (eq-eqb (factor_a_of s t.first) t.row h.1), (ap not (eq-eqb (factor_b_of s t.first) t.second h.2), tt))) fs ready.products))))
                    (is_mark s r empty ready.empty.1, tt),
              ))
              (fail_join (each (term_number_tests (width s) l) (terms_of all)) (record_tests s blocks 0 all.products)
              (each_term (term_number_tests (width s) l) (λ t f. (element_test t.coefficient f.coefficient, number_fails t (plain t) refl f)))
              (records_fail 0 fs ready.low))),
        ),
      ))

  -- ---- 9 and 13

  abbrev nines : List Test
  nines = each_at_of (few_tests s l blocks) 0 fs

  abbrev thirteens : List Test
  thirteens = each_at_of (off_tests s l blocks) 0 fs

  pub by_walks : (relation_finish_answer s l (collected ts) r blocks).refusal ≡ first (open_tests s l blocks 0 (products_of ts))
  unfolding relation_finish_refusal
  by_walks =
      answer_refusal (relation_finish_refusal s l (collected ts) r blocks) 0 _ s
      ∙ first_join (relation_finish_checks s l (collected ts) r blocks) (open_tests s l blocks 0 (factors_of (collected ts))) (checks_numbered s l (collected ts) r blocks)
      ∙ ap (λ (k : ℕ). or_else k (first (open_tests s l blocks 0 (factors_of (collected ts))))) checks_clear
      ∙ ap (λ (us : List Term). first (open_tests s l blocks 0 us)) (factors_again ts ready.count.1)

  second_nine : (a : Bool) (xs : List Test) → first (9 when a ∷ 9 when true ∷ xs) ≡ 9
  second_nine true xs = refl
  second_nine false xs = refl

  later_nine : (a b : Bool) (xs : List Test) → first xs ≡ 9 → first (9 when a ∷ 9 when b ∷ xs) ≡ 9
  later_nine true b xs e = refl
  later_nine false true xs e = refl
  later_nine false false xs e = e

  few_first : (k : ℕ) (us : List Term) (rest : List Test) → OneAt (Few (Permitted.q G) blocks) k us → first (each_at_of (few_tests s l blocks) k us ++ rest) ≡ 9
  unfolding each_at_of
  few_first k [] rest o = absurd o
  few_first k (t ∷ us) rest (inl (inl e)) = rw (too_few s (term_mask_a s l t) (record_a_of s blocks k) e) refl
  few_first k (t ∷ us) rest (inl (inr e)) = rw (too_few s (term_mask_b s l t) (record_b_of s blocks k) e) (second_nine (too_few_of s (term_mask_a s l t) (record_a_of s blocks k)) (each_at_of (few_tests s l blocks) (suc k) us ++ rest))
  few_first k (t ∷ us) rest (inr o) = later_nine (too_few_of s (term_mask_a s l t) (record_a_of s blocks k)) (too_few_of s (term_mask_b s l t) (record_b_of s blocks k)) (each_at_of (few_tests s l blocks) (suc k) us ++ rest) (few_first (suc k) us rest o)

  pub relation_few : OneAt (Few (Permitted.q G) blocks) 0 (products_of ts) → (relation_finish_answer s l (collected ts) r blocks).refusal ≡ 9
  relation_few o = by_walks ∙ few_first 0 fs thirteens o

  -- where none has, 13 decides
  by_thirteen : EachAt (Enough (Permitted.q G) blocks) 0 (products_of ts)
      → (relation_finish_answer s l (collected ts) r blocks).refusal ≡ first (each_at_of (off_tests s l blocks) 0 (products_of ts))
  by_thirteen e =
      let none = each_fails (few_tests s l blocks) 0 fs (each_map _ _ (λ k t h. (not_few s (term_mask_a s l t) (record_a_of s blocks k) h.0, (not_few s (term_mask_b s l t) (record_b_of s blocks k) h.1, tt))) 0 fs e) in
      by_walks ∙ first_join nines thirteens (few_numbered s l blocks 0 fs) ∙ ap (λ (k : ℕ). or_else k (first thirteens)) (not_refused nines none)

  pub relation_done_is : EachAt (Enough (Permitted.q G) blocks) 0 (products_of ts)
      → EachAt (λ k t. (disagree s (term_mask_a s l t) (record_a_of s blocks k) ≡ false) × (disagree s (term_mask_b s l t) (record_b_of s blocks k) ≡ false)) 0 (products_of ts)
      → (relation_finish_answer s l (collected ts) r blocks).refusal ≡ 0
  relation_done_is e off =
      by_thirteen e
      ∙ not_refused thirteens (each_fails (off_tests s l blocks) 0 fs (each_map _ _ (λ k t h. (h.0, (h.1, tt))) 0 fs off))

  two_thirteens : (a b : Bool) (xs : List Test) → (first xs ≡ 0) ⊎ (first xs ≡ 13)
      → (first (13 when a ∷ 13 when b ∷ xs) ≡ 0) ⊎ (first (13 when a ∷ 13 when b ∷ xs) ≡ 13)
  two_thirteens true b xs e = inr refl
  two_thirteens false true xs e = inr refl
  two_thirteens false false xs e = e

  only_thirteen : (k : ℕ) (us : List Term) → (first (each_at_of (off_tests s l blocks) k us) ≡ 0) ⊎ (first (each_at_of (off_tests s l blocks) k us) ≡ 13)
  unfolding each_at_of
  only_thirteen k [] = inl refl
  only_thirteen k (t ∷ us) =
      two_thirteens (disagree s (term_mask_a s l t) (record_a_of s blocks k)) (disagree s (term_mask_b s l t) (record_b_of s blocks k)) (each_at_of (off_tests s l blocks) (suc k) us) (only_thirteen (suc k) us)

  pub relation_otherwise : EachAt (Enough (Permitted.q G) blocks) 0 (products_of ts)
      → ((relation_finish_answer s l (collected ts) r blocks).refusal ≡ 0) ⊎ ((relation_finish_answer s l (collected ts) r blocks).refusal ≡ 13)
  relation_otherwise e = rw (by_thirteen e) (only_thirteen 0 fs)

  -- and it is 13 exactly where a share of one of them is off
  one_off : (a b : Bool) (xs : List Test) (Q : Type 0) → (Q → first xs ≡ 13) → ((a ≡ true) ⊎ (b ≡ true)) ⊎ Q → first (13 when a ∷ 13 when b ∷ xs) ≡ 13
  one_off true b xs Q h o = refl
  one_off false true xs Q h o = refl
  one_off false false xs Q h (inl (inl e)) = absurd (false≢true e)
  one_off false false xs Q h (inl (inr e)) = absurd (false≢true e)
  one_off false false xs Q h (inr o) = h o

  off_one : (a b : Bool) (xs : List Test) (Q : Type 0) → (first xs ≡ 13 → Q) → first (13 when a ∷ 13 when b ∷ xs) ≡ 13 → ((a ≡ true) ⊎ (b ≡ true)) ⊎ Q
  off_one true b xs Q h z = inl (inl refl)
  off_one false true xs Q h z = inl (inr refl)
  off_one false false xs Q h z = inr (h z)

  off_first : (k : ℕ) (us : List Term) → OneAt (Off (Permitted.q G) blocks) k us → first (each_at_of (off_tests s l blocks) k us) ≡ 13
  unfolding each_at_of
  off_first k [] o = absurd o
  off_first k (t ∷ us) o =
      one_off (disagree s (term_mask_a s l t) (record_a_of s blocks k)) (disagree s (term_mask_b s l t) (record_b_of s blocks k))
      (each_at_of (off_tests s l blocks) (suc k) us) _ (off_first (suc k) us) o

  first_off : (k : ℕ) (us : List Term) → first (each_at_of (off_tests s l blocks) k us) ≡ 13 → OneAt (Off (Permitted.q G) blocks) k us
  unfolding each_at_of
  first_off k [] z = absurd (omega arith)
  first_off k (t ∷ us) z =
      off_one (disagree s (term_mask_a s l t) (record_a_of s blocks k)) (disagree s (term_mask_b s l t) (record_b_of s blocks k))
      (each_at_of (off_tests s l blocks) (suc k) us) _ (first_off (suc k) us) z

  pub relation_thirteen : EachAt (Enough (Permitted.q G) blocks) 0 (products_of ts)
      → (OneAt (Off (Permitted.q G) blocks) 0 (products_of ts) → (relation_finish_answer s l (collected ts) r blocks).refusal ≡ 13)
      × ((relation_finish_answer s l (collected ts) r blocks).refusal ≡ 13 → OneAt (Off (Permitted.q G) blocks) 0 (products_of ts))
  relation_thirteen e = ((λ o. by_thirteen e ∙ off_first 0 fs o), (λ z. first_off 0 fs (sym (by_thirteen e) ∙ z)))
