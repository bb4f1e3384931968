-- Numbers of the records that nobody looks at change no answer and no row of a relation's finish.
use Prim.Native.Nat.{ℕ, zero, suc, ◌+◌, ◌*◌, ◌≤◌, ◌<◌}
use mathlib.Core.Path.{◌≡◌, refl, sym, ◌∙◌, ap, ap₂}
use mathlib.Core.List.{List, [], ◌∷◌, ◌++◌}
use native.Mathlib.Nat.{mul_assoc, mul_comm}
use native.Mathlib.Omega.{arith}
use lib.ListN.{length, length-take}
use Rattle.refusal.specs.Refusal.{Test, outcome}
use Rattle.session.specs.declared.Session.{Session}
use Rattle.session.specs.Sessions.{party_of, summed_row, answer}
use Rattle.session.proofs.RowLaws.{length_row}
use Rattle.blocks.specs.Claims.{Alike}
use Rattle.opening.specs.Walking.{record_length, bad_record, too_few_of, disagree, opened}
use Rattle.opening.proofs.Unread.{bad_same, few_same, off_same, number_same}
use Rattle.terms.specs.declared.Term.{Term}
use Rattle.terms.specs.Listed.{products_of, collected, terms_of, factors_of}
use Rattle.relation.specs.Tests.{each_at_of}
use Rattle.relation.specs.Finish.{record_at, term_mask_a, term_mask_b, record_tests, few_tests, off_tests, open_tests, relation_finish_refusal}
use Rattle.relation.specs.Finish.{with_products, with_sum, finished_terms, number_rows}
use Rattle.relation_finish.specs.Claims.{RelationUnread}

-- the same tests of each of m terms
each_same : (f g : ℕ → Term → List Test) (m : ℕ) → ((k : ℕ) (t : Term) → k < m → f k t ≡ g k t) → (k : ℕ) (ts : List Term) → k + length ts ≤ m
    → each_at_of f k ts ≡ each_at_of g k ts
unfolding each_at_of
each_same f g m h k [] few = refl
each_same f g m h k (t ∷ ts) few = ap₂ (λ (x y : List Test). x ++ y) (h k t (omega arith)) (each_same f g m h (suc k) ts (omega arith))

-- the records of m product terms, in two lists of them
module _ (s : Session) (m : ℕ) (a b : List ℕ) (la : length a ≡ m * (2 * record_length s)) (lb : length b ≡ m * (2 * record_length s))
    (like : (j : ℕ) → j < 2 * m → Alike (party_of s) (record_at s a j) (record_at s b j)) where
  long : (l : List ℕ) → length l ≡ m * (2 * record_length s) → (j : ℕ) → j < 2 * m → length (record_at s l j) ≡ record_length s
  long l e j h =
      length_row (record_length s) (2 * m) l j (e ∙ sym (mul_assoc m 2 (record_length s)) ∙ ap (λ (x : ℕ). x * record_length s) (mul_comm m 2)) h

  bad : (j : ℕ) → j < 2 * m → bad_record s (record_at s a j) ≡ bad_record s (record_at s b j)
  bad j h = bad_same s [] (record_at s a j) (record_at s b j) (long a la j h) (long b lb j h) (like j h)

  few : (x : List ℕ) (j : ℕ) → j < 2 * m → too_few_of s x (record_at s a j) ≡ too_few_of s x (record_at s b j)
  few x j h = few_same s x (record_at s a j) (record_at s b j) (long a la j h) (long b lb j h) (like j h)

  off : (x : List ℕ) (j : ℕ) → j < 2 * m → disagree s x (record_at s a j) ≡ disagree s x (record_at s b j)
  off x j h = off_same s x (record_at s a j) (record_at s b j) (long a la j h) (long b lb j h) (like j h)

  number : (x : List ℕ) (j : ℕ) → j < 2 * m → opened s x (record_at s a j) ≡ opened s x (record_at s b j)
  number x j h = number_same s x (record_at s a j) (record_at s b j) (long a la j h) (long b lb j h) (like j h)

  records_same : (k c : ℕ) → k + c ≤ m → record_tests s a k c ≡ record_tests s b k c
  unfolding record_tests
  records_same k zero h = refl
  records_same k (suc c) h = rw (bad (2 * k) (omega arith), bad (2 * k + 1) (omega arith), records_same (suc k) c (omega arith)) refl

  module _ (rows : List ℕ) where
    opens_same : (k : ℕ) (ts : List Term) → k + length ts ≤ m → open_tests s rows a k ts ≡ open_tests s rows b k ts
    opens_same k ts h =
        ap₂ (λ (x y : List Test). x ++ y)
        (each_same (few_tests s rows a) (few_tests s rows b) m
        (λ k t i. rw (few (term_mask_a s rows t) (2 * k) (omega arith), few (term_mask_b s rows t) (2 * k + 1) (omega arith)) refl) k ts h)
        (each_same (off_tests s rows a) (off_tests s rows b) m
        (λ k t i. rw (off (term_mask_a s rows t) (2 * k) (omega arith), off (term_mask_b s rows t) (2 * k + 1) (omega arith)) refl) k ts h)

    products_same : (k : ℕ) (ts : List Term) (now : List ℕ) → k + length ts ≤ m → with_products s rows a k ts now ≡ with_products s rows b k ts now
    unfolding with_products
    products_same k [] now h = refl
    products_same k (t ∷ ts) now h =
        rw (number (term_mask_a s rows t) (2 * k) (omega arith), number (term_mask_b s rows t) (2 * k + 1) (omega arith))
        (products_same (suc k) ts _ (omega arith))

    finished_same : (k : ℕ) (ts : List Term) (now : Session) → k + length ts ≤ m → finished_terms s rows a k ts now ≡ finished_terms s rows b k ts now
    unfolding finished_terms
    finished_same k [] now h = refl
    finished_same k (t ∷ ts) now h =
        rw (number (term_mask_a s rows t) (2 * k) (omega arith), number (term_mask_b s rows t) (2 * k + 1) (omega arith))
        (finished_same (suc k) ts _ (omega arith))

    module _ (ts : List Term) (d : ℕ) (is : m ≡ length (products_of ts)) where
      pub in_all : 0 + length (factors_of (collected ts)) ≤ m
      in_all = omega (arith, length-take (collected ts).products (collected ts).factors, is)

      pub refused : relation_finish_refusal s rows (collected ts) d a ≡ relation_finish_refusal s rows (collected ts) d b
      unfolding relation_finish_refusal
      refused = rw (la, lb, opens_same 0 (factors_of (collected ts)) in_all, ← is, records_same 0 m (omega arith)) refl

pub relation_unread : RelationUnread
relation_unread s rows ts d a b la lb like =
    let m = length (products_of ts) in
    let fs = factors_of (collected ts) in
    let same = refused s m a b la lb like rows ts d refl in
    let few = in_all s m a b la lb like rows ts d refl in (
      ap₂ (λ (r : ℕ) (q : Session). answer r 0 (summed_row q d (number_rows (terms_of (collected ts)))) s) same (finished_same s m a b la lb like rows 0 fs s few),
      ap₂ (λ (r : ℕ) (l : List ℕ). outcome r (with_sum s d (terms_of (collected ts)) l) rows) same (products_same s m a b la lb like rows 0 fs rows few),
    )
