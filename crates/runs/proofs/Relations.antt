-- A relation's two calls, act by act: the marks allow each act when its turn comes, and what they are in the end.
use Prim.Native.Nat.{ℕ, suc, ◌+◌, ◌≤◌, ◌<◌}
use mathlib.Core.Path.{◌≡◌, refl, sym, ◌∙◌, ap, subst}
use mathlib.Core.Bool.{Bool, true, false}
use mathlib.Core.Logic.{◌≢◌, inl, inr}
use mathlib.Core.List.{List, [], ◌∷◌, ◌++◌, map}
use native.Mathlib.Decide.{dec_lt}
use native.Mathlib.Omega.{arith}
use lib.ListN.{length, set, get_or-eq_default}
use lib.Seq.{get_or-set_same, set-set}
use Rattle.poly.specs.Counting.{All}
use Rattle.poly.proofs.Lists.{all_zip}
use Rattle.shape.specs.Bounds.{row_count_of}
use Rattle.shape.specs.Marks.{empty, held as heldMark, unused, further, masked, spent, collected}
use Rattle.terms.specs.declared.Term.{Term}
use Rattle.terms.specs.Listed.{plain, products_of}
use Rattle.relation.specs.Tests.{by_kind, named_twice_of}
use Rattle.relation.proofs.Naming.{twice_parts}
use Rattle.relation.proofs.Passed.{products_back}
use Rattle.runs.specs.Outline.{Act, takes, Move, factors, acts_in, factoring, maskings, finishing, summand, summing}
use Rattle.runs.specs.Calls.{Actual, Among}
use Rattle.runs.proofs.Marks.{Marks, mark_of, remembered_a, remembered_b, remarked, product_sets, finished, Masking, of, masking, marks_by}
use Rattle.runs.proofs.Facts.{HeldIn, Multiplying, Tripled, AllowedAll, ReadyFor, Sendable}
use Rattle.runs.proofs.Rows.{past, past_three}

-- ---- "a triple named twice": no triple is that of a term behind
abbrev pub Apart : List Term → Type 0
Apart [] = Unit {0}
Apart (t ∷ ts) = All (λ t'. t'.first ≢ t.first) ts × Apart ts

pub apart : (ts : List Term) → named_twice_of ts ≡ false → Apart ts
apart [] e = tt
apart (t ∷ ts) e = let h = twice_parts t ts e in (h.0, apart ts h.1)

-- ---- masks

-- a product term whose triple has this mark
abbrev pub Termed : ℕ → Marks → Term → Type 0
Termed m M t = Multiplying m M t.row t.second t.first

still_unused : (M : Marks) (a b r x y q : ℕ) → Multiplying unused M a b r → q ≢ r → Multiplying unused M x y q → Multiplying unused (marks_by (factors a b r) M) x y q
still_unused M a b r x y q ok ne h = record {
  a_low = h.a_low;
  b_low = h.b_low;
  r_low = h.r_low;
  a_held = past M r masked x (λ e. omega (arith, ap (mark_of M) e, h.a_held, ok.first)) ∙ h.a_held;
  b_held = past M r masked y (λ e. omega (arith, ap (mark_of M) e, h.b_held, ok.first)) ∙ h.b_held;
  first = past M r masked q ne ∙ h.first;
  second = past M r masked (q + 1) (λ e. omega (arith, ap (mark_of M) e, h.second, ok.first)) ∙ h.second;
  third = past M r masked (q + 2) (λ e. omega (arith, ap (mark_of M) e, h.third, ok.first)) ∙ h.third;
}

pub allowed_masks : (ts : List Term) (M : Marks) → All (Termed unused M) ts → Apart ts → AllowedAll (acts_in Actual (factoring Actual ts)) M
allowed_masks [] M h a = tt
allowed_masks (t ∷ ts) M h a = (
  (tt, h.0),
  allowed_masks ts (marks_by (factors t.row t.second t.first) M)
      (all_zip (λ t' ok ne. still_unused M t.row t.second t.first t'.row t'.second t'.first h.0 ne ok) ts h.1 a.0) a.1,
)

pub ready_masks : (ts : List Term) (M : Marks) → All (λ a. ReadyFor M (takes a)) (acts_in Actual (factoring Actual ts))
ready_masks [] M = tt
ready_masks (t ∷ ts) M = (tt, ready_masks ts M)

pub sending_masks : (todo : List Act) (M : Marks) (ts : List Term) → All (Termed unused M) ts
    → ((m : Masking) → Among m (map masking (acts_in Actual (factoring Actual ts))) → Among m (map masking todo)) → All (Sendable todo M) (maskings ts)
sending_masks todo M [] h up = tt
sending_masks todo M (t ∷ ts) h up =
    ((h.0, up (of t.row t.second t.first) (inl refl)), sending_masks todo M ts h.1 (λ m a. up m (inr a)))

-- ---- a finish

-- a product term whose triple waits
abbrev pub Waits : Marks → Term → Type 0
Waits M t = Multiplying masked M (remembered_a M t.first) (remembered_b M t.first) t.first

-- by both calls: 7, then 6, 6, 2, as 6, 6, 2 at once
pub done_is : (M : Marks) (r : ℕ) → finished (remarked M r collected) r ≡ finished M r
done_is M r =
    ap (λ (l : List ℕ). record { marks = set (set l (r + 1) spent) (r + 2) heldMark; factor_a_is = M.factor_a_is; factor_b_is = M.factor_b_is; sets = product_sets M r }) (set-set M.marks r collected spent)

-- the marks once these product terms are finished
abbrev pub finished_all : List Term → Marks → Marks
finished_all [] M = M
finished_all (t ∷ ts) M = finished_all ts (finished M t.first)

-- a finish of the triple at r leaves a row that is neither 4 nor 5
off_triple : (M : Marks) (r q : ℕ) → Multiplying masked M (remembered_a M r) (remembered_b M r) r → mark_of M q ≢ further → mark_of M q ≢ masked
    → mark_of (finished M r) q ≡ mark_of M q
off_triple M r q ok ne ne' =
    past_three M r spent spent heldMark q (λ e. ne' (ap (mark_of M) e ∙ ok.first)) (λ e. ne (ap (mark_of M) e ∙ ok.second)) (λ e. ne (ap (mark_of M) e ∙ ok.third))

still_waits : (M : Marks) (r q : ℕ) → Multiplying masked M (remembered_a M r) (remembered_b M r) r → q ≢ r
    → Multiplying masked M (remembered_a M q) (remembered_b M q) q → Multiplying masked (finished M r) (remembered_a M q) (remembered_b M q) q
still_waits M r q ok ne h = record {
  a_low = h.a_low;
  b_low = h.b_low;
  r_low = h.r_low;
  a_held = off_triple M r (remembered_a M q) ok (λ e. omega (arith, h.a_held)) (λ e. omega (arith, h.a_held)) ∙ h.a_held;
  b_held = off_triple M r (remembered_b M q) ok (λ e. omega (arith, h.b_held)) (λ e. omega (arith, h.b_held)) ∙ h.b_held;
  first = past_three M r spent spent heldMark q ne (λ e. omega (arith, ap (mark_of M) e, h.first, ok.second)) (λ e. omega (arith, ap (mark_of M) e, h.first, ok.third)) ∙ h.first;
  second =
      past_three M r spent spent heldMark (q + 1) (λ e. omega (arith, ap (mark_of M) e, h.second, ok.first)) (λ e. ne (omega arith))
      (λ e. let g : q ≡ r + 1 = omega arith in omega (arith, ap (mark_of M) g, h.first, ok.second))
      ∙ h.second;
  third =
      past_three M r spent spent heldMark (q + 2) (λ e. omega (arith, ap (mark_of M) e, h.third, ok.first))
      (λ e. let g : q + 1 ≡ r = omega arith in omega (arith, ap (mark_of M) g, h.second, ok.first)) (λ e. ne (omega arith))
      ∙ h.third;
}

pub all_wait : (M : Marks) (t : Term) (ts : List Term) → Waits M t → All (λ t'. t'.first ≢ t.first) ts → All (Waits M) ts
    → All (Waits (finished M t.first)) ts
all_wait M t ts ok ne h = all_zip (λ t' w n. still_waits M t.first t'.first ok n w) ts h ne

-- rows that stay: neither 4 nor 5
pub stays_all : (ts : List Term) (M : Marks) → All (Waits M) ts → Apart ts → (q : ℕ) → mark_of M q ≢ further → mark_of M q ≢ masked
    → mark_of (finished_all ts M) q ≡ mark_of M q
stays_all [] M h a q ne ne' = refl
stays_all (t ∷ ts) M h a q ne ne' =
    let e = off_triple M t.first q h.0 ne ne' in
    stays_all ts (finished M t.first) (all_wait M t ts h.0 a.0 h.1) a.1 q (λ z. ne (sym e ∙ z)) (λ z. ne' (sym e ∙ z)) ∙ e

-- a mark in the place of another
now_set : (M : Marks) (r x : ℕ) {m : ℕ} → mark_of M r ≡ suc m → mark_of (remarked M r x) r ≡ x
now_set M r x e = elim (dec_lt r (length M.marks)) [
  | yes low ↦ get_or-set_same M.marks r x 0 low
  | no high ↦ absurd (omega (arith, get_or-eq_default M.marks 0 {n = r} (omega arith)))
]

third_held : (M : Marks) (r : ℕ) → Multiplying masked M (remembered_a M r) (remembered_b M r) r → mark_of (finished M r) (r + 2) ≡ heldMark
third_held M r ok =
    now_set (remarked (remarked M r spent) (r + 1) spent) (r + 2) heldMark
    (past (remarked M r spent) (r + 1) spent (r + 2) (omega arith) ∙ past M r spent (r + 2) (omega arith) ∙ ok.third)

-- a triple that was just collected
pub collected_triple_lem : (M : Marks) (r : ℕ) → Multiplying masked M (remembered_a M r) (remembered_b M r) r → Tripled collected (remarked M r collected) r
collected_triple_lem M r ok = record {
  r_low = ok.r_low;
  first = now_set M r collected ok.first;
  second = past M r collected (r + 1) (omega arith) ∙ ok.second;
  third = past M r collected (r + 2) (omega arith) ∙ ok.third;
  a_held = past M r collected (remembered_a M r) (λ e. omega (arith, ap (mark_of M) e, ok.first, ok.a_held)) ∙ ok.a_held;
  b_held = past M r collected (remembered_b M r) (λ e. omega (arith, ap (mark_of M) e, ok.first, ok.b_held)) ∙ ok.b_held;
}

-- the products are held
pub products_held : (ts : List Term) (M : Marks) → All (Waits M) ts → Apart ts
    → All (λ t. (t.first + 2 < row_count_of) × (mark_of (finished_all ts M) (t.first + 2) ≡ heldMark)) ts
products_held [] M h a = tt
products_held (t ∷ ts) M h a =
    let N = finished M t.first in
    let later = all_wait M t ts h.0 a.0 h.1 in
    let two = third_held M t.first h.0 in (
      (omega (arith, h.0.r_low), stays_all ts N later a.1 (t.first + 2) (λ e. omega arith) (λ e. omega arith) ∙ two),
      products_held ts N later a.1,
    )

module _ (m : ℕ) (blocks : List ℕ) where
  pub allowed_products : (k : ℕ) (ts : List Term) (rest : List (Move Actual)) (M : Marks) → All (Waits M) ts → Apart ts
      → AllowedAll (acts_in Actual rest) (finished_all ts M) → AllowedAll (acts_in Actual (finishing Actual m blocks k ts ++ rest)) M
  allowed_products k [] rest M h a last = last
  allowed_products k (t ∷ ts) rest M h a last =
      let r = t.first in (
        (h.0, tt),
        (
          (collected_triple_lem M r h.0, tt),
          subst (AllowedAll (acts_in Actual (finishing Actual m blocks (suc k) ts ++ rest))) (sym (done_is M r))
              (allowed_products (suc k) ts rest (finished M r) (all_wait M t ts h.0 a.0 h.1) a.1 last),
        ),
      )

  pub ready_products : (k : ℕ) (ts : List Term) (rest : List (Move Actual)) (M : Marks) → All (Waits M) ts
      → All (λ a. ReadyFor M (takes a)) (acts_in Actual rest) → All (λ a. ReadyFor M (takes a)) (acts_in Actual (finishing Actual m blocks k ts ++ rest))
  ready_products k [] rest M h last = last
  ready_products k (t ∷ ts) rest M h last = (h.0, (tt, ready_products (suc k) ts rest M h.1 last))

-- the terms' rows and products, once the products are written
module _ (N : Marks) where
  abbrev pub ThirdHeld : Term → Type 0
  ThirdHeld t = (t.first + 2 < row_count_of) × (mark_of N (t.first + 2) ≡ heldMark)

  held_term : (t : Term) (b : Bool) → plain t ≡ b → (t.row < row_count_of) × (mark_of N t.row ≡ heldMark) → (plain t ≡ false → ThirdHeld t)
      → (by_kind b t.row (t.first + 2) < row_count_of) × (mark_of N (by_kind b t.row (t.first + 2)) ≡ heldMark)
  held_term t true e row third = row
  held_term t false e row third = third e

  pub terms_held : (ts : List Term) → All (λ t. (t.row < row_count_of) × (mark_of N t.row ≡ heldMark)) ts → All ThirdHeld (products_of ts)
      → All (HeldIn N) (map summand ts)
  terms_held ts rows thirds = go ts rows (products_back ThirdHeld ts thirds)
    where
      go : (l : List Term) → All (λ t. (t.row < row_count_of) × (mark_of N t.row ≡ heldMark)) l → All (λ t. plain t ≡ false → ThirdHeld t) l
          → All (HeldIn N) (map summand l)
      go [] a b = tt
      go (t ∷ l) a b = (held_term t (plain t) refl a.0 b.0, go l a.1 b.1)

  pub allowed_sum : (r : ℕ) (ts : List Term) → 1 ≤ length ts → r < row_count_of → mark_of N r ≡ empty → All (HeldIn N) (map summand ts)
      → AllowedAll (acts_in Actual (summing Actual r ts)) N
  allowed_sum r [] some low is held = tt
  allowed_sum r (t ∷ ts) some low is held = ((record { r_low = low; r_empty = is; held = held }, tt), tt)

pub ready_sum : (r : ℕ) (ts : List Term) (M : Marks) → All (λ a. ReadyFor M (takes a)) (acts_in Actual (summing Actual r ts))
ready_sum r [] M = tt
ready_sum r (t ∷ ts) M = (tt, tt)
