-- Terms that are placed one after another make what `collected` says of their list, and a list that is not too long, with its
-- product terms, is found again in what was collected of it.
use Prim.Native.Nat.{ℕ, zero, suc, ◌+◌, ◌≤◌}
use mathlib.Core.Path.{◌≡◌, refl, ◌∙◌, ap, ap₂}
use mathlib.Core.Bool.{Bool, true, false, cond}
use mathlib.Core.List.{List, [], ◌∷◌}
use native.Mathlib.Nat.{le_of_suc-le-suc, not-suc-le-zero, le_trans}
use native.Mathlib.Omega.{arith}
use lib.ListN.{length, take, replicate, set}
use lib.Seq.{sets}
use Rattle.terms.specs.declared.Term.{Term}
use Rattle.terms.specs.declared.Terms.{Terms}
use Rattle.terms.specs.Listed.{most_terms, plain, products_of, blank, padded, collected, terms_of, factors_of, none_of_of, listed_in, counted_in, placed}

-- ts placed from i on
abbrev pub filled : Terms → ℕ → List Term → Terms
filled all i [] = all
filled all i (t ∷ ts) = filled (placed all i t) (suc i) ts

abbrev made : Terms → List Term → ℕ → List Term → Terms
made all ts k fs = record {
  count = all.count;
  products = k + length fs;
  list = ts;
  factors = sets all.factors all.products fs;
}

abbrev after : Terms → ℕ → List Term → Terms
after all i ts = made all (sets all.list i ts) all.products (products_of ts)

abbrev split : Bool → Terms → ℕ → Term → List Term → Type 0
split b all i t ts =
    after (cond b (listed_in all i t) (counted_in (listed_in all i t) t)) (suc i) ts
    ≡ made all (sets all.list i (t ∷ ts)) all.products (elim b [ true ↦ products_of ts | false ↦ t ∷ products_of ts ])

step : (b : Bool) (all : Terms) (i : ℕ) (t : Term) (ts : List Term) → split b all i t ts
step true all i t ts = refl
step false all i t ts =
    let e : all.products + 1 + length (products_of ts) ≡ all.products + suc (length (products_of ts)) = omega arith in
    let f : all.products + 1 ≡ suc all.products = omega arith in
    rw (e, f) refl

filled_is : (all : Terms) (i : ℕ) (ts : List Term) → filled all i ts ≡ after all i ts
unfolding products_of
filled_is all i [] =
    let e : all.products + 0 ≡ all.products = omega arith in
    rw e refl
filled_is all i (t ∷ ts) = filled_is (placed all i t) (suc i) ts ∙ step (plain t) all i t ts

sets_none : (i : ℕ) (ts : List Term) → sets [] i ts ≡ []
sets_none i [] = refl
sets_none i (t ∷ ts) = sets_none (suc i) ts

sets_behind : (x : Term) (l : List Term) (i : ℕ) (ts : List Term) → sets (x ∷ l) (suc i) ts ≡ x ∷ sets l i ts
sets_behind x l i [] = refl
sets_behind x l i (t ∷ ts) = sets_behind x (set l i t) (suc i) ts

blanks : (k : ℕ) → replicate k blank ≡ padded k []
unfolding padded
blanks zero = refl
blanks (suc k) = ap (λ (l : List Term). blank ∷ l) (blanks k)

sets_padded : (k : ℕ) (ts : List Term) → sets (replicate k blank) 0 ts ≡ padded k ts
unfolding padded
sets_padded zero ts = sets_none 0 ts
sets_padded (suc k) [] = blanks (suc k)
sets_padded (suc k) (t ∷ ts) =
    sets_behind t (replicate k blank) 0 ts ∙ ap (λ (l : List Term). t ∷ l) (sets_padded k ts)

pub filled_all : (ts : List Term) → filled (none_of_of (length ts)) 0 ts ≡ collected ts
filled_all ts =
    let e : 0 + length (products_of ts) ≡ length (products_of ts) = omega arith in
    (rw e at (filled_is (none_of_of (length ts)) 0 ts))
    ∙ ap₂ (λ (l m : List Term). record { count = length ts; products = length (products_of ts); list = l; factors = m })
    (sets_padded most_terms ts) (sets_padded most_terms (products_of ts))

-- a list that is not too long is found again
take_padded : (k : ℕ) (ts : List Term) → length ts ≤ k → take (length ts) (padded k ts) ≡ ts
unfolding padded
take_padded zero [] h = refl
take_padded zero (t ∷ ts) h = absurd (not-suc-le-zero h)
take_padded (suc k) [] h = refl
take_padded (suc k) (t ∷ ts) h = ap (λ (l : List Term). t ∷ l) (take_padded k ts (le_of_suc-le-suc h))

pub length_padded : (k : ℕ) (ts : List Term) → length (padded k ts) ≡ k
unfolding padded
length_padded zero ts = refl
length_padded (suc k) [] = ap suc (length_padded k [])
length_padded (suc k) (t ∷ ts) = ap suc (length_padded k ts)

products_step : (b : Bool) (t : Term) (ts : List Term) → length (products_of ts) ≤ length ts
    → length {A = Term} (elim b [ true ↦ products_of ts | false ↦ t ∷ products_of ts ]) ≤ suc (length ts)
products_step true t ts h = omega arith
products_step false t ts h = omega arith

pub products_fewer : (ts : List Term) → length (products_of ts) ≤ length ts
unfolding products_of
products_fewer [] = omega arith
products_fewer (t ∷ ts) = products_step (plain t) t ts (products_fewer ts)

pub terms_again : (ts : List Term) → length ts ≤ most_terms → terms_of (collected ts) ≡ ts
terms_again ts h = take_padded most_terms ts h

pub factors_again : (ts : List Term) → length ts ≤ most_terms → factors_of (collected ts) ≡ products_of ts
factors_again ts h = take_padded most_terms (products_of ts) (le_trans (products_fewer ts) h)
