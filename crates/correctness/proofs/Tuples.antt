-- Lists of k points that all pass: no more than the points that pass, to the power of k.
use Prim.Native.Nat.{ℕ, zero, suc, ◌+◌, ◌*◌, ◌-◌, ◌≤◌}
use mathlib.Core.Path.{◌≡◌, refl, sym, ◌∙◌, ap}
use mathlib.Core.Bool.{Bool, true, false, cond}
use mathlib.Core.List.{List, [], ◌∷◌}
use native.Mathlib.Nat.{le_refl, le_trans, mul-le-mul, suc-mul, zero-mul, mul-one, mul_assoc, mul_comm}
use native.Mathlib.Omega.{arith}
use lib.Dec.{eqb}
use lib.ListN.{length}
use Rattle.field.specs.Modulus.{p}
use Rattle.poly.specs.Counting.{All, count_from, agreements}
use Rattle.poly.specs.Polynomial.{value}
use Rattle.poly.proofs.Theorems.{false_polynomials_pass}
use Rattle.correctness.specs.Tuples.{sum_from, count_lists, power, FalseTuples, ListsCounted}

module _ (f : ℕ → ℕ) (good : ℕ → Bool) (b : ℕ) (at-good : (w : ℕ) → good w ≡ true → f w ≤ b) (else : (w : ℕ) → good w ≡ false → f w ≡ 0) where
  sum_bound : (from m : ℕ) → sum_from f from m ≤ count_from good from m * b
  unfolding sum_from count_from
  sum_bound from zero = omega (arith, zero-mul b)
  sum_bound from (suc m) = go (good from) refl (sum_bound (suc from) m)
    where
      go : (c : Bool) → good from ≡ c → sum_from f (suc from) m ≤ count_from good (suc from) m * b
          → f from + sum_from f (suc from) m ≤ (elim c as (λ x. ℕ) [ true ↦ suc (count_from good (suc from) m) | false ↦ count_from good (suc from) m ]) * b
      go true e h = omega (arith, h, at-good from e, suc-mul (count_from good (suc from) m) b)
      go false e h = omega (arith, h, else from e)

sum_none : (f : ℕ → ℕ) → ((w : ℕ) → f w ≡ 0) → (from m : ℕ) → sum_from f from m ≡ 0
unfolding sum_from
sum_none f h from zero = refl
sum_none f h from (suc m) = omega (arith, h from, sum_none f h (suc from) m)

pub count_none : (k : ℕ) (test : List ℕ → Bool) → ((ws : List ℕ) → length ws ≡ k → test ws ≡ true → ⊥) → count_lists k test ≡ 0
unfolding count_lists
count_none zero test h = go (test []) refl
  where
    go : (b : Bool) → test [] ≡ b → ◌≡◌ {A = ℕ} (cond b 1 0) 0
    go true e = absurd (h [] refl e)
    go false e = refl
count_none (suc k) test h = sum_none _ (λ w. count_none k (λ ws. test (w ∷ ws)) (λ ws l e. h (w ∷ ws) (ap suc l) e)) 1 (p - 1)

pub tuples_bound : (good : ℕ → Bool) (k : ℕ) (test : List ℕ → Bool)
    → ((ws : List ℕ) → length ws ≡ k → test ws ≡ true → All (λ w. good w ≡ true) ws) → count_lists k test ≤ power (count_from good 1 (p - 1)) k
unfolding count_lists power
tuples_bound good zero test h = go (test [])
  where
    go : (b : Bool) → cond b 1 0 ≤ 1
    go true = omega arith
    go false = omega arith
tuples_bound good (suc k) test h =
    sum_bound (λ w. count_lists k (λ ws. test (w ∷ ws))) good (power (count_from good 1 (p - 1)) k)
    (λ w e. tuples_bound good k (λ ws. test (w ∷ ws)) (λ ws l t. (h (w ∷ ws) (ap suc l) t).1))
    (λ w e. count_none k (λ ws. test (w ∷ ws)) (λ ws l t. let g = (h (w ∷ ws) (ap suc l) t).0 in not_both (sym e ∙ g)))
    1 (p - 1)
  where
    not_both : false ≡ true → ⊥
    not_both e = let z : ◌≡◌ {A = ℕ} 0 1 = cc in omega arith

power_grows : (a b k : ℕ) → a ≤ b → power a k ≤ power b k
unfolding power
power_grows a b zero h = le_refl 1
power_grows a b (suc k) h = mul-le-mul {n₁ = a} {m₁ = power a k} {n₂ = b} {m₂ = power b k} h (power_grows a b k h)

pub false_tuples : FalseTuples
unfolding agreements
false_tuples d k block own low low' long long' other test agrees =
    le_trans (tuples_bound (λ w. eqb (value block w) (value own w)) k test agrees)
    (power_grows (count_from (λ w. eqb (value block w) (value own w)) 1 (p - 1)) d k (false_polynomials_pass d block own low low' long long' other))

sum_all : (b from m : ℕ) → sum_from (λ w. b) from m ≡ m * b
unfolding sum_from
sum_all b from zero = omega (arith, zero-mul b)
sum_all b from (suc m) = omega (arith, sum_all b (suc from) m, suc-mul m b)

sum_ones : (good : ℕ → Bool) (from m : ℕ) → sum_from (λ w. cond (good w) 1 0) from m ≡ count_from good from m
unfolding sum_from count_from
sum_ones good from zero = refl
sum_ones good from (suc m) = go (good from) (sum_ones good (suc from) m)
  where
    go : (c : Bool) → sum_from (λ w. cond (good w) 1 0) (suc from) m ≡ count_from good (suc from) m
        → cond c 1 0 + sum_from (λ w. cond (good w) 1 0) (suc from) m
        ≡ (elim c as (λ x. ℕ) [ true ↦ suc (count_from good (suc from) m) | false ↦ count_from good (suc from) m ])
    go true e = omega (arith, e)
    go false e = omega (arith, e)

all_counted : (k : ℕ) → count_lists k (λ ws. true) ≡ power (p - 1) k
unfolding count_lists power
all_counted zero = refl
all_counted (suc k) = ap (λ (b : ℕ). sum_from (λ w. b) 1 (p - 1)) (all_counted k) ∙ sum_all (power (p - 1) k) 1 (p - 1)

one_counted : (test : List ℕ → Bool) → count_lists 1 test ≡ count_from (λ w. test (w ∷ [])) 1 (p - 1)
unfolding count_lists
one_counted test = sum_ones (λ w. test (w ∷ [])) 1 (p - 1)

pub lists_counted : ListsCounted
unfolding count_lists sum_from power
lists_counted =
    record {
      all = all_counted;
      one = one_counted;
      of_none = λ test. refl;
      of_more = λ k test. refl;
      no_summand = λ f from. refl;
      summand = λ f from m. refl;
      to_none = λ d. refl;
      to_more = λ d k. refl;
    }

pub power_one : (t : ℕ) → power (1 * t) 1 ≡ t
unfolding power
power_one t = omega arith

pub power_two : (t : ℕ) → power (2 * t) 2 ≡ 4 * (t * t)
unfolding power
power_two t = ap (λ (k : ℕ). 2 * t * k) (mul-one (2 * t)) ∙ mul_assoc 2 t (2 * t) ∙ ap (λ (k : ℕ). 2 * k) (mul_comm t (2 * t) ∙ mul_assoc 2 t t) ∙ omega arith
