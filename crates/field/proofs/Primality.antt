-- p is prime: a test that the checker computes, no number from 2 to 46340 divides p, and the lemma that the test is enough.
use mathlib.Core.Path.{◌≡◌, ◌∙◌, ap, subst}
use mathlib.Core.Bool.{Bool, true, false}
use mathlib.Core.Logic.{◌⊎◌, inl, inr}
use Prim.Native.Nat.{ℕ, zero, suc, ◌+◌, ◌*◌, ◌/◌, ◌%◌, ◌≤◌, ◌<◌}
use native.Mathlib.Nat.{mul-mod_right, mul_comm, mul-one, mul-le-mul, zero-mul, div-add-mod}
use native.Mathlib.Decide.{dec_le, ℕ_discrete}
use native.Mathlib.Omega.{arith}
use lib.Dec.{T, leb, leb→le, lit≤, lit<}
use Rattle.field.specs.Primality.{Prime}
use Rattle.field.specs.Claims.{PrimeModulus}

-- The test that the checker computes: none of the k numbers from d on divides m.
unfoldable undivided : ℕ → ℕ → ℕ → Bool
undivided m zero d = true
undivided m (suc k) d = elim (leb 1 (m % d)) [ true ↦ undivided m k (suc d) | false ↦ false ]

both : (a b : Bool) → T (elim a as (λ x. Bool) [ true ↦ b | false ↦ false ]) → T a × T b
both true b t = (tt, t)
both false b t = absurd t

undivided_at : (m k d : ℕ) → T (undivided m k d) → (j : ℕ) → d ≤ j → j < d + k → 1 ≤ m % j
unfolding undivided
undivided_at m zero d t j l h = absurd (omega arith)
undivided_at m (suc k) d t j l h =
    step (both (leb 1 (m % d)) (undivided m k (suc d)) t) (undivided_at m k (suc d)) (ℕ_discrete d j)
  where
    step : T (leb 1 (m % d)) × T (undivided m k (suc d))
        → (T (undivided m k (suc d)) → (j : ℕ) → suc d ≤ j → j < suc d + k → 1 ≤ m % j) → Dec (d ≡ j) → 1 ≤ m % j
    step u ih (yes e) = subst (λ (x : ℕ). 1 ≤ m % x) e (leb→le 1 (m % d) u.0)
    step u ih (no f) = ih u.1 j (omega arith) (omega arith)

-- a number with no divisor from 2 up to a bound whose square is past it is prime
module _ (m k : ℕ) (test : T (undivided m k 2)) (past : m < (k + 2) * (k + 2)) (two : 2 ≤ m) where
  smaller_is_one : (a b : ℕ) → a * b ≡ m → a ≤ b → a ≡ 1
  smaller_is_one a b e l = by_size (dec_le 2 a) (ℕ_discrete 0 a)
    where
      square : a * a ≤ m
      square = subst (λ (x : ℕ). a * a ≤ x) e (mul-le-mul (omega arith) l)

      below : Dec (k + 2 ≤ a) → a < k + 2
      below (yes h) = absurd (omega (arith, square, mul-le-mul h h))
      below (no f) = omega arith

      divided : m % a ≡ 0
      divided = subst (λ (x : ℕ). x % a ≡ 0) e (mul-mod_right a b)

      by_size : Dec (2 ≤ a) → Dec (0 ≡ a) → a ≡ 1
      by_size (yes h) z =
          absurd (omega (arith, undivided_at m k 2 test a h (omega (arith, below (dec_le (k + 2) a))), divided))
      by_size (no f) (yes z) = absurd (omega (arith, ap (λ (x : ℕ). x * b) z, zero-mul b))
      by_size (no f) (no z) = omega arith

  prime_by_test : Prime m
  prime_by_test = record { above_one = two; only = λ a b e. by_smaller a b e (dec_le a b) }
    where
      by_smaller : (a b : ℕ) → a * b ≡ m → Dec (a ≤ b) → (a ≡ 1) ⊎ (b ≡ 1)
      by_smaller a b e (yes h) = inl (smaller_is_one a b e h)
      by_smaller a b e (no f) = inr (smaller_is_one b a (mul_comm b a ∙ e) (omega arith))

pub p_prime : PrimeModulus
unfolding undivided
p_prime = prime_by_test _ 46339 tt (lit< tt) (lit≤ tt)

-- no number between 1 and a prime divides it
pub remainder_positive : (m : ℕ) → Prime m → (x : ℕ) → 1 < x → x < m → 1 ≤ m % x
remainder_positive m prime x h k = by_remainder (dec_le 1 (m % x))
  where
    by_remainder : Dec (1 ≤ m % x) → 1 ≤ m % x
    by_remainder (yes u) = u
    by_remainder (no f) = absurd (bad (prime.only x (m / x) (omega (arith, div-add-mod m x))))
      where
        bad : (x ≡ 1) ⊎ (m / x ≡ 1) → ⊥
        bad (inl e) = omega arith
        bad (inr e) = omega (arith, div-add-mod m x, ap (λ (z : ℕ). x * z) e, mul-one x)
