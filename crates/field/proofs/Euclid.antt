-- `inverse` is the inverse modulo p, and nothing else is; one turn of the loop that finds it.
use mathlib.Core.Path.{◌≡◌, refl, sym, ◌∙◌, ap, ap₂}
use mathlib.Core.Bool.{Bool, true, false}
use Prim.Native.Nat.{ℕ, zero, suc, ◌+◌, ◌*◌, ◌-◌, ◌/◌, ◌%◌, ◌≤◌, ◌<◌}
use native.Mathlib.Nat.{mod-lt, mod-eq_of_lt, mul-one, mul_comm, mul_left_comm, mul-sub, suc-mul, div-add-mod, mul-add-mod_self_right, le_refl}
use native.Mathlib.Decide.{ℕ_discrete}
use native.Mathlib.Omega.{arith}
use borrow.Author.Tests.{leb-true, leb-false}
use lib.Dec.{leb, lit<}
use Rattle.field.specs.Modulus.{p}
use Rattle.field.specs.Arithmetic.{product, euclid, inverse, IsInverse}
use Rattle.field.specs.Claims.{InverseIs, InverseUnique}
use Rattle.field.proofs.Primality.{p_prime, remainder_positive}
use Rattle.field.proofs.Residues.{mul_mod_mod}
use Rattle.field.proofs.Modular.{product_below, product_one, product_assoc, product_comm, product_mod_left}

-- Euclid's step: with m = q u + r, u (m - q) is r and a multiple of m
euclid_step : (m u : ℕ) → 0 < u → u < m → (u * (m - m / u)) % m ≡ m % u
euclid_step m zero h k = absurd (omega arith)
euclid_step m (suc w) h k =
    ap (λ (z : ℕ). z % m) (mul-sub (suc w) m (m / suc w) ∙ multiple) ∙ mul-add-mod_self_right w m (m % suc w)
    ∙ mod-eq_of_lt (omega (arith, mod-lt m h))
  where
    multiple : suc w * m - suc w * (m / suc w) ≡ w * m + m % suc w
    multiple = omega (arith, suc-mul w m, div-add-mod m (suc w))

product_step : (u : ℕ) → 0 < u → u < p → product u (p - p / u) ≡ p % u
unfolding product
product_step = euclid_step p

-- one turn: x a is u before, and the next remainder after
pub turn : (x a u : ℕ) → 0 < u → u < p → product x a ≡ u → product x (product (p - p / u) a) ≡ p % u
unfolding product
turn x a u h k e =
    mul_mod_mod x ((p - p / u) * a) p
    ∙ ap (λ (z : ℕ). z % p) (mul_left_comm x (p - p / u) a)
    ∙ sym (mul_mod_mod (p - p / u) (x * a) p)
    ∙ ap (λ (z : ℕ). ((p - p / u) * z) % p) e
    ∙ ap (λ (z : ℕ). z % p) (mul_comm (p - p / u) u)
    ∙ euclid_step p u h k

pub next_positive : (u : ℕ) → 1 < u → u < p → 0 < p % u
next_positive = remainder_positive p p_prime

-- Euclid's steps end at the inverse
euclid_times : (fuel u : ℕ) → u ≤ fuel → 0 < u → u < p → product u (euclid fuel u) ≡ 1
unfolding euclid
euclid_times zero u l h k = absurd (omega arith)
euclid_times (suc fuel) u l h k = by_size (leb 2 u) refl (euclid_times fuel (p % u))
  where
    by_size : (b : Bool) → leb 2 u ≡ b → (p % u ≤ fuel → 0 < p % u → p % u < p → product (p % u) (euclid fuel (p % u)) ≡ 1)
        → product u (elim b as (λ z. ℕ) [ true ↦ product (p - p / u) (euclid fuel (p % u)) | false ↦ u ]) ≡ 1
    by_size true e ih =
        let less : p % u < u = mod-lt p h in
        sym (product_assoc u (p - p / u) (euclid fuel (p % u)))
        ∙ ap (λ (z : ℕ). product z (euclid fuel (p % u))) (product_step u h k)
        ∙ ih (omega arith) (next_positive u (leb-true 2 u e) k) (omega arith)
    by_size false e ih = ap₂ product one one ∙ product_one 1 (lit< tt)
      where
        one : u ≡ 1
        one = omega (arith, leb-false 2 u e)

euclid_below : (fuel u : ℕ) → u < p → euclid fuel u < p
unfolding euclid
euclid_below zero u h = h
euclid_below (suc fuel) u h = by_size (leb 2 u)
  where
    by_size : (b : Bool) → elim b as (λ z. ℕ) [ true ↦ product (p - p / u) (euclid fuel (p % u)) | false ↦ u ] < p
    by_size true = product_below (p - p / u) (euclid fuel (p % u))
    by_size false = h

pub inverse_is : InverseIs
unfolding inverse euclid
inverse_is x = record {
  below = euclid_below (x % p) (x % p) small;
  of_zero = λ e. ap₂ euclid e e;
  times = λ h. sym (product_mod_left x (inverse x)) ∙ euclid_times (x % p) (x % p) (le_refl (x % p)) h small;
}
  where
    small : x % p < p
    small = mod-lt x (lit< tt)

pub inverse_unique : InverseUnique
inverse_unique x r s u v = by_zero (ℕ_discrete (x % p) 0)
  where
    by_zero : Dec (x % p ≡ 0) → r ≡ s
    by_zero (yes e) = u.of_zero e ∙ sym (v.of_zero e)
    by_zero (no f) =
        let pos : 0 < x % p = omega arith in
        sym (product_one r u.below)
        ∙ ap (product r) (sym (v.times pos))
        ∙ sym (product_assoc r x s)
        ∙ ap (λ (z : ℕ). product z s) (product_comm r x ∙ u.times pos)
        ∙ product_comm 1 s
        ∙ product_one s v.below

-- the two places where the loop's function returns
module _ (x : ℕ) where
  returned : (r : ℕ) → IsInverse x r → (r ≡ inverse x) × IsInverse x r
  returned r is = (inverse_unique x r (inverse x) is (inverse_is x), is)

  pub none_for_zero : x % p ≡ 0 → (0 ≡ inverse x) × IsInverse x 0
  none_for_zero e = returned 0 (record { below = lit< tt; of_zero = λ z. refl; times = λ h. absurd (omega arith) })

  pub found : (r u : ℕ) → 0 < x % p → r < p → product x r ≡ u → 0 < u → u ≤ 1 → (r ≡ inverse x) × IsInverse x r
  found r u h l e i j =
      let one : u ≡ 1 = omega arith in
      returned r (record { below = l; of_zero = λ z. absurd (omega arith); times = λ z. e ∙ one })

  pub started : product x 1 ≡ x % p
  unfolding product
  started = ap (λ (z : ℕ). z % p) (mul-one x)
