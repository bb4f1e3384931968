-- Arithmetic modulo p on plain numbers: what the contracts cite. Each result is an element whatever the arguments are.
use Rattle.std.specs.Prelude.{ℕ, zero, suc, ◌+◌, ◌*◌, ◌-◌, ◌/◌, ◌%◌, ◌<◌, ◌≡◌, true, false, leb}
use Rattle.field.specs.Modulus.{p}

-- "sums and products are taken modulo p"
unfoldable pub sum : ℕ → ℕ → ℕ
sum a b = (a + b) % p

unfoldable pub product : ℕ → ℕ → ℕ
product a b = (a * b) % p

unfoldable pub difference : ℕ → ℕ → ℕ
difference a b = (a + (p - b % p)) % p

-- Euclid's steps: p = q u + r turns 1/u into (p - q)/r, until u is 1. The first argument bounds their number.
unfoldable pub euclid : ℕ → ℕ → ℕ
euclid zero u = u
euclid (suc fuel) u =
    elim (leb 2 u) [ true ↦ let r = euclid fuel (p % u) in product (p - p / u) r | false ↦ u ]

-- The inverse of x modulo p; the inverse of 0 is 0.
unfoldable pub inverse : ℕ → ℕ
inverse x = euclid (x % p) (x % p)

-- What an inverse is. It leaves one value for every x: `InverseUnique` in Claims.antt.
pub record IsInverse (x r : ℕ) : Type 0 where
  pub below : r < p
  pub of_zero : x % p ≡ 0 → r ≡ 0
  pub times : 0 < x % p → product x r ≡ 1
