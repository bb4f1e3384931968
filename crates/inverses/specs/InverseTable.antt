-- Request (vi): "A table of the inverses of 1 to 255 takes the formula's place, and its rule is that each entry × its index is 1 modulo p."
use Rattle.std.specs.Prelude.{ℕ, ◌+◌, ◌≤◌, ◌<◌, ◌≡◌, List, length, get_or}
use Rattle.field.specs.Modulus.{p}
use Rattle.field.specs.Arithmetic.{product}

abbrev pub most : ℕ
most = 255

-- so many for small stations
abbrev pub few : ℕ
few = 32

-- and for very small ones
abbrev pub very_few_of : ℕ
very_few_of = 8

-- The table, or the beginning of it: the inverse of k stands at k - 1.
pub record Inverts (l : List ℕ) : Type 0 where
  pub short : length l ≤ most
  pub elements : (i : ℕ) → i < length l → get_or l i 0 < p
  pub times : (i : ℕ) → i < length l → product (get_or l i 0) (i + 1) ≡ 1
