-- "the polynomials of a − l and of b − l'", number by number: the coefficients of row a less those of row r, then those of row b less those of row
-- r + 1; −1 is p − 1. Proved in proofs/Placed.antt.
use Rattle.std.specs.Prelude.{ℕ, ◌+◌, ◌*◌, ◌≤◌, ◌<◌, ◌≡◌, List, length, get_or}
use Rattle.field.specs.Arithmetic.{sum, product}
use Rattle.session.specs.declared.Session.{Session}
use Rattle.session.specs.Rows.{width}
use Rattle.product_masks.specs.Masks.{mask_numbers_of}

pub record MasksPlaced (s : Session) (rows : List ℕ) (a b r : ℕ) : Type 0 where
  pub of_a : (i : ℕ) → i < s.points * s.t + 1
      → get_or (mask_numbers_of s rows a b r) i 0 ≡ sum (get_or rows (a * width s + i) 0) (product 2147483646 (get_or rows (r * width s + i) 0))
  pub of_b : (i : ℕ) → i < s.points * s.t + 1
      → get_or (mask_numbers_of s rows a b r) (s.points * s.t + 1 + i) 0
      ≡ sum (get_or rows (b * width s + i) 0) (product 2147483646 (get_or rows ((r + 1) * width s + i) 0))
  pub long : length (mask_numbers_of s rows a b r) ≡ 2 * (s.points * s.t + 1)

-- of rows 0 to 95 and a triple's first up to 93
abbrev pub MaskPlaces : Type 0
MaskPlaces =
    (s : Session) (rows : List ℕ) (a b r : ℕ) → length rows ≡ 96 * width s → a ≤ 95 → b ≤ 95 → r ≤ 93 → MasksPlaced s rows a b r
