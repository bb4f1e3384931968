-- "fields parted by commas, no quoting, one line feed at the end": a line byte by byte, whatever its letter and its numbers; what a numeral is says
-- `NumeralDigits` (crate decimal). Proved in proofs/Lined.antt.
use Rattle.std.specs.Prelude.{ℕ, ◌≡◌, List, [], ◌∷◌, ◌++◌, drop}
use Rattle.decimal.specs.Numeral.{numeral}
use Rattle.csv_fields.specs.Fields.{written}

-- The letter and a line feed; with one number more in front, a comma and its digits right behind the letter.
pub record LineBytes : Type 0 where
  pub none : (letter : ℕ) → written letter [] ≡ letter ∷ 10 ∷ []
  pub more : (letter x : ℕ) (xs : List ℕ) → written letter (x ∷ xs) ≡ letter ∷ 44 ∷ (numeral x ++ drop 1 (written letter xs))
