-- Document 01: "A number has 1 to 10 digits, no sign and no leading zero (0 is `0`)." The text of a number, digit by digit; that it is read, and
-- nothing else is, says the round trip of whole lines (crate forms). Proved in proofs/Written.antt.
use Rattle.std.specs.Prelude.{ℕ, ◌+◌, ◌/◌, ◌%◌, ◌≤◌, ◌<◌, ◌≡◌, [], ◌∷◌, ◌++◌}
use Rattle.decimal.specs.Numeral.{tens, numeral}

-- One digit below 10, `0` to `9` in ASCII; from there on the digits of a tenth of it, and the last one behind them.
pub record NumeralDigits : Type 0 where
  -- the least number that ten digits do not write, as premises have it
  pub ten_digits_is : tens 10 ≡ 10000000000
  pub one : (x : ℕ) → x < 10 → numeral x ≡ (48 + x) ∷ []
  pub more : (x : ℕ) → 10 ≤ x → x < 10000000000 → numeral x ≡ numeral (x / 10) ++ ((48 + x % 10) ∷ [])
