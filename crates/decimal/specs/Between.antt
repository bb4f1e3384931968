-- Between the functions of the code. No theorem is stated with these.
use Rattle.std.specs.Prelude.{ℕ, zero, suc, ◌+◌, ◌-◌, ◌*◌, ◌/◌, ◌%◌, ◌≤◌, ◌<◌, ◌≡◌, List, [], ◌∷◌, Bool, true, false, cond, length, get_or, take, drop, ltb}
use Rattle.std.specs.Char.{is_ascii_digit}
use Rattle.decimal.specs.Numeral.{most_digits, leading, value_after}

-- 1 for a number that reaches a bound.
abbrev pub reached : ℕ → ℕ → ℕ
reached x bound = cond (ltb x bound) 0 1

-- A walk from a position of a line of this length: to the line's end, but over no more than one digit above the most.
pub record WalkEnd (len at end : ℕ) : Type 0 where
  pub from : at ≤ end
  pub near : end ≤ at + suc most_digits
  pub within : at < end → end ≤ len
  pub whole : end ≤ at + most_digits → len ≤ end

-- Where the walk left the digits, and what those say that it passed: all of them, unless there are more than the most.
pub record DigitsAt (s : List ℕ) (at v end : ℕ) : Type 0 where
  pub from : at ≤ end
  pub few : end ≤ at + most_digits → (end ≡ at + leading (drop at s)) × (v ≡ value_after 0 (take (leading (drop at s)) (drop at s)))
  pub many : at + most_digits < end → most_digits < leading (drop at s)

abbrev pub Digits : List ℕ → Type 0
Digits [] = Unit {0}
Digits (d ∷ ds) = ((48 ≤ d) × (d ≤ 57)) × Digits ds

abbrev pub DigitsIf : Bool → List ℕ → Type 0
DigitsIf true ds = Digits ds
DigitsIf false ds = Unit {0}

-- The k lowest bytes of a number, the lowest first.
unfoldable pub bytes_of : ℕ → ℕ → List ℕ
bytes_of zero x = []
bytes_of (suc k) x = (x % 256) ∷ bytes_of k (x / 256)

-- Eight digits stand at a position and say v, and two bytes more stand behind them.
pub record BehindEight (s : List ℕ) (at v : ℕ) : Type 0 where
  pub room : at + most_digits ≤ length s
  pub digits : Digits (take 8 (drop at s))
  pub says : v ≡ value_after 0 (take 8 (drop at s))

-- The same with the digit behind them: nine say v.
pub record BehindNine (s : List ℕ) (at v : ℕ) : Type 0 where
  pub eight : ℕ
  pub front : BehindEight s at eight
  pub digit : is_ascii_digit (get_or s (at + 8) 0) ≡ true
  pub says : v ≡ eight * 10 + (get_or s (at + 8) 0 - 48)
