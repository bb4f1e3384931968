-- Document 01, "Broadcast lines": "A number has 1 to 10 digits, no sign and no leading zero (0 is `0`)."
use Rattle.std.specs.Prelude.{Option, Some, None, ℕ, zero, suc, ◌+◌, ◌-◌, ◌*◌, ◌/◌, ◌%◌, List, [], ◌∷◌, ◌++◌, Bool, not, ◌&&◌, ◌||◌, cond, get_or, take, drop, leb, eqb, ltb}
use Rattle.decimal.specs.declared.Field.{Field}

-- Powers of ten.
abbrev pub tens : ℕ → ℕ
tens zero = 1
tens (suc k) = 10 * tens k

-- The last k decimal digits of x, in ASCII.
unfoldable pub last_digits : ℕ → ℕ → List ℕ
last_digits zero x = []
last_digits (suc k) x = last_digits k (x / 10) ++ ((48 + x % 10) ∷ [])

-- How many digits x has, at most f + 1.
unfoldable pub size_within : ℕ → ℕ → ℕ
size_within zero x = 1
size_within (suc f) x = cond (ltb x 10) 1 (suc (size_within f (x / 10)))

-- How many digits a number below 10^10 has.
abbrev pub size : ℕ → ℕ
size x = size_within 9 x

-- A number below 10^10 as it is written.
abbrev pub numeral : ℕ → List ℕ
numeral x = last_digits (size x) x

abbrev pub is_digit_of : ℕ → Bool
is_digit_of b = leb 48 b && leb b 57

-- How many digits a list begins with.
unfoldable pub leading : List ℕ → ℕ
leading [] = 0
leading (b ∷ s) = cond (is_digit_of b) (suc (leading s)) 0

-- The number that digits ds say behind digits that say a.
unfoldable pub value_after : ℕ → List ℕ → ℕ
value_after a [] = a
value_after a (d ∷ ds) = value_after (a * 10 + (d - 48)) ds

-- "1 to 10 digits".
abbrev pub most_digits : ℕ
most_digits = 10

-- A number, and the position behind it.
abbrev pub number : ℕ → ℕ → Option Field
number x next = Some (record { value = x; next = next })

-- k digits of which b is the first have the form of a number.
abbrev pub well_formed : ℕ → ℕ → Bool
well_formed k b = leb 1 k && (leb k most_digits && (eqb k 1 || not (eqb b 48)))

-- The number that s begins with, where s is what a line has from position `at` on.
unfoldable pub field_of : List ℕ → ℕ → Option Field
field_of s at = cond (well_formed (leading s) (get_or s 0 0)) (number (value_after 0 (take (leading s) s)) (at + leading s)) None

-- The number at a position of a line.
abbrev pub field_at : List ℕ → ℕ → Option Field
field_at s at = field_of (drop at s) at
