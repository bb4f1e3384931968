-- Document 01, "The street program": "It prints a header, then per input line its number from 1, the refusal (0 for none) and
-- the number opened (0 if none)." Document 02, (iii): "X, when not refused, also prints its M line, after its answer."
use Rattle.std.specs.Prelude.{ℕ, ◌+◌, List, [], ◌∷◌, ◌++◌}
use Rattle.decimal.specs.Numeral.{last_digits, size_within}
use Rattle.csv_fields.specs.Fields.{fields}
use Rattle.street_store.specs.Sizes.{told_room}

-- `line,refusal,value`
abbrev pub header : List ℕ
header = 108 ∷ 105 ∷ 110 ∷ 101 ∷ 44 ∷ 114 ∷ 101 ∷ 102 ∷ 117 ∷ 115 ∷ 97 ∷ 108 ∷ 44 ∷ 118 ∷ 97 ∷ 108 ∷ 117 ∷ 101 ∷ 10 ∷ []

-- How many digits a number of 64 bits has, and the number as it is written.
abbrev pub long_size_of : ℕ → ℕ
long_size_of x = size_within 19 x

abbrev pub long_numeral : ℕ → List ℕ
long_numeral x = last_digits (long_size_of x) x

-- The answer to one line.
abbrev pub answer_text : ℕ → ℕ → ℕ → List ℕ
answer_text number refusal value = long_numeral number ++ (fields (refusal ∷ value ∷ []) ++ (10 ∷ []))

-- No answer is longer.
abbrev pub longest_answer : ℕ
longest_answer = 43

-- What is printed for a line: its answer, and behind it what an `X` prints.
abbrev pub print_text : ℕ → ℕ → ℕ → List ℕ → List ℕ
print_text number refusal value told = answer_text number refusal value ++ told

-- No more is printed for a line.
abbrev pub longest_print : ℕ
longest_print = longest_answer + told_room
