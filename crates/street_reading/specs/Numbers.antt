-- Document 01, "The street program": "A line's form is looked at first: .. other lines get 10, then 11, then what the call answers."
-- Here for a line whose letter is followed by numbers alone, of which the first name rows.
use Rattle.std.specs.Prelude.{ℕ, List, [], ◌∷◌, Bool, false, ◌||◌, get_or, drop, ltb}
use Rattle.refusal.specs.Refusal.{Test, ◌when◌, first}
use Rattle.refusal.specs.Conditions.{any_beyond}
use Rattle.csv_fields.specs.Fields.{Parsed, fields_at, ended, numbers_of_of}
use Rattle.forms.specs.Forms.{is_malformed}

-- k numbers behind the letter, a line feed, and nothing more.
unfoldable pub number_form : ℕ → List ℕ → Parsed
number_form k s = ended s (fields_at k s 1)

abbrev pub numbers : ℕ → List ℕ → List ℕ
numbers k s = numbers_of_of (number_form k s)

-- "row above 95 (a triple's first above 93)": the first numbers are rows, each with its last.
unfoldable pub rows_beyond : List ℕ → List ℕ → Bool
rows_beyond [] xs = false
rows_beyond (last ∷ lasts) xs = ltb last (get_or xs 0 0) || rows_beyond lasts (drop 1 xs)

-- 10, and 11 of an "element at least p". A row at least p is above its last too.
abbrev pub element_tests : ℕ → List ℕ → List Test
element_tests k s = 10 when is_malformed (number_form k s) ∷ 11 when any_beyond (numbers k s) ∷ []

unfoldable pub elements_refusal : ℕ → List ℕ → ℕ
elements_refusal k s = first (element_tests k s)

-- 10 and 11
abbrev pub read_tests : List ℕ → ℕ → List ℕ → List Test
read_tests lasts k s =
    10 when is_malformed (number_form k s)
    ∷ 11 when any_beyond (numbers k s)
    ∷ 11 when rows_beyond lasts (numbers k s)
    ∷ []

unfoldable pub read_refusal : List ℕ → ℕ → List ℕ → ℕ
read_refusal lasts k s = first (read_tests lasts k s)
