-- Splitting input bytes into lines.
use Rattle.std.specs.Prelude.{ℕ, suc, ◌+◌, ◌-◌, List, [], ◌∷◌, cond, take, eqb}
use Rattle.csv_fields.specs.Fields.{overwrite}
use Rattle.street_store.specs.Sizes.{longest_line}

-- How many bytes reach up to the first line feed, itself included, or to the end.
unfoldable pub segment : List ℕ → ℕ
segment [] = 0
segment (b ∷ s) = cond (eqb b 10) 1 (suc (segment s))

-- Of a line that is too long, one byte more than the longest line has is kept: enough to tell.
abbrev pub kept_length : ℕ
kept_length = longest_line + 1

abbrev pub cut : List ℕ → List ℕ
cut line = take kept_length line

-- The lent line, after bytes were put behind its first len, as far as there is room. What they don't reach stays.
abbrev pub laid : ℕ → List ℕ → List ℕ → List ℕ
laid len part line = overwrite len (take (kept_length - len) part) line
