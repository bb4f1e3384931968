-- Document 01, "Broadcast lines": "The reader that walks the fields keeps the caller's line and how far it has read, with no copy."
use Rattle.std.specs.Prelude.{Option, Some, None, ℕ, ◌+◌, ◌%◌, ◌≡◌, List, [], ◌∷◌, ◌&&◌, cond, length, get_or, eqb}
use Rattle.decimal.specs.declared.Field.{Field}
use Rattle.decimal.specs.Numeral.{field_at}
use Rattle.csv_fields.specs.declared.Reader.{Reader}
use Rattle.csv_fields.specs.declared.Run.{Run}
use Rattle.csv_fields.specs.Fields.{Parsed, parsed, malformed, run}

-- The field at a position of a line: a comma, and a number behind it.
abbrev pub comma_field_of : List ℕ → ℕ → Option Field
comma_field_of s at = cond (eqb (get_or s at 0) 44) (field_at s (at + 1)) None

-- "how far it has read": to the place behind a field; what is no field is not passed.
abbrev pub place_behind : Option Field → ℕ → ℕ
place_behind (Some f) at = f.next
place_behind None at = at

-- A field, and the reader moved on behind it.
pub record Step : Type 0 where
  pub field : Option Field
  pub reader : Reader

-- "keeps the caller's line": a reader's next field, and the reader moved on, over the same line.
abbrev pub step_from : Reader → Step
step_from r =
    let found = comma_field_of r.line.now r.at in
    record { field = found; reader = record { line = r.line; at = place_behind found r.at } }

-- What is told of fields that end at a position, where they are the last of a line.
abbrev pub end_of : List ℕ → ℕ → ℕ → Option Run
end_of s at m = cond (eqb (get_or s at 0) 10 && eqb (length s) (at + 1)) (run m at) None

-- The lowest 32 bits of each number of a list.
unfoldable pub lows : List ℕ → List ℕ
lows [] = []
lows (x ∷ xs) = (x % 4294967296) ∷ lows xs

-- What a room has that fields were read into: the lowest bits of their numbers, where they are fields.
abbrev pub Roomed : Parsed → List ℕ → Type 0
Roomed (parsed xs next) l = l ≡ lows xs
Roomed malformed l = Unit {0}
