-- Document 01, "Lines": the text of `O` and `M` lines, byte by byte, written and read, and how many digits a number has. P10 has a `D`
-- alone, and that a line reads back holds of any text that no two lines share.
use Rattle.std.specs.Prelude.{◌≡◌, List, [], ◌∷◌, ℕ}
use Rattle.forms.specs.Lines.{opening, masks, text}
use Rattle.forms.specs.Forms.{message}
use Rattle.lines.specs.Reading.{read_refusal, line_as, list_as}
use Rattle.table.specs.Table.{lent}

-- `O,0,2,3,1`: "`O,row,post,` t+1 coefficients"
abbrev pub opening0 : List ℕ
opening0 = 79 ∷ 44 ∷ 48 ∷ 44 ∷ 50 ∷ 44 ∷ 51 ∷ 44 ∷ 49 ∷ 10 ∷ []

-- `M,2,1,3,1,3,1`: "`M,first row of triple,post,` 2(t+1) numbers"
abbrev pub masks2 : List ℕ
masks2 = 77 ∷ 44 ∷ 50 ∷ 44 ∷ 49 ∷ 44 ∷ 51 ∷ 44 ∷ 49 ∷ 44 ∷ 51 ∷ 44 ∷ 49 ∷ 10 ∷ []

-- `D,0,10000000000` and `D,0,4294967296`
abbrev pub eleven_digits : List ℕ
eleven_digits = 68 ∷ 44 ∷ 48 ∷ 44 ∷ 49 ∷ 48 ∷ 48 ∷ 48 ∷ 48 ∷ 48 ∷ 48 ∷ 48 ∷ 48 ∷ 48 ∷ 48 ∷ 10 ∷ []

abbrev pub ten_digits : List ℕ
ten_digits = 68 ∷ 44 ∷ 48 ∷ 44 ∷ 52 ∷ 50 ∷ 57 ∷ 52 ∷ 57 ∷ 54 ∷ 55 ∷ 50 ∷ 57 ∷ 54 ∷ 10 ∷ []

pub record Texts : Type 0 where
  pub opening_text : text (opening 0 2 (3 ∷ 1 ∷ [])) ≡ opening0
  pub opening_read : line_as (read_refusal 3 1 1 opening0 lent) (message 2 opening0) ≡ record { refusal = 0; letter = 79; row = 0; post = 2 }
  pub opening_numbers : list_as (read_refusal 3 1 1 opening0 lent) (message 2 opening0) lent ≡ 3 ∷ 1 ∷ 0 ∷ 0 ∷ []
  pub masks_text : text (masks 2 1 (3 ∷ 1 ∷ 3 ∷ 1 ∷ [])) ≡ masks2
  pub masks_read : line_as (read_refusal 3 1 1 masks2 lent) (message 2 masks2) ≡ record { refusal = 0; letter = 77; row = 2; post = 1 }
  pub masks_numbers : list_as (read_refusal 3 1 1 masks2 lent) (message 2 masks2) lent ≡ 3 ∷ 1 ∷ 3 ∷ 1 ∷ []
  -- "A number has 1 to 10 digits": 10 for an eleventh
  pub eleven : read_refusal 3 1 1 eleven_digits lent ≡ 10
  -- one of ten digits has the right form, whatever it is: 11 above the elements
  pub ten : read_refusal 3 1 1 ten_digits lent ≡ 11
