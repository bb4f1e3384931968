-- Document 01, "Broadcast lines": the three lines and their text. 68, 79 and 77 are `D`, `O` and `M`.
use Rattle.std.specs.Prelude.{cond, ℕ, List, [], ◌∷◌, eqb}
use Rattle.shape.specs.Bounds.{last_row_at, last_triple}
use Rattle.csv_fields.specs.Fields.{written}

-- What a line says. A `D` has no post, which counts as 0.
pub record Message : Type 0 where
  pub letter : ℕ
  pub row : ℕ
  pub post : ℕ
  pub numbers : List ℕ

-- "`D,row,c`"
abbrev pub deal : ℕ → ℕ → Message
deal row c = record { letter = 68; row = row; post = 0; numbers = c ∷ [] }

-- "`O,row,post,` t+1 coefficients"
abbrev pub opening : ℕ → ℕ → List ℕ → Message
opening row post xs = record { letter = 79; row = row; post = post; numbers = xs }

-- "`M,first row of triple,post,` t+1 coefficients of a − l, then t+1 of b − l'"
abbrev pub masks : ℕ → ℕ → List ℕ → Message
masks row post xs = record { letter = 77; row = row; post = post; numbers = xs }

abbrev pub fields_of : Message → List ℕ
fields_of m = cond (eqb m.letter 68) (m.row ∷ m.numbers) (m.row ∷ m.post ∷ m.numbers)

abbrev pub text : Message → List ℕ
text m = written m.letter (fields_of m)

-- "row above 95, or a triple's first above 93"
abbrev pub last_row_of : ℕ → ℕ
last_row_of letter = cond (eqb letter 77) last_triple last_row_at
