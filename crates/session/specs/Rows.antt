-- Document 01, "Field, posts, rows": a session's rows in one lent list.
use Rattle.std.specs.Prelude.{ℕ, ◌*◌, List, [], ◌∷◌, ◌++◌, map, take, drop}
use Rattle.field.specs.Arithmetic.{sum, product}
use Rattle.shape.specs.Lengths as Lengths
use Rattle.shape.specs.Row as Row
use Rattle.session.specs.declared.Session.{Session}
use Rattle.session.specs.Sessions.{shape_of}

-- Lengths and parts of a row, of a session's shape.
abbrev pub width : Session → ℕ
width s = Lengths.row_length (shape_of s)

abbrev pub sums_at_of : Session → ℕ
sums_at_of s = Lengths.sums_at_of (shape_of s)

abbrev pub coefficients : Session → List ℕ → List ℕ
coefficients s row = Row.coefficients (shape_of s) row

-- Row r of a list of rows of w numbers.
abbrev pub row_at : ℕ → List ℕ → ℕ → List ℕ
row_at w rows r = take w (drop (r * w) rows)

-- The list with x in the place of row r, every other number as it was.
abbrev pub with_row : ℕ → ℕ → List ℕ → List ℕ → List ℕ
with_row w r x rows = take (r * w) rows ++ (x ++ drop w (drop (r * w) rows))

-- x plus s times y, element by element over whole rows.
unfoldable pub combined : ℕ → List ℕ → List ℕ → List ℕ
combined s [] ys = []
combined s (x ∷ xs) [] = []
combined s (x ∷ xs) (y ∷ ys) = sum x (product s y) ∷ combined s xs ys

-- c added to m1..mn, which stand from the k-th number of a row on, and to nothing else.
unfoldable pub plus_sums : ℕ → ℕ → List ℕ → List ℕ
plus_sums k c row = take k row ++ map (λ m. sum m c) (drop k row)

-- The sum of rows that linear and the last step of a product share: "a plus s times b", with "the fee, added to m1..mn of the new
-- row and to nothing else" (document 02, (i)). The public sums stand from the k-th number on.
abbrev pub summed : ℕ → ℕ → ℕ → List ℕ → List ℕ → List ℕ
summed k s fee x y = plus_sums k fee (combined s x y)
