-- Document 02, (vii): "write that post's file: its `S` line, then `R` and `T` lines by rising row"; (ix): with two check points
-- its `W` line.
use Rattle.std.specs.Prelude.{ℕ, suc, cond, List, [], ◌∷◌, ◌++◌, eqb, take, drop}
use Rattle.shape.specs.Bounds.{most_points}
use Rattle.shape.specs.Marks.{raw}
use Rattle.csv_fields.specs.Fields.{written}
use Rattle.session.specs.declared.Party.{Party}
use Rattle.kinds.specs.Kinds.{drawn_for_of}
use Rattle.packrow.specs.Numbers.{numbers_of_of}

-- "`R,row,` and a raw row's numbers"; "`T,first row,` and the triple's three rows"
abbrev pub letter_of_of : ℕ → ℕ
letter_of_of k = cond (eqb k raw) 82 84

-- A row that has numbers has a line.
abbrev pub line_with : ℕ → ℕ → List ℕ → List ℕ
line_with letter row [] = []
line_with letter row (x ∷ xs) = written letter (row ∷ x ∷ xs)

unfoldable pub row_line : Party → ℕ → ℕ → List ℕ → List ℕ
row_line p row k draw = line_with (letter_of_of k) row (numbers_of_of p k draw)

-- "`R` and `T` lines by rising row", "The draws follow by rising row": the lines of the rows from `row` on, which have these kinds.
unfoldable pub row_lines : Party → ℕ → List ℕ → List ℕ → List ℕ
row_lines p row [] draws = []
row_lines p row (k ∷ ks) draws =
    row_line p row k (take (drawn_for_of p.shape k) draws) ++ row_lines p (suc row) ks (drop (drawn_for_of p.shape k) draws)

-- "`S,n,t,post,checkpoint`"; with two check points it "starts with `W,n,t,post,first,second`". The file prints t as a figure.
abbrev pub start_letter_of : ℕ → ℕ
start_letter_of points = cond (eqb points most_points) 87 83

unfoldable pub start_line : Party → List ℕ
start_line p =
    cond (eqb p.shape.points most_points)
    (written 87 (p.shape.n ∷ p.shape.t ∷ p.post ∷ p.points.first ∷ p.points.second ∷ []))
    (written 83 (p.shape.n ∷ p.shape.t ∷ p.post ∷ p.points.first ∷ []))

unfoldable pub file : Party → List ℕ → List ℕ → List ℕ
file p kinds draws = start_line p ++ row_lines p 0 kinds draws
