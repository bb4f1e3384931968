-- Demand 1 of a linear call, with document 01's table for its tests; proved in proofs/Theorems.antt.
use Rattle.std.specs.Prelude.{ℕ, ◌≡◌, ◌≢◌, List, [], ◌∷◌}
use Rattle.session.specs.declared.Session.{Session}
use Rattle.session.specs.Sessions.{marked, sharing_all}
use Rattle.session.specs.Rows.{width, sums_at_of, row_at, with_row, summed}
use Rattle.session.specs.Law.{Lawful}
use Rattle.linear.specs.Linear.{linear_answer, linear_rows_of}
use Rattle.linear.specs.Table.{linear_table}

abbrev pub LinearLawful : Type 0
LinearLawful =
    (s : Session) (rows : List ℕ) (r a b scale fee : ℕ)
    → Lawful (linear_table s rows r a b scale fee) 0 (marked (sharing_all s r (a ∷ b ∷ [])) r 2) s
    (with_row (width s) r (summed (sums_at_of s) scale fee (row_at (width s) rows a) (row_at (width s) rows b)) rows) rows
    (linear_answer s rows r a b scale fee) (linear_rows_of s rows r a b scale fee)

-- "rows that a call doesn't name keep every number", and so do the rows a and b, where they are not the one written
abbrev pub LinearKeepsOthers : Type 0
LinearKeepsOthers =
    (s : Session) (rows : List ℕ) (r a b scale fee q : ℕ) → q ≢ r
    → row_at (width s) (linear_rows_of s rows r a b scale fee) q ≡ row_at (width s) rows q
