-- Demand 1 of a finish's second call, with document 01's table for its tests; proved in proofs/Theorems.antt.
use Rattle.std.specs.Prelude.{ℕ, ◌+◌, ◌≡◌, ◌≢◌, List, get_or}
use Rattle.session.specs.declared.Session.{Session}
use Rattle.session.specs.Sessions.{marked, sharing, factor_a_of, factor_b_of}
use Rattle.session.specs.Rows.{width, row_at}
use Rattle.session.specs.Law.{Lawful}
use Rattle.multiply.specs.Multiply.{with_product, multiply_answer, multiply_rows_of}
use Rattle.multiply.specs.Table.{multiply_table}

abbrev pub MultiplyLawful : Type 0
MultiplyLawful =
    (s : Session) (rows : List ℕ) (r : ℕ)
    → Lawful (multiply_table s rows r) 0 (marked (marked (marked (sharing s (r + 2) (factor_a_of s r) (factor_b_of s r)) r 6) (r + 1) 6) (r + 2) 2) s
    (with_product s (get_or s.y_a r 0) (get_or s.y_b r 0) r rows) rows (multiply_answer s rows r) (multiply_rows_of s rows r)

-- "rows that a call doesn't name keep every number", and so do the triple's first two
abbrev pub MultiplyKeepsOthers : Type 0
MultiplyKeepsOthers =
    (s : Session) (rows : List ℕ) (r q : ℕ) → q ≢ r + 2 → row_at (width s) (multiply_rows_of s rows r) q ≡ row_at (width s) rows q
