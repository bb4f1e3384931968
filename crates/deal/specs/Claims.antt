-- Demand 1 of a deal, with document 01's table for its tests; proved in proofs/Theorems.antt.
use Rattle.std.specs.Prelude.{ℕ, ◌≡◌, ◌≢◌, List}
use Rattle.session.specs.declared.Session.{Session}
use Rattle.session.specs.Sessions.{marked}
use Rattle.session.specs.Rows.{width, sums_at_of, row_at, with_row, plus_sums}
use Rattle.session.specs.Law.{Lawful}
use Rattle.deal.specs.Deal.{deal_answer, deal_rows_of}
use Rattle.deal.specs.Table.{deal_table}

abbrev pub DealLawful : Type 0
DealLawful =
    (s : Session) (rows : List ℕ) (r c : ℕ)
    → Lawful (deal_table s rows r c) 0 (marked s r 2) s
    (with_row (width s) r (plus_sums (sums_at_of s) c (row_at (width s) rows r)) rows) rows (deal_answer s rows r c) (deal_rows_of s rows r c)

-- "rows that a call doesn't name keep every number"
abbrev pub DealKeepsOthers : Type 0
DealKeepsOthers =
    (s : Session) (rows : List ℕ) (r c q : ℕ) → q ≢ r → row_at (width s) (deal_rows_of s rows r c) q ≡ row_at (width s) rows q
