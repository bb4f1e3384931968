-- Demand 1 of the two loads, with document 01's table for its tests; proved in proofs/Theorems.antt.
use Rattle.std.specs.Prelude.{ℕ, ◌+◌, ◌≡◌, ◌≢◌, List}
use Rattle.session.specs.declared.Session.{Session}
use Rattle.session.specs.Sessions.{marked}
use Rattle.session.specs.Rows.{width, row_at, with_row}
use Rattle.session.specs.Law.{Lawful}
use Rattle.load.specs.Load.{load_row_answer, load_row_rows_of, load_triple_answer, load_triple_rows_of, with_triple}
use Rattle.load.specs.Table.{load_row_table, load_triple_table}

pub record LoadLawful : Type 0 where
  pub load_row : (s : Session) (rows : List ℕ) (r : ℕ) (pack : List ℕ)
      → Lawful (load_row_table s rows r pack) 0 (marked s r 1) s (with_row (width s) r pack rows) rows
      (load_row_answer s rows r pack) (load_row_rows_of s rows r pack)
  pub load_triple_is : (s : Session) (rows : List ℕ) (r : ℕ) (pack : List ℕ)
      → Lawful (load_triple_table s rows r pack) 0 (marked (marked (marked s r 3) (r + 1) 4) (r + 2) 4) s
      (with_triple (width s) r pack rows) rows (load_triple_answer s rows r pack) (load_triple_rows_of s rows r pack)

-- "rows that a call doesn't name keep every number"
pub record LoadKeepsOthers : Type 0 where
  pub load_row : (s : Session) (rows : List ℕ) (r : ℕ) (pack : List ℕ) (q : ℕ) → q ≢ r
      → row_at (width s) (load_row_rows_of s rows r pack) q ≡ row_at (width s) rows q
  pub load_triple_is : (s : Session) (rows : List ℕ) (r : ℕ) (pack : List ℕ) (q : ℕ) → q ≢ r → q ≢ r + 1 → q ≢ r + 2
      → row_at (width s) (load_triple_rows_of s rows r pack) q ≡ row_at (width s) rows q
