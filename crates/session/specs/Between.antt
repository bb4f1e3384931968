-- Between the functions of the code: what the shared checks leave to what a call does behind them. No theorem is stated with these.
use Rattle.std.specs.Prelude.{ℕ, ◌*◌, ◌≤◌, ◌<◌, ◌≡◌, List, length}
use Rattle.field.specs.Modulus.{p}
use Rattle.shape.specs.declared.Shape.{Shape}
use Rattle.shape.specs.Bounds.{last_row_at, last_triple}
use Rattle.shape.specs.Lengths.{Valid, row_length, rows_length}
use Rattle.session.specs.declared.Session.{Session}
use Rattle.session.specs.Sessions.{shape_of}

-- What 1, 2 and 5 leave of a list of rows.
pub record Sized (s : Shape) (rows : List ℕ) : Type 0 where
  pub valid : Valid s
  pub length_is : length rows ≡ rows_length s

-- What 1 to 5 leave to a call.
pub record Framed (s : Session) (rows : List ℕ) : Type 0 where
  pub sized : Sized (shape_of s) rows
  pub post_in : (1 ≤ s.post) × (s.post ≤ s.n)
  pub point_in_is : (0 < s.first) × (s.first < p)

-- A row number that 6 leaves, with room for the row in the list.
pub record RowIn (s : Shape) (r : ℕ) : Type 0 where
  pub row_in : r ≤ last_row_at
  pub room : r * row_length s ≤ last_row_at * row_length s

-- A triple's first row that 6 leaves, with room for its three rows in the list.
pub record TripleIn (s : Shape) (r : ℕ) : Type 0 where
  pub triple_in : r ≤ last_triple
  pub room : r * row_length s ≤ last_triple * row_length s

-- What a call may go by that was not refused.
pub record Allows (refusal : ℕ) (what : Type 0) : Type 0 where
  pub allowed : refusal ≡ 0 → what
