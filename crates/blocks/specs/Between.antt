-- Between the functions of the code: what holds of the lists that one hands to the next. No theorem is stated with these.
use Rattle.std.specs.Prelude.{ℕ, ◌+◌, ◌*◌, ◌-◌, ◌≤◌, ◌≡◌, List, length}
use Rattle.shape.specs.declared.Shape.{Shape}
use Rattle.shape.specs.Lengths.{Valid, checks_length, row_length, block_length, record_length}
use Rattle.session.specs.declared.Party.{Party}

-- What 1, 2 and 5 leave of a record.
pub record Recorded (q : Party) (blocks : List ℕ) : Type 0 where
  pub valid : Valid q.shape
  pub length_is : length blocks ≡ record_length q.shape

-- A post's number, with room for its block in the record, and for its check values in a row.
pub record PostIn (s : Shape) (j : ℕ) : Type 0 where
  pub post_in : (1 ≤ j) × (j ≤ s.n)
  pub room : (j - 1) * block_length s + block_length s ≤ record_length s
  pub checks_room : (j - 1) * s.points + s.points ≤ checks_length s

-- What an opening goes by: a row and a record of the stated lengths.
pub record Openable (q : Party) (row blocks : List ℕ) : Type 0 where
  pub recorded : Recorded q blocks
  pub row_length_is : length row ≡ row_length q.shape
