-- Between the functions of the code: what the writers of the lines need of what they are lent. No theorem is stated with this. What
-- they write is in `File.antt`.
use Rattle.std.specs.Prelude.{ℕ, ◌≡◌, List, length}
use Rattle.shape.specs.Bounds.{row_count_of}
use Rattle.shape.specs.Lengths.{triple_length}
use Rattle.session.specs.declared.Party.{Party}
use Rattle.kinds.specs.Kinds.{draws_length}
use Rattle.packrow.specs.Between.{PostIn}

-- the kinds and draws of all rows, with room for the numbers of any line
pub record FileRoom (p : Party) (kinds draws room : List ℕ) : Type 0 where
  pub post : PostIn p
  pub rows : length kinds ≡ row_count_of
  pub drawn : length draws ≡ draws_length p.shape kinds
  pub place : length room ≡ triple_length p.shape
