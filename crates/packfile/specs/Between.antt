-- Between the functions of the code: what the call's tests leave for its writers. No theorem is stated with this.
use Rattle.std.specs.Prelude.{ℕ, ◌≡◌, List, length}
use Rattle.shape.specs.Bounds.{row_count_of}
use Rattle.session.specs.declared.Party.{Party}
use Rattle.kinds.specs.Kinds.{draws_length}
use Rattle.packrow.specs.Between.{PostIn}

-- the kinds and draws of all rows
pub record Given (p : Party) (kinds draws : List ℕ) : Type 0 where
  pub post : PostIn p
  pub rows : length kinds ≡ row_count_of
  pub drawn : length draws ≡ draws_length p.shape kinds
