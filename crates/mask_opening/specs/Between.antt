-- Between the functions of the code: what a call's checks leave to the openings of its masks. No theorem is stated with this.
use Rattle.std.specs.Prelude.{ℕ, List}
use Rattle.session.specs.declared.Party.{Party}
use Rattle.session.specs.Between.{Sized, RowIn, TripleIn}
use Rattle.blocks.specs.Between.{Recorded}

pub record Maskable (q : Party) (rows : List ℕ) (a b first : ℕ) (record_a_of record_b_of : List ℕ) : Type 0 where
  pub sized : Sized q.shape rows
  pub a_in : RowIn q.shape a
  pub b_in : RowIn q.shape b
  pub triple_in : TripleIn q.shape first
  pub recorded_a : Recorded q record_a_of
  pub recorded_b : Recorded q record_b_of
