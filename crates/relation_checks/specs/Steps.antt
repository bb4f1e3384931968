-- What the checks of a relation's finish ask of one product term's place.
use Rattle.std.specs.Prelude.{ℕ, ◌+◌, ◌*◌, ◌≤◌, ◌<◌, List, length}
use Rattle.shape.specs.Lengths.{Valid}
use Rattle.session.specs.declared.Session.{Session}
use Rattle.session.specs.Sessions.{shape_of}
use Rattle.opening.specs.Walking.{record_length}
use Rattle.terms.specs.Listed.{most_terms}

-- What 1, 2 and 5 leave of the lent list: the product term at place k has its two records there.
pub record Pair (s : Session) (blocks : List ℕ) (k : ℕ) : Type 0 where
  pub valid : Valid (shape_of s)
  pub low : k < most_terms
  pub first_in : 2 * k * record_length s + record_length s ≤ length blocks
  pub second_in : (2 * k + 1) * record_length s + record_length s ≤ length blocks
