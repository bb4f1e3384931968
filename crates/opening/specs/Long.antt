-- "n blocks, each a mark (0 absent, 1 present) and t+1 coefficients", with two points 2t+1: how long a session's record is, which the tables of open,
-- collect and a relation's finish cite by name, and demand 2's premise on records too. Proved in proofs/Long.antt.
use Rattle.std.specs.Prelude.{◌+◌, ◌*◌, ◌≡◌}
use Rattle.session.specs.declared.Session.{Session}
use Rattle.opening.specs.Walking.{record_length}

abbrev pub RecordLong : Type 0
RecordLong = (s : Session) → record_length s ≡ s.n * (s.points * s.t + 1 + 1)
