-- The tests of an opening are document 01's table.
use Rattle.refusal.proofs.Figures.{points_figures}
use Rattle.session.specs.Sessions.{points_of}
use Rattle.opening.specs.Table.{OpeningTable}

pub opening_table : OpeningTable
opening_table s rows r blocks = rw (points_figures s.points (points_of s))
