-- Each load's tests are document 01's table.
use Rattle.refusal.proofs.Figures.{points_figures}
use Rattle.session.specs.Sessions.{points_of}
use Rattle.load.specs.Table.{LoadTables}

pub load_tables : LoadTables
load_tables = record { load_row = λ s rows r pack. rw (points_figures s.points (points_of s)); load_triple_is = λ s rows r pack. rw (points_figures s.points (points_of s)) }
