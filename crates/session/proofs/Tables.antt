-- The tests of a new session are document 01's table.
use Rattle.refusal.proofs.Figures.{points_figures}
use Rattle.session.specs.Table.{SessionTable}

pub session_table : SessionTable
session_table n t post points w = rw (points_figures points w)
