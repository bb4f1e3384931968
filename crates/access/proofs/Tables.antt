-- The call's tests are the table.
use Rattle.refusal.proofs.Figures.{points_figures}
use Rattle.session.specs.Sessions.{points_of}
use Rattle.access.specs.Table.{AccessTable}

pub access_table_lem : AccessTable
access_table_lem s line = rw (points_figures s.points (points_of s))
