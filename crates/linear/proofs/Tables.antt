-- The call's tests are document 01's table.
use Rattle.refusal.proofs.Figures.{beyond_figures, points_figures}
use Rattle.session.specs.Sessions.{points_of}
use Rattle.linear.specs.Table.{LinearTable}

pub linear_table_lem : LinearTable
linear_table_lem s rows r a b scale fee = rw (points_figures s.points (points_of s), beyond_figures scale, beyond_figures fee)
