-- The call's tests are document 01's table.
use Rattle.refusal.proofs.Figures.{points_figures}
use Rattle.session.specs.Sessions.{points_of}
use Rattle.message.specs.Table.{MessageTable}

pub message_table_lem : MessageTable
message_table_lem s rows r caller out = rw (points_figures s.points (points_of s))
