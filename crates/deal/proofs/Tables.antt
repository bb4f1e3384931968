-- The call's tests are document 01's table.
use Rattle.refusal.proofs.Figures.{beyond_figures, points_figures}
use Rattle.session.specs.Sessions.{points_of}
use Rattle.deal.specs.Table.{DealTable}

pub deal_table_lem : DealTable
deal_table_lem s rows r c = rw (points_figures s.points (points_of s), beyond_figures c)
