-- The tests of a finish's first call are document 01's table.
use Rattle.refusal.proofs.Figures.{points_figures}
use Rattle.session.specs.Sessions.{points_of}
use Rattle.collect.specs.Table.{CollectTable}

pub collect_table_lem : CollectTable
collect_table_lem s rows r blocks_a blocks_b = rw (points_figures s.points (points_of s))
