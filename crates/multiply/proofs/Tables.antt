-- The tests of a finish's second call are document 01's table.
use Rattle.refusal.proofs.Figures.{beyond_figures, points_figures}
use Rattle.session.specs.Sessions.{points_of, opened_a_of, opened_b_of}
use Rattle.multiply.specs.Table.{MultiplyTable}

pub multiply_table_lem : MultiplyTable
multiply_table_lem s rows r = rw (points_figures s.points (points_of s), beyond_figures (opened_a_of s r), beyond_figures (opened_b_of s r))
