-- The tests of masks are document 01's table.
use Rattle.refusal.proofs.Figures.{points_figures}
use Rattle.session.specs.Sessions.{points_of}
use Rattle.product_masks.specs.Table.{MasksTable}

pub masks_table_is : MasksTable
masks_table_is s rows a b r out = rw (points_figures s.points (points_of s))
