-- The check points are there or not, by what the fields are.
use Rattle.street_reading.proofs.Starts.{points_none, points_wrong, points_settings}
use Rattle.street_reading.proofs.start.scan_points.Goals as goal

pub returns-in_err-first : goal.returns-in_err-first
returns-in_err-first c = points_none _ _ _ _ _ _ c.requires.0 c.requires.1 _ c.fields_at.ensures c.in_err-first.was _ c.from_residual.ensures

pub returns-in_err-last : goal.returns-in_err-last
returns-in_err-last c =
    points_wrong _ _ _ _ _ _ c.requires.0 c.requires.1 _ c.fields_at.ensures _ c.in_ok-first.was _ c.last_fields_at.ensures c.in_err-last.was _
    c.from_residual-in_err-last.ensures

pub returns : goal.returns
returns c =
    points_settings _ _ _ _ _ _ c.requires.0 c.requires.1 _ c.fields_at.ensures _ c.in_ok-first.was _ c.last_fields_at.ensures _ c.in_ok-last.was
