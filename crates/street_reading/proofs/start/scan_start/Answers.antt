-- n is there or not.
use Rattle.street_reading.proofs.Starts.{form_none, form_number}
use Rattle.street_reading.proofs.start.scan_start.Goals as goal

pub returns-in_err-n : goal.returns-in_err-n
returns-in_err-n c = form_none _ _ c.fields_at.ensures c.in_err-n.was _ c.from_residual.ensures

pub returns : goal.returns
returns c = form_number _ _ c.fields_at.ensures _ _ _ c.points_in-points.ensures.0 c.in_ok-n.was c.scan_settings.ensures
