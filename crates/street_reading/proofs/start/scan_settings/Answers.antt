-- t is a dash, a number or not there.
use Rattle.street_reading.proofs.Starts.{settings_dash, settings_none, settings_number}
use Rattle.street_reading.proofs.start.scan_settings.Goals as goal

pub returns-then-dash_at : goal.returns-then-dash_at
returns-then-dash_at c = settings_dash _ _ _ _ _ c.dash_at.ensures _ c.if-dash_at.true c.scan_own.ensures

pub returns-in_err-t : goal.returns-in_err-t
returns-in_err-t c = settings_none _ _ _ _ _ c.dash_at.ensures c.if-dash_at.false _ c.fields_at.ensures c.in_err-t.was _ c.from_residual.ensures

pub returns : goal.returns
returns c = settings_number _ _ _ _ _ c.dash_at.ensures c.if-dash_at.false _ c.fields_at.ensures _ _ c.in_ok-t.was c.scan_own-2.ensures
