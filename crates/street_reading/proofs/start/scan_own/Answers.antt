-- The post is there or not.
use Rattle.street_reading.proofs.Starts.{own_none, own_post}
use Rattle.street_reading.proofs.start.scan_own.Goals as goal

pub returns-in_err-post : goal.returns-in_err-post
returns-in_err-post c = own_none _ _ _ _ _ _ c.fields_at.ensures c.in_err-post.was _ c.from_residual.ensures

pub returns : goal.returns
returns c = own_post _ _ _ _ _ _ c.fields_at.ensures _ _ c.in_ok-post.was c.scan_points.ensures
