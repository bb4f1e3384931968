-- The answer for the points from this one on is the answer for all.
use Rattle.std.proofs.Common.{◌≡◌, drop}
use Rattle.factory.specs.Calls.{any_bad_point}
use Rattle.factory.proofs.checks.check_points.Given as goal

abbrev pub invariant-loop-w : goal.invariant-loop-w
invariant-loop-w l = any_bad_point (drop l.w-index l.ws) ≡ any_bad_point l.ws
