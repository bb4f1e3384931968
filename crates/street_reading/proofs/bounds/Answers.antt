-- A row is within its bound, or the first that is not is found.
use Rattle.std.proofs.Common.{rules}
use Rattle.street_reading.proofs.Scanned.{bounds_end, bounds_beyond, bounds_more}
use Rattle.street_reading.proofs.bounds.Goals as goal

ruleset ends = (rules, bounds_end, bounds_beyond, bounds_more)

pub returns-then-last-rows : goal.returns-then-last-rows
returns-then-last-rows c = search ends

pub loop-i-preserved : goal.loop-i-preserved
loop-i-preserved c = search ends

pub returns : goal.returns
returns c = search ends
