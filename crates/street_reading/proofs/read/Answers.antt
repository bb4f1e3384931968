-- The first refusal stands; else the rows'.
use Rattle.std.proofs.Common.{rules}
use Rattle.refusal.proofs.Checks.{not_zero}
use Rattle.street_reading.proofs.Scanned.{read_refused, read_bounded, read_taken}
use Rattle.street_reading.proofs.read.Goals as goal

ruleset ends = (rules, not_zero, read_refused, read_bounded, read_taken)

pub returns-in_err-elements : goal.returns-in_err-elements
returns-in_err-elements c = (search ends, search ends)

pub returns : goal.returns
returns c = (search ends, search ends)
