-- 1, 2 and 4 first.
use Rattle.std.proofs.Common.{rules, ◌∙◌}
use Rattle.refusal.proofs.Ranges.{station_passed}
use Rattle.lines.proofs.Answers.{station_line}
use Rattle.lines.proofs.read.Goals as goal

ruleset ends = (rules, station_passed, station_line)

pub returns-then-station-ne0-clause-value : goal.returns-then-station-ne0-clause-value
returns-then-station-ne0-clause-value c = let told = c.number_of-station.ensures ∙ c.station.ensures in search ends

pub masks_len-requires : goal.masks_len-requires
masks_len-requires c = let told = c.number_of-station.ensures ∙ c.station.ensures in search ends

pub v_len-requires : goal.v_len-requires
v_len-requires c = let told = c.number_of-station.ensures ∙ c.station.ensures in search ends
