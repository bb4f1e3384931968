-- The line from i on ends where the one from `from` on does.
use Rattle.std.proofs.Common.{◌≡◌, ◌+◌, drop}
use Rattle.street_splitting.specs.Lines.{segment}
use Rattle.street_splitting.proofs.line_end.Given as goal

abbrev pub invariant-loop-i : goal.invariant-loop-i
invariant-loop-i l = l.i + segment (drop l.i l.chunk) ≡ l.from + segment (drop l.from l.chunk)
