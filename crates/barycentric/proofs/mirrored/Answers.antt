-- Odd, zero, even.
use Rattle.std.proofs.Common.{rules}
use Rattle.barycentric.proofs.Rows.{mirrored_odd, mirrored_zero, mirrored_even}
use Rattle.barycentric.proofs.mirrored.Goals as goal

pub returns-then-n-eq1 : goal.returns-then-n-eq1
returns-then-n-eq1 c = search (rules, mirrored_odd)

pub returns-then-b-eq0 : goal.returns-then-b-eq0
returns-then-b-eq0 c = search (rules, mirrored_zero)

pub returns-else-b-eq0 : goal.returns-else-b-eq0
returns-else-b-eq0 c = search (rules, mirrored_even)
