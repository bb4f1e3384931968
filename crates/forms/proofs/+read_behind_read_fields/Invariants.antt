-- The measure of the cycle of calls {read_behind, read_fields}: twice the places that are left, and one more where a part is read.
use Rattle.std.proofs.Common.{◌+◌, ◌-◌, ◌*◌, length}
use Rattle.forms.proofs.+read_behind_read_fields.Given as goal

abbrev pub decreases-read_behind : goal.decreases-read_behind
decreases-read_behind l = 2 * (length l.out.now - length l.front.now) + 1

abbrev pub decreases-read_fields : goal.decreases-read_fields
decreases-read_fields l = 2 * length l.out.now
