-- Whether the number was found, or is in the rest, is whether it is in the list.
use Rattle.std.proofs.Common.{◌≡◌, ◌||◌, drop}
use Rattle.vanishing.specs.Vanishing.{occurs}
use Rattle.vanishing.proofs.occurs.Given as goal

abbrev pub invariant-loop-y : goal.invariant-loop-y
invariant-loop-y l = (l.found || occurs l.x (drop l.y-index l.list)) ≡ occurs l.x l.list
