-- No term is placed yet: all of the list is left.
use Rattle.std.proofs.Common.{arith}
use Rattle.terms.proofs.Placing.{filled_all}
use Rattle.terms.proofs.collect.Goals as goal

pub loop-i-init : goal.loop-i-init
loop-i-init c = rw c.none_of-all.ensures record { within = omega arith; few = omega arith; leads = filled_all c.args.terms.now }
