-- One factor more, or a number that comes again.
use Rattle.std.proofs.Common.{rules}
use Rattle.std.proofs.lemmas.List.{take_rest}
use Rattle.vanishing.proofs.Turns.{once_turn, once_all, same_once, once_ends, once_low}
use Rattle.vanishing.proofs.vanish_at_each.Goals as goal

pub loop-i-preserved : goal.loop-i-preserved
loop-i-preserved c = (
  search (rules, same_once),
  search (rules, once_ends),
  search (rules, once_low),
  once_turn c.args.numbers.now c.loop-i.i _ _ _ (search rules) (rw take_rest at c.times_factor_once.ensures) c.loop-i.invariant.3,
)

pub returns : goal.returns
returns c = search (rules, once_all)
