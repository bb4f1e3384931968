-- One factor more.
use Rattle.std.proofs.Common.{rules}
use Rattle.vanishing.proofs.Turns.{roots_turn, roots_all, same_root, turn_ends, turn_low}
use Rattle.vanishing.proofs.vanish_at.Goals as goal

pub loop-i-preserved : goal.loop-i-preserved
loop-i-preserved c = search (rules, roots_turn, same_root, turn_ends, turn_low)

pub returns : goal.returns
returns c = search (rules, roots_all)
