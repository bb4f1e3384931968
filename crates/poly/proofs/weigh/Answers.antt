-- One part more is added.
use Rattle.std.proofs.Common.{arith}
use Rattle.field.proofs.Modular.{sum_below}
use Rattle.poly.proofs.Turns.{weighted_turn}
use Rattle.poly.proofs.weigh.Goals as goal

pub loop-i-preserved : goal.loop-i-preserved
loop-i-preserved c =
    let l = c.loop-i in (
      omega arith,
      rw c.add-r.ensures (sum_below _ _),
      weighted_turn _ _ l.i c.min.result c.min-m.result l.r _ _ (omega arith) (omega arith) (omega arith) (omega arith) l.invariant.2
          c.weigh_part.ensures c.add-r.ensures,
    )
