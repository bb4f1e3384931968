-- Two numbers more are written, and the chains are two powers further.
use Rattle.std.proofs.Common.{◌+◌, ◌∙◌, arith}
use Rattle.std.proofs.Math.ListN.{set, length-set}
use Rattle.poly.proofs.Turns.{powers_two, even_next, odd_next}
use Rattle.poly.proofs.powers.Goals as goal

pub loop-i-preserved : goal.loop-i-preserved
loop-i-preserved c =
    let l = c.loop-i in
    let even = even_next _ _ _ _ _ l.invariant.2 c.mul-square.ensures c.mul-y.ensures in (
      omega arith,
      length-set (set l.list l.i l.y) (l.i + 1) l.z ∙ length-set l.list l.i l.y ∙ l.invariant.1,
      odd_next _ _ _ _ _ _ l.invariant.2 c.mul-square.ensures c.mul-y.ensures c.mul-z-in-loop-i.ensures,
      powers_two _ l.list _ l.i l.y l.z _ l.invariant.1 l.invariant.3 l.invariant.2 even (omega arith),
    )
