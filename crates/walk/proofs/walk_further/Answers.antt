-- `walk_further` meets its contract.
use native.Mathlib.Omega.{arith}
use Rattle.walk.proofs.Behind.{seeking_take, seeking_skip, party_sought}
use Rattle.walk.proofs.walk_further.Goals as goal
use Rattle.walk.proofs.walk_further.Goals.{then-accepts, else-accepts}

pub loop-j-preserved : goal.loop-j-preserved
loop-j-preserved c =
    let l = c.loop-j in
    elim c.if-accepts.branch [
      | then-accepts w ↦ seeking_take _ _ _ _ _ _ _ l.posts _ l.shares _ l.count _ l.j _ _ l.invariant (omega arith) c.accepts.ensures w.if-accepts.true w.share.ensures w.posts-is w.shares-is w.count-is
      | else-accepts w ↦ seeking_skip _ _ _ _ _ _ _ l.posts _ l.shares _ l.count _ l.j _ l.invariant (omega arith) c.accepts.ensures w.if-accepts.false w.posts-is w.shares-is w.count-is
    ]

pub returns : goal.returns
returns c = party_sought _ _ _ _ _ _ _ _ _ _ _ c.loop-j.invariant (omega arith)
