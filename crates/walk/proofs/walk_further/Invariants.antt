-- `walk_further`: what is collected, and what passes from post j on, make all that it is to find.
use Rattle.accepting.specs.Accepting.{accepts, share}
use Rattle.walk.proofs.Behind.{Seeking}
use Rattle.walk.proofs.walk_further.Given as goal

abbrev pub invariant-loop-j : goal.invariant-loop-j
invariant-loop-j l =
    let q = l.opening.party in
    let row = l.opening.row.now in
    let blocks = l.opening.blocks.now in
    Seeking (accepts q row blocks) (share q row blocks) q.shape.n l.need l.last l.fn.posts l.fn.shares l.posts l.shares l.count l.j
