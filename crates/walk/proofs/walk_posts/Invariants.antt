-- `walk_posts`: what is collected, and the walk from post j on, make the whole walk.
use Prim.Native.Nat.{◌<◌}
use lib.ListN.{length}
use Rattle.shape.specs.Lengths.{needed}
use Rattle.accepting.specs.Accepting.{accepts, share}
use Rattle.walk.proofs.Walks.{Walking}
use Rattle.walk.proofs.walk_posts.Given as goal

abbrev pub invariant-loop-j : goal.invariant-loop-j
invariant-loop-j l =
    let q = l.opening.party in
    let row = l.opening.row.now in
    let blocks = l.opening.blocks.now in
    (l.count < needed q.shape)
    × Walking (accepts q row blocks) (share q row blocks) q.shape.n (needed q.shape) (length l.fn.posts) (length l.fn.shares) l.posts l.shares l.count l.j
