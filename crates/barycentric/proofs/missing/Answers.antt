-- `barycentric::missing` meets its contract: the numbers found, and those still missing among the nodes from i on, are all.
use native.Mathlib.Omega.{arith}
use borrow.Author.Rules.{rules}
use Rattle.barycentric.proofs.Moves.{finding_more, finding_above, finding_node, finding_gap}
use Rattle.barycentric.proofs.missing.Goals as goal

pub bounds-nodes-i : goal.bounds-nodes-i
bounds-nodes-i c = let l = c.loop-j in finding_more _ _ l.list l.i l.j (search rules) l.invariant (search rules)

-- the next number is at most the next node, so it fits
pub overflow_add-x : goal.overflow_add-x
overflow_add-x c =
    let l = c.loop-j in
    omega (arith, finding_above _ _ l.list l.i l.j (search rules) l.invariant (search rules), c.shared_slice_known-in-loop-j-1.given l.i)

pub overflow_add-x-in-loop-j : goal.overflow_add-x-in-loop-j
overflow_add-x-in-loop-j c =
    let l = c.loop-j in
    omega (arith, finding_above _ _ l.list l.i l.j (search rules) l.invariant (search rules), c.shared_slice_known-in-loop-j-1.given l.i)

pub loop-j-preserved-then-node-x : goal.loop-j-preserved-then-node-x
loop-j-preserved-then-node-x c =
    let l = c.loop-j in
    finding_node _ _ l.list l.i l.j (search rules) l.invariant (search rules) (search rules)

pub overflow_cast-list : goal.overflow_cast-list
overflow_cast-list c =
    let l = c.loop-j in
    omega (arith, finding_above _ _ l.list l.i l.j (search rules) l.invariant (search rules), c.shared_slice_known-in-loop-j-1.given l.i)

pub loop-j-preserved : goal.loop-j-preserved
loop-j-preserved c =
    let l = c.loop-j in
    finding_gap _ _ l.list l.i l.j (search rules) l.invariant (search rules) (search rules)
