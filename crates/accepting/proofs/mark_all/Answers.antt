-- `mark_all` meets its contract.
use native.Mathlib.Omega.{arith}
use lib.ListN.{length-set}
use borrow.Author.Rules.{rules}
use Rattle.accepting.proofs.Marks.{marking_more, marking_end}
use Rattle.accepting.proofs.mark_all.Goals as goal

pub loop-i-preserved : goal.loop-i-preserved
loop-i-preserved c =
    let (long, so_far) = c.loop-i.invariant in
    (search rules, marking_more _ _ _ _ _ _ _ so_far (omega (arith, long, c.loop-i-test.true)) c.mark_of.ensures)

pub returns : goal.returns
returns c =
    let (long, so_far) = c.loop-i.invariant in
    marking_end _ _ _ _ _ _ _ so_far (omega (arith, long, c.loop-i-test.false))
