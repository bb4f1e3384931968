-- `barycentric::lower_half` meets its contract: the first x weights are there, and b is the last of them.
use borrow.Author.Rules.{rules}
use Rattle.barycentric.proofs.Rows.{row_first, row_start, row_next, row_at, firsts_turn, firsts_stop}
use Rattle.barycentric.proofs.lower_half.Goals as goal

pub loop-x-init : goal.loop-x-init
loop-x-init c = (search rules, search rules, search rules, row_first _, row_start _ c.args.list.now (search rules))

pub loop-x-preserved : goal.loop-x-preserved
loop-x-preserved c =
    let l = c.loop-x in
    let next =
    row_next _ l.x l.b _ _ _ (search rules) (search rules) l.invariant.3 c.before.before.negative_inverse.ensures c.mul.ensures
    c.mul-b.ensures in
    (search rules, search rules, search rules, row_at _ l.x _ next, firsts_turn _ l.list l.x _ (search rules) l.invariant.4 next)

pub returns : goal.returns
returns c = (search rules, search (rules, firsts_stop))
