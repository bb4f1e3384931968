-- `barycentric::upper_half` meets its contract: the first x weights are there, the later ones mirrored.
use borrow.Author.Rules.{rules}
use Rattle.barycentric.proofs.Rows.{row_below, row_mirror, firsts_turn, firsts_end}
use Rattle.barycentric.proofs.upper_half.Goals as goal

pub mirrored-requires : goal.mirrored-requires
mirrored-requires c = let l = c.loop-x in row_below _ l.list l.x _ (search rules) l.invariant.3

pub loop-x-preserved : goal.loop-x-preserved
loop-x-preserved c =
    let l = c.loop-x in (
      search rules,
      search rules,
      search rules,
      firsts_turn _ l.list l.x _ (search rules) l.invariant.3
          (row_mirror _ l.list l.x _ (search rules) (search rules) l.invariant.3 c.mirrored.ensures),
    )

pub returns : goal.returns
returns c = search (rules, firsts_end)
