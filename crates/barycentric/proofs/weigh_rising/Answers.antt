-- `barycentric::weigh_rising` meets its contract.
use mathlib.Core.Path.{refl}
use native.Mathlib.Omega.{arith}
use borrow.Author.Rules.{rules}
use Rattle.barycentric.proofs.Zero.{gaps_none, weights_all, gap_count, row_length_is, row_of_last}
use Rattle.barycentric.proofs.weigh_rising.Goals as goal

pub returns-else-not-is_empty : goal.returns-else-not-is_empty
returns-else-not-is_empty c =
    let row = c.binomials.ensures in (
      gaps_none c.args.nodes.now c.args.gaps.now c.requires.rising (search rules) c.requires.gap_room,
      weights_all c.args.nodes.now c.args.gaps.now c.requires.rising (search rules) c.requires.gap_room _ _ c.requires.room row,
    )

pub weigh_gaps-requires : goal.weigh_gaps-requires
weigh_gaps-requires c =
    let row = c.binomials.ensures in (
      c.requires.rising,
      omega (arith, c.requires.within, c.requires.table.short),
      gap_count _ _ _ _ c.requires,
      omega (arith, row_length_is _ _ _ _ c.requires _ _ refl row),
      row_of_last _ _ _ _ c.requires _ _ refl row,
    )
