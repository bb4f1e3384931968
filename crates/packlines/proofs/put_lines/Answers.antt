use Rattle.std.proofs.Common.{rules, refl}
use Rattle.packlines.proofs.Rising.{laid_draw_end, laid_end_fits, laid_lent, laid_row, laid_room, laid_fits, laid_more, laid_end}
use Rattle.packlines.proofs.put_lines.Goals as goal

pub put_line-at-requires : goal.put_line-at-requires
put_line-at-requires c =
    let i = c.loop-row.invariant in
    let d = c.drawn_for.ensures in (
      laid_lent _ _ _ _ _ _ _ _ _ i (search rules) _ _ refl d,
      laid_row _ _ _ _ _ _ _ _ _ i (search rules) _ _ refl d,
      laid_room _ _ _ _ _ _ _ _ _ i (search rules) _ _ refl d,
    )

pub overflow_add-at : goal.overflow_add-at
overflow_add-at c =
    laid_fits _ _ _ _ _ _ _ _ _ c.loop-row.invariant (search rules) _ _ refl c.drawn_for.ensures _ (search rules) c.put_line-at.ensures.value

pub loop-row-preserved : goal.loop-row-preserved
loop-row-preserved c =
    let w = c.put_line-at.ensures in
    laid_more _ _ _ _ _ _ _ _ _ c.loop-row.invariant (search rules) _ _ refl c.drawn_for.ensures _ _ _ w.value (search rules) (search rules) w.out_after

pub overflow_add-end : goal.overflow_add-end
overflow_add-end c = laid_end_fits _ _ _ _ _ _ _ _ _ c.loop-row.invariant (search rules) _ _ refl c.drawn_for.ensures (search rules)

pub slice_bounds-put_line-end : goal.slice_bounds-put_line-end
slice_bounds-put_line-end c = search (rules, laid_draw_end)

pub returns-clause-value : goal.returns-clause-value
returns-clause-value c = search (rules, laid_end)
