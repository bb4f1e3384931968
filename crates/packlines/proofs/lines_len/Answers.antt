use Rattle.std.proofs.Common.{rules, refl}
use Rattle.packlines.proofs.Rising.{draw_end, draw_end_fits, reached_more, length_fits}
use Rattle.packlines.proofs.lines_len.Goals as goal

pub overflow_add-sum : goal.overflow_add-sum
overflow_add-sum c =
    length_fits _ _ _ _ _ _ _ c.loop-row.invariant (search rules) _ _ refl c.drawn_for.ensures _ c.line_len-sum.ensures

pub loop-row-preserved : goal.loop-row-preserved
loop-row-preserved c =
    reached_more _ _ _ _ _ _ _ c.loop-row.invariant (search rules) _ _ refl c.drawn_for.ensures _ _ c.line_len-sum.ensures (search rules)

pub overflow_add-end : goal.overflow_add-end
overflow_add-end c = draw_end_fits _ _ _ _ _ _ _ c.loop-row.invariant (search rules) _ _ refl c.drawn_for.ensures (search rules)

pub slice_bounds-line_len-end : goal.slice_bounds-line_len-end
slice_bounds-line_len-end c = search (rules, draw_end)
