-- `barycentric::weigh_four` meets its contract: 0 and the first i nodes have gained their distances to the four.
use native.Mathlib.Omega.{arith}
use lib.ListN.{length-set}
use mathlib.Core.Path.{◌∙◌}
use borrow.Author.Rules.{rules}
use Rattle.barycentric.proofs.Ascent.{rising_last}
use Rattle.barycentric.proofs.Fours.{gap_small, few_nodes, gaining_start, gaining_room, gaining_turn, gaining_end}
use Rattle.barycentric.proofs.weigh_four.Goals as goal

pub offset_bounds-gaps-k : goal.offset_bounds-gaps-k
offset_bounds-gaps-k c = omega (arith, c.requires.1, c.well_formed)

pub bounds-gaps-k : goal.bounds-gaps-k
bounds-gaps-k c = omega (arith, c.requires.1, c.well_formed)

pub overflow_add-b : goal.overflow_add-b
overflow_add-b c = omega (arith, c.requires.1, c.well_formed)

pub offset_bounds-gaps-k-2 : goal.offset_bounds-gaps-k-2
offset_bounds-gaps-k-2 c = omega (arith, c.requires.1, c.well_formed)

pub bounds-gaps-k-2 : goal.bounds-gaps-k-2
bounds-gaps-k-2 c = omega (arith, c.requires.1, c.well_formed)

pub overflow_add-c : goal.overflow_add-c
overflow_add-c c = omega (arith, c.requires.1, c.well_formed)

pub offset_bounds-gaps-k-3 : goal.offset_bounds-gaps-k-3
offset_bounds-gaps-k-3 c = omega (arith, c.requires.1, c.well_formed)

pub bounds-gaps-k-3 : goal.bounds-gaps-k-3
bounds-gaps-k-3 c = omega (arith, c.requires.1, c.well_formed)

pub overflow_add-d : goal.overflow_add-d
overflow_add-d c = omega (arith, c.requires.1, c.well_formed)

pub offset_bounds-gaps-k-4 : goal.offset_bounds-gaps-k-4
offset_bounds-gaps-k-4 c = omega (arith, c.requires.1, c.well_formed)

pub bounds-gaps-k-4 : goal.bounds-gaps-k-4
bounds-gaps-k-4 c = omega (arith, c.requires.1, c.well_formed)

pub four-requires : goal.four-requires
four-requires c =
    let at = gap_small c.args.nodes.now c.args.gaps.now c.args.k c.args.list.now c.requires.0 in
    let room = c.requires.1 in
    (omega arith, at _ (omega arith), at _ (omega arith), at _ (omega arith), at _ (omega arith))

pub loop-i-init : goal.loop-i-init
loop-i-init c =
    gaining_start _ _ _ c.args.list.now _ _ c.requires.0 c.requires.1 (search rules) c.mul.ensures

pub bounds-list-at : goal.bounds-list-at
bounds-list-at c =
    let l = c.loop-i in
    omega (arith, gaining_room _ _ _ c.args.list.now _ c.requires.0 l.list l.i l.invariant)

pub four-requires-in-loop-i : goal.four-requires-in-loop-i
four-requires-in-loop-i c =
    let l = c.loop-i in
    let place = c.loop-i-test.true in
    let at = gap_small c.args.nodes.now c.args.gaps.now c.args.k c.args.list.now c.requires.0 in
    let room = c.requires.1 in (
      omega (arith, rising_last 0 c.args.nodes.now l.i c.requires.0.rising place, c.requires.0.within),
      at _ (omega arith),
      at _ (omega arith),
      at _ (omega arith),
      at _ (omega arith),
    )

pub bounds-list-at-in-loop-i : goal.bounds-list-at-in-loop-i
bounds-list-at-in-loop-i c =
    let l = c.loop-i in
    omega (arith, gaining_room _ _ _ c.args.list.now _ c.requires.0 l.list l.i l.invariant)

pub offset_bounds-list-at-in-loop-i : goal.offset_bounds-list-at-in-loop-i
offset_bounds-list-at-in-loop-i c =
    let l = c.loop-i in
    let place = c.loop-i-test.true in
    record { fits = omega (arith, few_nodes _ _ _ c.args.list.now c.requires.0) }

pub overflow_step-i : goal.overflow_step-i
overflow_step-i c =
    let l = c.loop-i in
    let place = c.loop-i-test.true in
    record { fits = omega (arith, few_nodes _ _ _ c.args.list.now c.requires.0) }

pub loop-i-smaller : goal.loop-i-smaller
loop-i-smaller c =
    let l = c.loop-i in
    let place = c.loop-i-test.true in
    omega arith

pub loop-i-preserved : goal.loop-i-preserved
loop-i-preserved c =
    let l = c.loop-i in
    gaining_turn _ _ _ c.args.list.now _ c.requires.0 l.list l.i l.invariant _ _ (search rules) c.requires.1 (search rules) c.mul-in-loop-i.ensures

pub shape_of-list : goal.shape_of-list
shape_of-list c = c.loop-i.invariant.sized ∙ length-set c.args.list.now 0 _

pub returns : goal.returns
returns c =
    gaining_end _ _ _ c.args.list.now _ c.requires.0 c.loop-i.list c.loop-i.i c.loop-i.invariant (search rules)
