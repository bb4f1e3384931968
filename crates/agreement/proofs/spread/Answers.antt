-- `agreement::spread` meets its contract: both lists have the numbers of 0 and of the first i nodes.
use Prim.Native.Nat.{◌≤◌, ◌<◌}
use mathlib.Core.Path.{sym, ◌∙◌}
use native.Mathlib.Omega.{arith}
use lib.ListN.{length}
use borrow.Author.Rules.{rules}
use Rattle.agreement.proofs.Scatter.{scattered_start, scattered_turn, scattered_end, weight_first, weight_next, top_first, top_next, bottom_gap, top_gap, node_in, weight_in}
use Rattle.agreement.proofs.spread.Goals as goal

pub loop-i-init : goal.loop-i-init
loop-i-init c = (
  omega (arith, c.requires.2.sized),
  scattered_start _ _ c.args.above.now _ _ (omega (arith, c.requires.2.sized)) c.requires.1.zeros (top_first _ _ _ _ c.requires.0 _ c.mul.ensures),
  scattered_start _ _ c.args.below.now _ _ (omega (arith, c.requires.2.sized)) c.requires.2.zeros (weight_first _ _ _ _ c.requires.0),
)

pub overflow_sub-at : goal.overflow_sub-at
overflow_sub-at c =
    let l = c.loop-i in
    omega (arith, c.wide.ensures, l.invariant.0, node_in _ _ _ _ c.requires.0 l.i (search rules))

pub offset_bounds-weights-i : goal.offset_bounds-weights-i
offset_bounds-weights-i c =
    let l = c.loop-i in
    let place = weight_in _ _ _ _ c.requires.0 l.i (search rules) in
    search rules

pub bounds-weights-i : goal.bounds-weights-i
bounds-weights-i c =
    let l = c.loop-i in
    weight_in _ _ _ _ c.requires.0 l.i (search rules)

pub offset_bounds-below-at : goal.offset_bounds-below-at
offset_bounds-below-at c = omega (arith, c.requires.2.sized, c.requires.0.low)

pub bounds-below-at : goal.bounds-below-at
bounds-below-at c = let l = c.loop-i in omega (arith, c.requires.2.sized, l.invariant.2.sized)

pub bounds-values-i : goal.bounds-values-i
bounds-values-i c = search rules

pub offset_bounds-above-at : goal.offset_bounds-above-at
offset_bounds-above-at c = omega (arith, c.requires.2.sized, c.requires.0.low)

pub bounds-above-at : goal.bounds-above-at
bounds-above-at c = let l = c.loop-i in omega (arith, c.requires.2.sized, l.invariant.1.sized)

pub loop-i-preserved : goal.loop-i-preserved
loop-i-preserved c =
    let l = c.loop-i in
    let node = c.wide.ensures in
    let inside : l.i < length c.args.nodes.now = search rules in (
      l.invariant.0,
      scattered_turn _ _ l.above l.i _ _ _ c.requires.0.rising (λ x b d. top_gap _ _ _ _ c.requires.0 l.i x inside b d) l.invariant.0 node l.invariant.1 inside
          (top_next _ _ _ _ c.requires.0 l.i _ inside c.mul-in-loop-i.ensures),
      scattered_turn _ _ l.below l.i _ _ _ c.requires.0.rising (λ x b d. bottom_gap _ _ _ _ c.requires.0 l.i x inside b d) l.invariant.0 node l.invariant.2 inside
          (weight_next _ _ _ _ c.requires.0 l.i inside),
    )

pub shape_of-above : goal.shape_of-above
shape_of-above c = c.loop-i.invariant.1.sized ∙ sym c.requires.1.sized

pub shape_of-below : goal.shape_of-below
shape_of-below c = c.loop-i.invariant.2.sized ∙ sym c.requires.2.sized

pub returns : goal.returns
returns c =
    let l = c.loop-i in
    let all : length c.args.nodes.now ≤ l.i = search rules in
    (scattered_end _ _ l.above l.i l.invariant.1 all, scattered_end _ _ l.below l.i l.invariant.2 all)
