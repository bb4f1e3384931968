-- `barycentric::weigh_few` meets its contract: the weights of 0 and of the first i nodes stand in front.
use Prim.Native.Nat.{ℕ, ◌+◌, ◌-◌, ◌<◌}
use mathlib.Core.Path.{refl, ◌∙◌, ap}
use native.Mathlib.Omega.{arith}
use lib.ListN.{length, get_or, length-set}
use borrow.Author.Rules.{rules}
use Rattle.field.specs.Arithmetic.{product}
use Rattle.barycentric.proofs.Ascent.{rising_last, missing_small}
use Rattle.barycentric.proofs.Signs.{above_zero, above_at, gaps_fit, node_under}
use Rattle.barycentric.proofs.Zero.{missing_few}
use Rattle.barycentric.proofs.Moves.{moved_start, node_within, place_within, moved_turn, moved_end}
use Rattle.barycentric.proofs.weigh_few.Goals as goal

pub distances-requires : goal.distances-requires
distances-requires c =
    (omega arith, missing_small _ _ c.requires.0 c.requires.1 c.requires.2, c.requires.3, c.requires.4, missing_few _ _ c.requires.0 c.requires.1 c.requires.2)

pub loop-i-init : goal.loop-i-init
loop-i-init c =
    moved_start _ _ _ c.args.list.now _ _ (search rules) (search rules) (above_zero _ _ c.requires.0 c.requires.2 _ refl) c.distances.ensures

-- the numbers up to the node are at most the last
pub overflow_add-above-in-loop-i : goal.overflow_add-above-in-loop-i
overflow_add-above-in-loop-i c =
    let l = c.loop-i in
    record { fits = omega (arith, gaps_fit _ _ c.requires.0 c.requires.2 l.i (search rules) c.requires.1) }

pub overflow_sub-above : goal.overflow_sub-above
overflow_sub-above c =
    let l = c.loop-i in
    omega (arith, c.wide-x.ensures, node_under _ _ c.requires.0 c.requires.2 l.i (search rules))

-- the node's weight is in the list, and so is its new place
pub offset_bounds-list-x : goal.offset_bounds-list-x
offset_bounds-list-x c = search rules

pub bounds-list-x : goal.bounds-list-x
bounds-list-x c =
    let l = c.loop-i in
    let within = node_within _ _ _ c.args.list.now _ l.list l.i c.requires.0 c.requires.5 l.invariant (search rules) in
    omega (arith, c.wide-x.ensures)

pub bounds-list-i : goal.bounds-list-i
bounds-list-i c =
    let l = c.loop-i in
    place_within _ _ _ c.args.list.now _ l.list l.i c.requires.0 c.requires.5 l.invariant (search rules)

pub loop-i-preserved : goal.loop-i-preserved
loop-i-preserved c =
    let l = c.loop-i in
    let n = c.distances-in-loop-i in
    let entry = c.wide-x.ensures in
    moved_turn _ _ _ c.args.list.now _ l.list l.i c.requires.0 c.requires.5 l.invariant (search rules) _ n.result _
    (ap (λ (x : ℕ). length c.args.gaps.now + (l.i + 1) - x) entry ∙ above_at _ _ c.requires.0 c.requires.2 l.i (search rules)) n.ensures
    (c.mul.ensures ∙ ap (λ (k : ℕ). product (get_or l.list k 0) n.result) entry)

pub shape_of-list : goal.shape_of-list
shape_of-list c = c.loop-i.invariant.sized ∙ length-set c.args.list.now 0 _

pub distances-requires-in-loop-i : goal.distances-requires-in-loop-i
distances-requires-in-loop-i c =
    let l = c.loop-i in
    let place : l.i < length c.args.nodes.now = search rules in (
      omega (arith, rising_last 0 c.args.nodes.now l.i c.requires.0 place, c.requires.1),
      missing_small _ _ c.requires.0 c.requires.1 c.requires.2,
      c.requires.3,
      c.requires.4,
      omega (arith, gaps_fit _ _ c.requires.0 c.requires.2 l.i place c.requires.1),
    )

pub returns : goal.returns
returns c =
    moved_end _ _ _ c.args.list.now _ c.loop-i.list c.loop-i.i c.requires.0 c.requires.1 c.requires.2 c.requires.5 c.loop-i.invariant (search rules)
