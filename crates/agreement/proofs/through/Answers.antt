-- `agreement::through` meets its contract: the posts rise and the table reaches them, so that the lists have room.
use mathlib.Core.Path.{refl, sym}
use native.Mathlib.Omega.{arith}
use lib.Seq.{length-take-le}
use borrow.Author.Rules.{rules}
use Rattle.agreement.proofs.Joined.{count_in_is, end_in, gaps_in, list_in_is, above_in, below_in, parted_prepared, parted_same, parted_further, rest_all, settled_rest}
use Rattle.agreement.proofs.through.Goals as goal

ruleset steps = (rules, count_in_is, gaps_in, list_in_is, above_in, below_in)

pub overflow_add-end : goal.overflow_add-end
overflow_add-end c =
    omega (arith, end_in _ _ _ _ _ _ _ _ c.wide-last.result c.requires.0 (search rules) c.requires.1)

pub through_rising-requires : goal.through_rising-requires
through_rising-requires c =
    (search (rules, parted_prepared), parted_same _ _ _ _ c.requires.0, search (rules, parted_further, rest_all))

pub overflow_sub-missed : goal.overflow_sub-missed
overflow_sub-missed c = search steps

pub slice_bounds-through_rising-end-5 : goal.slice_bounds-through_rising-end-5
slice_bounds-through_rising-end-5 c = search steps

pub slice_bounds-through_rising-end-7 : goal.slice_bounds-through_rising-end-7
slice_bounds-through_rising-end-7 c = search steps

pub slice_bounds-through_rising-end-9 : goal.slice_bounds-through_rising-end-9
slice_bounds-through_rising-end-9 c = search steps

pub slice_bounds-through_rising-end-11 : goal.slice_bounds-through_rising-end-11
slice_bounds-through_rising-end-11 c = search steps

pub slice_bounds-through_rising-end-6 : goal.slice_bounds-through_rising-end-6
slice_bounds-through_rising-end-6 c = sym (length-take-le _ _ (search steps))

pub slice_bounds-through_rising-end-8 : goal.slice_bounds-through_rising-end-8
slice_bounds-through_rising-end-8 c = sym (length-take-le _ _ (search steps))

pub slice_bounds-through_rising-end-10 : goal.slice_bounds-through_rising-end-10
slice_bounds-through_rising-end-10 c = sym (length-take-le _ _ (search steps))

pub slice_bounds-through_rising-end-12 : goal.slice_bounds-through_rising-end-12
slice_bounds-through_rising-end-12 c = sym (length-take-le _ _ (search steps))

pub returns : goal.returns
returns c =
    let k = c.args.k in
    settled_rest _ _ _ _ _ _ _ (rest_all c.args.posts.now _ k refl) (rest_all c.args.shares.now _ k refl) c.through_rising.ensures
