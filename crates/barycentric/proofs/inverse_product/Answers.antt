-- `barycentric::inverse_product` meets its contract: r inverts the product over the first i numbers.
use Prim.Native.Nat.{◌+◌, ◌≤◌, ◌<◌}
use lib.ListN.{length}
use borrow.Author.Rules.{rules}
use Rattle.poly.proofs.Lists.{all_at}
use Rattle.barycentric.proofs.Moves.{inverses_start, inverses_turn_two, inverses_end, inverses_last}
use Rattle.barycentric.proofs.inverse_product.Goals as goal

ruleset turns = (rules, inverses_start, inverses_end)

pub negative_inverse-requires : goal.negative_inverse-requires
negative_inverse-requires c =
    let l = c.loop-i in
    let within = all_at (λ x. (0 < x) × (x ≤ length c.args.inverses.now)) c.args.list.now l.i 0 (search rules) c.requires.1 in
    (search rules, search rules, search rules)

pub negative_inverse-requires-in-loop-i : goal.negative_inverse-requires-in-loop-i
negative_inverse-requires-in-loop-i c =
    let l = c.loop-i in
    let within = all_at (λ x. (0 < x) × (x ≤ length c.args.inverses.now)) c.args.list.now (l.i + 1) 0 (search rules) c.requires.1 in
    (search rules, search rules, search rules)

pub loop-i-preserved : goal.loop-i-preserved
loop-i-preserved c =
    let l = c.loop-i in
    let first = c.wide-x.ensures in
    let second = c.wide-y.ensures in (
      search rules,
      inverses_turn_two _ l.i l.r _ _ _ _ (search rules) l.invariant.1 (rw first at c.before.before.before.negative_inverse.ensures)
          (rw second at c.negative_inverse-in-loop-i.ensures) c.mul.ensures c.mul-r.ensures,
    )

pub negative_inverse-requires-2 : goal.negative_inverse-requires-2
negative_inverse-requires-2 c =
    let l = c.loop-i in
    let within = all_at (λ x. (0 < x) × (x ≤ length c.args.inverses.now)) c.args.list.now l.i 0 (search rules) c.requires.1 in
    (search rules, search rules, search rules)

pub returns : goal.returns
returns c =
    let l = c.loop-i in
    let last = c.wide.ensures in
    inverses_last _ l.i l.r _ _ (search rules) (search rules) l.invariant.1 (rw last at c.negative_inverse-2.ensures) c.mul-2.ensures

pub loop-i-init : goal.loop-i-init
loop-i-init c = search (rules, inverses_start)
