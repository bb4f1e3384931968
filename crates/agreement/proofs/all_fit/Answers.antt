-- `agreement::all_fit` meets its contract: what is left to test decides the whole.
use Prim.Native.Nat.{◌≤◌}
use native.Mathlib.Omega.{arith}
use lib.ListN.{length}
use borrow.Author.Rules.{rules}
use Rattle.agreement.specs.Sums.{fits}
use Rattle.poly.proofs.Lists.{all_at}
use Rattle.agreement.proofs.Fitting.{tested_stop, tested_turn, tested_end, at_node}
use Rattle.agreement.proofs.all_fit.Goals as goal

pub fits-requires : goal.fits-requires
fits-requires c =
    let i = c.loop-i.i in
    let within =
    all_at (λ z. (length c.args.below.now ≤ z) × (z ≤ length c.args.inverses.now)) c.args.nodes.now i 0 (search rules) c.requires.3 in
    let z = c.wide-z.ensures in
    (c.requires.0, c.requires.1, omega (arith, within.0), omega (arith, within.1))

pub returns-then-not-fits : goal.returns-then-not-fits
returns-then-not-fits c =
    let l = c.loop-i in
    let f = c.fits in
    let tested =
    at_node (fits c.args.inverses.now c.args.above.now c.args.below.now) _ _ _ _ _ c.wide-z.ensures f.ensures
    c.if-not-fits.true in
    tested_stop _ c.args.nodes.now c.args.values.now l.i (search rules) c.requires.2 l.invariant.1 tested

pub loop-i-preserved : goal.loop-i-preserved
loop-i-preserved c =
    let l = c.loop-i in
    let f = c.fits in
    let tested =
    at_node (fits c.args.inverses.now c.args.above.now c.args.below.now) _ _ _ _ _ c.wide-z.ensures f.ensures
    c.if-not-fits.false in
    (search rules, tested_turn _ c.args.nodes.now c.args.values.now l.i (search rules) c.requires.2 l.invariant.1 tested)

pub returns : goal.returns
returns c = search (rules, tested_end)
