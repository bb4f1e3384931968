-- `openings::open_terms` meets its contract.
use mathlib.Core.Path.{◌≡◌, ◌∙◌, ap}
use native.Mathlib.Omega.{arith}
use lib.ListN.{length}
use lib.Seq.{length-take-le}
use borrow.Author.Rules.{rules}
use Rattle.session.specs.Sessions.{shape_of}
use Rattle.terms.specs.Listed.{most_terms, factors_of}
use Rattle.relation.specs.Tests.{Factors}
use Rattle.relation.proofs.Loops.{walked, goes, gone, every_at}
use Rattle.relation_checks.proofs.Pairs.{pair_in}
use Rattle.relation_finish.specs.Steps.{with_opened, unopened}
use Rattle.relation_finish.proofs.Kept.{opened_walk}
use Rattle.relation_finish.proofs.openings.open_terms.Goals as goal

pub loop-k-init : goal.loop-k-init
loop-k-init c = ap (walked (with_opened c.args.session c.args.rows.now c.args.blocks.now) 0 (factors_of c.args.all)) c.unopened-opened.ensures

pub open_term-opened-requires : goal.open_term-opened-requires
open_term-opened-requires c =
    let q = c.loop-k in
    let k : length c.args.all.factors ≡ most_terms = search rules in
    let m : length (factors_of c.args.all) ≡ c.args.all.products = length-take-le _ _ (omega (arith, c.requires.1.products_in)) in (
      c.requires.0,
      pair_in c.args.session c.args.blocks.now c.args.all.products q.k c.requires.0.sized.valid c.requires.1.products_in
          (omega (arith, m, c.loop-k-test.true)) c.requires.3,
      every_at (Factors (shape_of c.args.session)) (factors_of c.args.all) q.k c.loop-k-test.true c.requires.2,
    )

pub loop-k-preserved : goal.loop-k-preserved
loop-k-preserved c =
    goes (with_opened c.args.session c.args.rows.now c.args.blocks.now) (factors_of c.args.all) _ _ c.loop-k.k _ c.loop-k-test.true
    c.open_term-opened.ensures c.loop-k.invariant

pub returns : goal.returns
returns c =
    gone (with_opened c.args.session c.args.rows.now c.args.blocks.now) (factors_of c.args.all) _ c.loop-k.k _ (omega (arith, c.loop-k-test.false))
    c.loop-k.invariant
    ∙ opened_walk c.args.session c.args.rows.now c.args.blocks.now 0 (factors_of c.args.all) unopened
