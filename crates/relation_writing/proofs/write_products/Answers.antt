-- `write_products` meets its contract.
use mathlib.Core.Path.{◌∙◌}
use native.Mathlib.Omega.{arith}
use borrow.Author.Rules.{rules}
use Rattle.session.specs.Sessions.{shape_of}
use Rattle.terms.specs.Listed.{factors_of}
use Rattle.relation.specs.Tests.{Factors}
use Rattle.relation.proofs.Loops.{goes, gone, every_at}
use Rattle.relation_writing.proofs.Summing.{framed_kept, product_in, products_walk}
use Rattle.relation_writing.proofs.write_products.Goals as goal

pub write_product-requires : goal.write_product-requires
write_product-requires c = (
  framed_kept c.args.session c.args.rows.now c.loop-k.rows c.requires.0 c.loop-k.invariant.0,
  every_at (Factors (shape_of c.args.session)) (factors_of c.args.all) c.loop-k.k c.loop-k-test.true c.requires.2,
)

pub loop-k-preserved : goal.loop-k-preserved
loop-k-preserved c = (
  search rules,
  goes (product_in c.args.session c.args.opened.y_a c.args.opened.y_b) (factors_of c.args.all) _ _ c.loop-k.k _ c.loop-k-test.true
      c.write_product.ensures c.loop-k.invariant.1,
)

pub returns : goal.returns
returns c =
    gone (product_in c.args.session c.args.opened.y_a c.args.opened.y_b) (factors_of c.args.all) _ c.loop-k.k _ (omega (arith, c.loop-k-test.false))
    c.loop-k.invariant.1
    ∙ products_walk c.args.session c.args.opened.y_a c.args.opened.y_b 0 (factors_of c.args.all) c.args.rows.now
