-- `finish_triples` meets its contract.
use mathlib.Core.Path.{◌∙◌}
use native.Mathlib.Omega.{arith}
use Rattle.session.specs.Sessions.{shape_of}
use Rattle.terms.specs.Listed.{factors_of}
use Rattle.relation.specs.Tests.{Factors}
use Rattle.relation.proofs.Loops.{goes, gone, every_at}
use Rattle.relation_writing.proofs.Summing.{finish_in, finished_walk}
use Rattle.relation_writing.proofs.finish_triples.Goals as goal

pub finish_triple-now-requires : goal.finish_triple-now-requires
finish_triple-now-requires c =
    (every_at (Factors (shape_of c.args.session)) (factors_of c.args.all) c.loop-k.k c.loop-k-test.true c.requires.1).triple_in.triple_in

pub loop-k-preserved : goal.loop-k-preserved
loop-k-preserved c =
    goes (finish_in c.args.opened.y_a c.args.opened.y_b) (factors_of c.args.all) _ _ c.loop-k.k _ c.loop-k-test.true c.finish_triple-now.ensures
    c.loop-k.invariant

pub returns : goal.returns
returns c =
    gone (finish_in c.args.opened.y_a c.args.opened.y_b) (factors_of c.args.all) _ c.loop-k.k _ (omega (arith, c.loop-k-test.false))
    c.loop-k.invariant
    ∙ finished_walk c.args.opened.y_a c.args.opened.y_b 0 (factors_of c.args.all) c.args.session
