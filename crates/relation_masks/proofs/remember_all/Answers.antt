-- `remember_all` meets its contract.
use mathlib.Core.Path.{◌∙◌}
use native.Mathlib.Omega.{arith}
use Rattle.session.specs.Sessions.{shape_of}
use Rattle.terms.specs.Listed.{factors_of}
use Rattle.relation.specs.Tests.{Factors}
use Rattle.relation.proofs.Loops.{goes, gone, every_at}
use Rattle.relation_masks.proofs.Remembering.{remember_in, masked_walk, in_range}
use Rattle.relation_masks.proofs.remember_all.Goals as goal

pub remember-now-requires : goal.remember-now-requires
remember-now-requires c =
    in_range (shape_of c.args.session) _
    (every_at (Factors (shape_of c.args.session)) (factors_of c.args.all) c.loop-term.term-index c.loop-term-test.true c.requires.1)

pub loop-term-preserved : goal.loop-term-preserved
loop-term-preserved c =
    goes remember_in (factors_of c.args.all) _ _ c.loop-term.term-index _ c.loop-term-test.true c.remember-now.ensures c.loop-term.invariant

pub returns : goal.returns
returns c =
    gone remember_in (factors_of c.args.all) _ c.loop-term.term-index _ (omega (arith, c.loop-term-test.false)) c.loop-term.invariant
    ∙ masked_walk 0 c.args.session (factors_of c.args.all)
