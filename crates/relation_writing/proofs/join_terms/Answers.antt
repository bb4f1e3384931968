-- `join_terms` meets its contract.
use mathlib.Core.Path.{◌∙◌}
use native.Mathlib.Omega.{arith}
use borrow.Author.Rules.{rules}
use Rattle.terms.specs.Listed.{terms_of}
use Rattle.relation.proofs.Loops.{goes, gone}
use Rattle.relation_writing.proofs.Summing.{share_in, shares_walk}
use Rattle.relation_writing.proofs.join_terms.Goals as goal

pub loop-term-preserved : goal.loop-term-preserved
loop-term-preserved c = (
  search rules,
  goes (share_in c.args.dest) (terms_of c.args.all) _ _ c.loop-term.term-index _ c.loop-term-test.true c.share_term.ensures
      c.loop-term.invariant.1,
)

pub returns : goal.returns
returns c =
    gone (share_in c.args.dest) (terms_of c.args.all) _ c.loop-term.term-index _ (omega (arith, c.loop-term-test.false)) c.loop-term.invariant.1
    ∙ shares_walk c.args.dest 0 (terms_of c.args.all) c.args.sets.now
