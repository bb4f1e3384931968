-- `add_terms` meets its contract.
use mathlib.Core.Path.{◌∙◌}
use native.Mathlib.Omega.{arith}
use borrow.Author.Rules.{rules}
use Rattle.session.specs.Sessions.{shape_of}
use Rattle.terms.specs.Listed.{terms_of}
use Rattle.relation.specs.Tests.{Placed}
use Rattle.relation.proofs.Loops.{goes, gone, every_at}
use Rattle.relation_writing.proofs.Summing.{framed_kept, term_in, terms_walk}
use Rattle.relation_writing.proofs.add_terms.Goals as goal

pub add_term-requires : goal.add_term-requires
add_term-requires c = (
  framed_kept c.args.session c.args.rows.now c.loop-term.rows c.requires.0 c.loop-term.invariant.0,
  c.requires.1,
  every_at (Placed (shape_of c.args.session)) (terms_of c.args.all) c.loop-term.term-index c.loop-term-test.true c.requires.3,
)

pub loop-term-preserved : goal.loop-term-preserved
loop-term-preserved c = (
  search rules,
  goes (term_in c.args.session c.args.dest) (terms_of c.args.all) _ _ c.loop-term.term-index _ c.loop-term-test.true c.add_term.ensures
      c.loop-term.invariant.1,
)

pub returns : goal.returns
returns c =
    gone (term_in c.args.session c.args.dest) (terms_of c.args.all) _ c.loop-term.term-index _ (omega (arith, c.loop-term-test.false))
    c.loop-term.invariant.1
    ∙ terms_walk c.args.session c.args.dest 0 (terms_of c.args.all) c.args.rows.now
