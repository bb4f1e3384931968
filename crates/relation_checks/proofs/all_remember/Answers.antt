-- `all_remember` meets its contract: one term's tests stop it, or the terms behind it decide.
use mathlib.Core.Path.{refl}
use borrow.Author.Rules.{rules}
use Rattle.refusal.proofs.Checks.{not_zero}
use Rattle.session.specs.Sessions.{shape_of}
use Rattle.terms.specs.Listed.{factors_of}
use Rattle.relation.specs.Tests.{Factors}
use Rattle.relation.specs.Finish.{remember_tests}
use Rattle.relation.proofs.Loops.{stops, goes_on, every_at}
use Rattle.relation.proofs.Numbering.{remember_numbered}
use Rattle.relation_checks.proofs.all_remember.Goals as goal

pub returns-in_err-remembers : goal.returns-in_err-remembers
returns-in_err-remembers c =
    stops (λ k. remember_tests c.args.session) (factors_of c.args.all) c.loop-term.term-index c.loop-term.invariant c.loop-term-test.true (remember_numbered c.args.session) _ (search rules) (search (rules, not_zero))

pub loop-term-preserved : goal.loop-term-preserved
loop-term-preserved c =
    goes_on (λ k. remember_tests c.args.session) (factors_of c.args.all) c.loop-term.term-index c.loop-term.invariant c.loop-term-test.true (remember_numbered c.args.session) 0 (search rules) refl

pub remembers-requires : goal.remembers-requires
remembers-requires c =
    (every_at (Factors (shape_of c.args.session)) (factors_of c.args.all) c.loop-term.term-index c.loop-term-test.true c.requires.1).triple_in.triple_in
