-- `places` meets its contract: one term's tests stop it, or the terms behind it decide.
use mathlib.Core.Path.{refl}
use borrow.Author.Rules.{rules}
use Rattle.refusal.proofs.Checks.{not_zero}
use Rattle.relation.specs.Tests.{place_tests}
use Rattle.terms.specs.Listed.{terms_of}
use Rattle.relation.proofs.Loops.{stops, goes_on}
use Rattle.relation.proofs.Sorts.{place_numbered}
use Rattle.relation.proofs.checks.places.Goals as goal

pub returns-in_err-place : goal.returns-in_err-place
returns-in_err-place c =
    stops (λ k. place_tests) (terms_of c.args.all) c.loop-term.term-index c.loop-term.invariant c.loop-term-test.true place_numbered _ (search rules)
    (search (rules, not_zero))

pub loop-term-preserved : goal.loop-term-preserved
loop-term-preserved c =
    goes_on (λ k. place_tests) (terms_of c.args.all) c.loop-term.term-index c.loop-term.invariant c.loop-term-test.true place_numbered 0
    (search rules) refl
