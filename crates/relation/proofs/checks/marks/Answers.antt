-- `marks` meets its contract: one term's tests stop it, or the terms behind it decide.
use mathlib.Core.Path.{refl}
use borrow.Author.Rules.{rules}
use Rattle.refusal.proofs.Checks.{not_zero}
use Rattle.relation.specs.Tests.{mark_tests}
use Rattle.terms.specs.Listed.{terms_of}
use Rattle.relation.proofs.Loops.{stops, goes_on}
use Rattle.relation.proofs.Sorts.{mark_numbered}
use Rattle.relation.proofs.checks.marks.Goals as goal

pub returns-in_err-mark : goal.returns-in_err-mark
returns-in_err-mark g c =
    stops (λ k. mark_tests c.args.session (g.M.HasNumber.numbered c.args.need)) (terms_of c.args.all) c.loop-term.term-index c.loop-term.invariant
    c.loop-term-test.true (mark_numbered c.args.session (g.M.HasNumber.numbered c.args.need)) _ (search rules) (search (rules, not_zero))

pub loop-term-preserved : goal.loop-term-preserved
loop-term-preserved g c =
    goes_on (λ k. mark_tests c.args.session (g.M.HasNumber.numbered c.args.need)) (terms_of c.args.all) c.loop-term.term-index c.loop-term.invariant
    c.loop-term-test.true (mark_numbered c.args.session (g.M.HasNumber.numbered c.args.need)) 0 (search rules) refl
