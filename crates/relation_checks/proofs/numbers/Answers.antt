-- `numbers` meets its contract: one term's tests stop it, or the terms behind it decide.
use mathlib.Core.Path.{refl}
use borrow.Author.Rules.{rules}
use Rattle.shape.specs.Lengths.{row_length}
use Rattle.refusal.proofs.Checks.{not_zero}
use Rattle.terms.specs.Listed.{terms_of}
use Rattle.relation.specs.Finish.{term_number_tests}
use Rattle.relation.proofs.Loops.{stops, goes_on}
use Rattle.relation.proofs.Numbering.{term_numbered}
use Rattle.relation_checks.proofs.numbers.Goals as goal

pub returns-in_err-number : goal.returns-in_err-number
returns-in_err-number c =
    stops (λ k. term_number_tests (row_length c.args.shape) c.args.rows.now) (terms_of c.args.all) c.loop-term.term-index c.loop-term.invariant c.loop-term-test.true (term_numbered (row_length c.args.shape) c.args.rows.now) _ (search rules) (search (rules, not_zero))

pub loop-term-preserved : goal.loop-term-preserved
loop-term-preserved c =
    goes_on (λ k. term_number_tests (row_length c.args.shape) c.args.rows.now) (terms_of c.args.all) c.loop-term.term-index c.loop-term.invariant c.loop-term-test.true (term_numbered (row_length c.args.shape) c.args.rows.now) 0 (search rules) refl
