-- `numbers` meets its contract: one term's tests stop it, or the terms behind it decide.
use mathlib.Core.Path.{refl}
use borrow.Author.Rules.{rules}
use Rattle.shape.specs.Lengths.{row_length}
use Rattle.refusal.proofs.Checks.{not_zero}
use Rattle.terms.specs.Listed.{terms_of}
use Rattle.relation.specs.Masks.{mask_number_tests}
use Rattle.relation.proofs.Loops.{stops, goes_on}
use Rattle.relation.proofs.Sorts.{number_numbered}
use Rattle.relation_masks.proofs.numbers.Goals as goal

pub returns-in_err-number : goal.returns-in_err-number
returns-in_err-number c =
    let w = row_length c.args.shape in
    let rows = c.args.rows.now in
    stops (λ k. mask_number_tests w rows) (terms_of c.args.all) c.loop-term.term-index c.loop-term.invariant c.loop-term-test.true
    (number_numbered w rows) _ (search rules) (search (rules, not_zero))

pub loop-term-preserved : goal.loop-term-preserved
loop-term-preserved c =
    let w = row_length c.args.shape in
    let rows = c.args.rows.now in
    goes_on (λ k. mask_number_tests w rows) (terms_of c.args.all) c.loop-term.term-index c.loop-term.invariant c.loop-term-test.true
    (number_numbered w rows) 0 (search rules) refl
