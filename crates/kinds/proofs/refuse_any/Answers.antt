use Rattle.std.proofs.Common.{sym, ◌∙◌, arith}
use Rattle.std.proofs.lemmas.List.{take_rest}
use Rattle.kinds.proofs.Kinded.{row_found, row_passed}
use Rattle.kinds.proofs.refuse_any.Goals as goal

pub returns-then-test : goal.returns-then-test
returns-then-test g c = λ spec tells.
    row_found spec c.args.kinds.now c.loop-row.row _ (c.loop-row.invariant spec tells) _ (omega arith) (rw take_rest at (sym (tells _ _ _ _ c.test.ensures) ∙ c.if-test.true))

pub loop-row-preserved : goal.loop-row-preserved
loop-row-preserved g c = λ spec tells.
    row_passed spec c.args.kinds.now c.loop-row.row _ (c.loop-row.invariant spec tells) (omega arith) (rw take_rest at (sym (tells _ _ _ _ c.test.ensures) ∙ c.if-test.false))
