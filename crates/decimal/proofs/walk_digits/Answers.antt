-- Where the walk ends, and a turn.
use Rattle.std.proofs.Common.{sym, ◌∙◌, arith}
use Rattle.decimal.proofs.Scanning.{walked_stop, walked_mul, walked_add, walked_more, walked_done}
use Rattle.decimal.proofs.walk_digits.Goals as goal

pub returns-then-not-is_ascii_digit : goal.returns-then-not-is_ascii_digit
returns-then-not-is_ascii_digit c =
    walked_stop _ _ _ _ _ c.loop-i.invariant (omega arith) (sym c.is_ascii_digit.ensures.value ∙ c.if-not-is_ascii_digit.true)

pub overflow_mul-value : goal.overflow_mul-value
overflow_mul-value c = walked_mul _ _ _ _ _ c.loop-i.invariant (omega arith)

pub overflow_add-value : goal.overflow_add-value
overflow_add-value c =
    walked_add _ _ _ _ _ c.loop-i.invariant _ (omega arith) (sym c.is_ascii_digit.ensures.value ∙ c.if-not-is_ascii_digit.false) c.from.ensures

pub loop-i-preserved : goal.loop-i-preserved
loop-i-preserved c =
    walked_more _ _ _ _ _ c.loop-i.invariant _ (omega arith) (sym c.is_ascii_digit.ensures.value ∙ c.if-not-is_ascii_digit.false) c.from.ensures

pub returns : goal.returns
returns c = walked_done _ _ _ _ _ c.loop-i.invariant (omega arith)
