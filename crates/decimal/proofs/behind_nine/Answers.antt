-- A case for each place where it returns.
use Rattle.std.proofs.Common.{sym, ◌∙◌}
use Rattle.decimal.proofs.FromEight.{nine_stop, ten_mul, ten_add, ten_last, ten_stop, too_many}
use Rattle.decimal.proofs.behind_nine.Goals as goal
use Rattle.decimal.proofs.behind_nine.Goals.{else-end-line-via-then-end-line+else-is_ascii_digit, else-end-line-via-else-end-line}

pub returns-then-not-is_ascii_digit : goal.returns-then-not-is_ascii_digit
returns-then-not-is_ascii_digit c = nine_stop _ _ _ c.requires (sym c.is_ascii_digit.ensures.value ∙ c.if-not-is_ascii_digit.true)

pub overflow_mul-value : goal.overflow_mul-value
overflow_mul-value c = ten_mul _ _ _ c.requires c.args.v (sym c.is_ascii_digit.ensures.value ∙ c.if-not-is_ascii_digit.false)

pub overflow_add-value : goal.overflow_add-value
overflow_add-value c = ten_add _ _ _ c.requires _ (sym c.is_ascii_digit.ensures.value ∙ c.if-not-is_ascii_digit.false) c.from.ensures

pub returns-then-is_ascii_digit : goal.returns-then-is_ascii_digit
returns-then-is_ascii_digit c =
    too_many _ _ _ c.requires _ (sym c.is_ascii_digit.ensures.value ∙ c.if-not-is_ascii_digit.false) c.from.ensures c.if-end-line.true
    (sym c.is_ascii_digit-then-end-line.ensures.value ∙ c.if-is_ascii_digit.true)

pub returns : goal.returns
returns c =
    let digit = sym c.is_ascii_digit.ensures.value ∙ c.if-not-is_ascii_digit.false in
    elim c.else-end-line.branch [
      | else-end-line-via-then-end-line+else-is_ascii_digit w ↦ ten_stop _ _ _ c.requires _ digit c.from.ensures w.if-end-line.true (sym w.is_ascii_digit-then-end-line.ensures.value ∙ w.if-is_ascii_digit.false)
      | else-end-line-via-else-end-line w ↦ ten_last _ _ _ c.requires _ digit c.from.ensures w.if-end-line.false
    ]
