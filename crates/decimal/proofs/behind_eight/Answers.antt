-- A case for each place where it returns.
use Rattle.std.proofs.Common.{sym, ◌∙◌}
use Rattle.decimal.proofs.FromEight.{eight_stop, nine_mul, nine_add, behind_nine_is}
use Rattle.decimal.proofs.behind_eight.Goals as goal

pub returns-then-not-is_ascii_digit : goal.returns-then-not-is_ascii_digit
returns-then-not-is_ascii_digit c = eight_stop _ _ _ c.requires (sym c.is_ascii_digit.ensures.value ∙ c.if-not-is_ascii_digit.true)

pub overflow_mul-v : goal.overflow_mul-v
overflow_mul-v c = nine_mul _ _ _ c.requires c.args.v (sym c.is_ascii_digit.ensures.value ∙ c.if-not-is_ascii_digit.false)

pub overflow_add-v : goal.overflow_add-v
overflow_add-v c = nine_add _ _ _ c.requires _ (sym c.is_ascii_digit.ensures.value ∙ c.if-not-is_ascii_digit.false) c.from.ensures

pub behind_nine-requires : goal.behind_nine-requires
behind_nine-requires c = behind_nine_is _ _ _ c.requires _ (sym c.is_ascii_digit.ensures.value ∙ c.if-not-is_ascii_digit.false) c.from.ensures
