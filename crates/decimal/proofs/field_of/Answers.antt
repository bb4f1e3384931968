-- How many digits there are, and which is first.
use Rattle.std.proofs.Common.{arith}
use Rattle.decimal.proofs.Scanning.{field_within, field_none, field_long, field_zero, field_digit, field_digits}
use Rattle.decimal.proofs.field_of.Goals as goal

pub bounds-line-at : goal.bounds-line-at
bounds-line-at c = field_within _ _ _ _ c.requires (omega arith)

pub returns-in-0 : goal.returns-in-0
returns-in-0 c = field_none _ _ _ _ c.requires (omega arith)

pub returns-in-1 : goal.returns-in-1
returns-in-1 c = field_digit _ _ _ _ c.requires (omega arith) (omega arith) (omega arith)

pub returns-in-2-to-10 : goal.returns-in-2-to-10
returns-in-2-to-10 c = field_digits _ _ _ _ c.requires (omega arith) (omega arith) (omega arith) (omega arith)

pub returns-in-2-to-10-2 : goal.returns-in-2-to-10-2
returns-in-2-to-10-2 c = field_zero _ _ _ _ c.requires (omega arith) (omega arith) (omega arith) (omega arith)

pub returns-in_default : goal.returns-in_default
returns-in_default c = field_long _ _ _ _ c.requires (omega arith)
