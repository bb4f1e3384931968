-- The digits of what is left, and those already written behind them, are those of x.
use Rattle.std.proofs.Common.{◌≡◌, ◌++◌, length, drop}
use Rattle.decimal.specs.Numeral.{last_digits}
use Rattle.decimal.proofs.put_digits.Given as goal

abbrev pub invariant-loop-i : goal.invariant-loop-i
invariant-loop-i l = last_digits l.i l.rest ++ drop l.i l.part ≡ last_digits (length l.fn.part) l.x
