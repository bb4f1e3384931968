-- The coefficients before this one are divided.
use Rattle.std.proofs.Common.{map, get_or}
use Rattle.field.specs.Arithmetic.{product, inverse}
use Rattle.lists.proofs.Filled.{Filled}
use Rattle.vanishing.proofs.divide.Given as goal

abbrev pub invariant-loop-c : goal.invariant-loop-c
invariant-loop-c l = Filled (map (product (inverse (get_or l.fn.list 0 0))) l.fn.list) l.fn.list l.c-index l.list
