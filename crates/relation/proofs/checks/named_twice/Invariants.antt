-- `named_twice`: the product terms that are left decide.
use mathlib.Core.Path.{◌≡◌}
use lib.ListN.{drop}
use Rattle.relation.specs.Tests.{named_twice_of}
use Rattle.relation.proofs.checks.named_twice.Given as goal

abbrev pub invariant-loop-i : goal.invariant-loop-i
invariant-loop-i l = named_twice_of (drop l.i l.factors) ≡ named_twice_of l.factors
