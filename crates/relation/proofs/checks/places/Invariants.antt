-- `places`: the terms that are left decide.
use Rattle.relation.specs.Tests.{place_tests}
use Rattle.relation.proofs.Loops.{Left}
use Rattle.relation.proofs.checks.places.Given as goal

abbrev pub invariant-loop-term : goal.invariant-loop-term
invariant-loop-term l = Left (λ k. place_tests) l.term-items l.term-index
