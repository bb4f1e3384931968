-- `marks`: the terms that are left decide.
use Rattle.relation.specs.Tests.{mark_tests}
use Rattle.relation.proofs.Loops.{Left}
use Rattle.relation.proofs.checks.marks.Given as goal

abbrev pub invariant-loop-term : goal.invariant-loop-term
invariant-loop-term g l = Left (λ k. mark_tests l.session (g.M.HasNumber.numbered l.need)) l.term-items l.term-index
