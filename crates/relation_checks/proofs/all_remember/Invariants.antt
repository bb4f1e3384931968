-- `all_remember`: the terms that are left decide.
use Rattle.relation.specs.Finish.{remember_tests}
use Rattle.relation.proofs.Loops.{Left}
use Rattle.relation_checks.proofs.all_remember.Given as goal

abbrev pub invariant-loop-term : goal.invariant-loop-term
invariant-loop-term l = Left (λ k. remember_tests l.session) l.term-items l.term-index
