-- `numbers`: the terms that are left decide.
use Rattle.shape.specs.Lengths.{row_length}
use Rattle.relation.specs.Finish.{term_number_tests}
use Rattle.relation.proofs.Loops.{Left}
use Rattle.relation_checks.proofs.numbers.Given as goal

abbrev pub invariant-loop-term : goal.invariant-loop-term
invariant-loop-term l = Left (λ k. term_number_tests (row_length l.shape) l.rows) l.term-items l.term-index
