-- The digits so far, and those of what stands in front of them, are x's (`Counted`).
use Rattle.street_answers.proofs.Counting.{Counted}
use Rattle.street_answers.proofs.long_size.Given as goal

abbrev pub invariant-loop-front : goal.invariant-loop-front
invariant-loop-front l = Counted l.x l.count l.front

abbrev pub decreases-loop-front : goal.decreases-loop-front
decreases-loop-front l = l.front
