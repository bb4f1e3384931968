-- `judge`: the marks go by the points so far.
use mathlib.Core.Path.{◌≡◌}
use lib.ListN.{length}
use Rattle.accepting.specs.Between.{MarkedTo}
use Rattle.accepting.proofs.judge.Given as goal

abbrev pub invariant-loop-h : goal.invariant-loop-h
invariant-loop-h l =
    (length l.weights ≡ length l.fn.weights) × MarkedTo l.opening.party l.opening.row.now l.opening.blocks.now l.h l.marks
