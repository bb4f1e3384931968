-- `judge` meets its contract.
use native.Mathlib.Omega.{arith}
use Rattle.accepting.proofs.Marks.{marked_all}
use Rattle.accepting.proofs.judge.Goals as goal

pub returns : goal.returns
returns c = marked_all _ _ _ _ _ c.args.opening.openable.recorded.valid c.loop-h.invariant.1 (omega arith) (omega arith)
