-- A refused change leaves the session as it was, and one that is not the answer.
use Rattle.std.proofs.Common.{refl}
use Rattle.street_steps.proofs.Settling.{settle_old, settle_new}
use Rattle.street_steps.proofs.settle.Goals as goal

pub returns-then-answer-ne0 : goal.returns-then-answer-ne0
returns-then-answer-ne0 c = settle_old _ c.args.answer _ c.if-answer-ne0.true refl

pub returns : goal.returns
returns c = settle_new _ c.args.answer c.if-answer-ne0.false
