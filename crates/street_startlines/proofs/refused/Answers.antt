-- `refused` meets its contract.
use Rattle.street_startlines.proofs.Settings.{refused_is}
use Rattle.street_startlines.proofs.refused.Goals as goal

pub returns : goal.returns
returns c = refused_is _ _ _ c.new-unmade.ensures c.answer.ensures
