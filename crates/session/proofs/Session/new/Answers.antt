-- `Session::new` meets its contract.
use Rattle.session.proofs.Endings.{new_made}
use Rattle.session.proofs.Session.new.Goals as goal

pub returns : goal.returns
returns c =
    new_made _ _ _ _ _ _ _ _ _ _ _ _ _ _ c.answer.ensures c.empty.ensures c.unless.ensures c.unless-2.ensures c.unless-3.ensures c.unless-4.ensures
    c.unless-5.ensures c.as_many.ensures c.settings-checked.ensures
