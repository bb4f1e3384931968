-- `Session::answer_multiplying` meets its contract. Where the two ways meet, the lists are what the way left.
use mathlib.Core.Path.{◌∙◌}
use Rattle.session.specs.Sessions.{finished_triple}
use Rattle.session.proofs.Sharing.{made_of}
use Rattle.session.proofs.Endings.{answered_by, made_accepted, made_refused}
use Rattle.session.proofs.Session.answer_multiplying.Goals as goal
use Rattle.session.proofs.Session.answer_multiplying.Goals.{then-refusal-eq0, else-refusal-eq0}

pub returns : goal.returns
returns g c =
    let new = finished_triple c.args.self c.args.first in
    answered_by _ _ _ _ _ _
    (elim c.if-refusal-eq0.branch [
      | then-refusal-eq0 w ↦ made_accepted _ new c.args.self _ w.if-refusal-eq0.true (made_of c.args.self _ _ _ _ w.marks-is (w.barred-is ∙ w.share.ensures))
      | else-refusal-eq0 w ↦ made_refused _ new c.args.self _ w.if-refusal-eq0.false (made_of c.args.self _ _ _ _ w.marks-is w.barred-is)
    ]) c.as_number-refusal.ensures
