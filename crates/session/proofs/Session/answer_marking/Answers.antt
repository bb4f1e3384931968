-- `Session::answer_marking` meets its contract. Where the two ways meet, the list is what the way left.
use mathlib.Core.Path.{◌∙◌, ap}
use lib.ListN.{set}
use Rattle.session.proofs.Endings.{answered_by, marks_written, marks_kept}
use Rattle.session.proofs.Session.answer_marking.Goals as goal
use Rattle.session.proofs.Session.answer_marking.Goals.{then-refusal-eq0, else-refusal-eq0}

pub returns : goal.returns
returns g c =
    answered_by _ _ _ _ _ _
    (elim c.if-refusal-eq0.branch [
      | then-refusal-eq0 w ↦ marks_written _ c.args.self _ _ w.if-refusal-eq0.true (w.marks-is ∙ ap (set c.args.self.marks c.args.row) w.as_number.ensures)
      | else-refusal-eq0 w ↦ marks_kept _ c.args.self _ _ w.if-refusal-eq0.false w.marks-is
    ]) c.as_number-refusal.ensures
