-- `checks::wrong_marks` meets its contract.
use Rattle.std.specs.Prelude.{◌+◌}
use Rattle.refusal.specs.Refusal.{◌when◌}
use Rattle.refusal.proofs.Checks.{three_asked}
use Rattle.session.specs.Checks.{wrong_mark_in}
use Rattle.session.proofs.checks.wrong_marks.Goals as goal

pub returns : goal.returns
returns g c =
    let marks = c.args.marks.now in
    let row = c.args.row in
    three_asked (7 when wrong_mark_in marks row (g.A.HasNumber.numbered c.args.a)) (7 when wrong_mark_in marks (row + 1) (g.B.HasNumber.numbered c.args.b)) _ _ _
    c.wrong_mark.ensures c.wrong_mark-2.ensures c.and.ensures (7 when wrong_mark_in marks (row + 2) (g.C.HasNumber.numbered c.args.c)) _ _
    c.wrong_mark-3.ensures c.and-2.ensures tt
