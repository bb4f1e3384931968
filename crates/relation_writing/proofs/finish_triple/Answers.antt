-- `finish_triple` meets its contract.
use Rattle.session.specs.Sessions.{collected_triple, finished_triple}
use Rattle.session.proofs.Endings.{plainly}
use Rattle.relation_writing.proofs.Summing.{pair_of}
use Rattle.relation_writing.proofs.finish_triple.Goals as goal

pub returns : goal.returns
returns c =
    let r = c.args.term.first in
    let one = c.answer_collecting-collected.result in
    pair_of c.args.session r c.args.y_a c.args.y_b _ _
    (plainly one (collected_triple c.args.session r c.args.y_a c.args.y_b) c.args.session c.answer_collecting-collected.ensures)
    (plainly c.answer_multiplying-finished.result (finished_triple one.session r) one.session c.answer_multiplying-finished.ensures)
