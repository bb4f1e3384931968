-- `finish` meets its contract.
use Rattle.shape.specs.Marks.{held}
use Rattle.session.specs.Sessions.{marked}
use Rattle.session.proofs.Endings.{plainly, allowed_anyhow}
use Rattle.relation_finish.proofs.Opens.{finish_refused, finish_done, finish_written, finish_framed, finish_few, finish_placed, finish_factors, finish_dest, finish_96, finish_row}
use Rattle.relation_finish.proofs.finish.Goals as goal

pub write-requires : goal.write-requires
write-requires c = (
  finish_framed c.args.session c.args.rows.now c.args.all c.args.dest c.args.blocks.now c.requires c.open-opened.result c.open-opened.ensures c.if-opened-eq0.true,
  finish_few c.args.session c.args.rows.now c.args.all c.args.dest c.args.blocks.now c.requires c.open-opened.result c.open-opened.ensures c.if-opened-eq0.true,
  finish_placed c.args.session c.args.rows.now c.args.all c.args.dest c.args.blocks.now c.requires c.open-opened.result c.open-opened.ensures c.if-opened-eq0.true,
  finish_factors c.args.session c.args.rows.now c.args.all c.args.dest c.args.blocks.now c.requires c.open-opened.result c.open-opened.ensures c.if-opened-eq0.true,
  finish_dest c.args.session c.args.rows.now c.args.all c.args.dest c.args.blocks.now c.requires c.open-opened.result c.open-opened.ensures c.if-opened-eq0.true,
)

pub settle-settled-requires : goal.settle-settled-requires
settle-settled-requires c = (
  finish_few c.args.session c.args.rows.now c.args.all c.args.dest c.args.blocks.now c.requires c.open-opened.result c.open-opened.ensures c.if-opened-eq0.true,
  finish_factors c.args.session c.args.rows.now c.args.all c.args.dest c.args.blocks.now c.requires c.open-opened.result c.open-opened.ensures c.if-opened-eq0.true,
  finish_96 c.args.session c.args.rows.now c.args.all c.args.dest c.args.blocks.now c.requires c.open-opened.result c.open-opened.ensures c.if-opened-eq0.true,
)

pub answer_marking-requires : goal.answer_marking-requires
answer_marking-requires c = allowed_anyhow _ (finish_row c.args.session c.args.rows.now c.args.all c.args.dest c.args.blocks.now c.requires c.open-opened.result c.open-opened.ensures c.if-opened-eq0.true)

pub returns-then-opened-eq0-clause-value : goal.returns-then-opened-eq0-clause-value
returns-then-opened-eq0-clause-value c =
    finish_done c.args.session c.args.rows.now c.args.all c.args.dest c.args.blocks.now c.requires c.open-opened.result c.open-opened.ensures
    c.if-opened-eq0.true c.settle-settled.result _ c.settle-settled.ensures
    (plainly _ (marked c.settle-settled.result c.args.dest held) c.settle-settled.result c.answer_marking.ensures)

pub returns-then-opened-eq0-clause-rows_after : goal.returns-then-opened-eq0-clause-rows_after
returns-then-opened-eq0-clause-rows_after c =
    finish_written c.args.session c.args.rows.now c.args.all c.args.dest c.args.blocks.now c.requires c.open-opened.result c.open-opened.ensures
    c.if-opened-eq0.true _ c.write.ensures

pub returns-clause-value : goal.returns-clause-value
returns-clause-value c =
    finish_refused c.args.session c.args.rows.now c.args.all c.args.dest c.args.blocks.now c.requires c.open-opened.result c.open-opened.ensures
    c.if-opened-eq0.false _ c.answer.ensures
