-- `open` meets its contract.
use mathlib.Core.Path.{sym, ◌∙◌}
use Rattle.refusal.proofs.Checks.{ok_zero, err_not_zero}
use Rattle.relation_checks.proofs.Finishing.{checks_allowed}
use Rattle.relation_finish.proofs.Opens.{terms_unopened, terms_opened}
use Rattle.relation_finish.proofs.open.Goals as goal

pub open_terms-requires : goal.open_terms-requires
open_terms-requires c =
    let h = checks_allowed c.args.session c.args.rows.now c.args.all c.args.dest c.args.blocks.now c.requires _
    c.finish_checks-checked.ensures (ok_zero c.finish_checks-checked.result (sym c.is_ok.ensures.value ∙ c.if-is_ok.true)) in
    (h.0, h.1, h.3, h.5)

pub returns-then-is_ok : goal.returns-then-is_ok
returns-then-is_ok c =
    terms_opened c.args.session c.args.rows.now c.args.all c.args.dest c.args.blocks.now _ c.finish_checks-checked.ensures
    (ok_zero c.finish_checks-checked.result (sym c.is_ok.ensures.value ∙ c.if-is_ok.true)) _ c.open_terms.ensures

pub returns : goal.returns
returns c =
    terms_unopened c.args.session c.args.rows.now c.args.all c.args.dest c.args.blocks.now _ c.finish_checks-checked.ensures
    (err_not_zero c.finish_checks-checked.result (sym c.is_ok.ensures.value ∙ c.if-is_ok.false)) _ c.unopened.ensures
