-- `finish_checks` meets its contract.
use mathlib.Core.Path.{refl}
use borrow.Author.Rules.{rules}
use Rattle.refusal.proofs.Checks.{not_zero}
use Rattle.relation_checks.proofs.Finishing.{checks_stopped, checks_unsized, checks_done}
use Rattle.relation_checks.proofs.finish_checks.Goals as goal

pub returns-in_err-frame : goal.returns-in_err-frame
returns-in_err-frame c =
    checks_stopped c.args.session c.args.rows.now c.args.all c.args.dest c.args.blocks.now _ (search rules) (search (rules, not_zero))

pub returns-in_err-sizes : goal.returns-in_err-sizes
returns-in_err-sizes c =
    checks_unsized c.args.session c.args.rows.now c.args.all c.args.dest c.args.blocks.now 0 (search rules) refl _ (search rules)
    (search (rules, not_zero))

pub returns : goal.returns
returns c =
    checks_done c.args.session c.args.rows.now c.args.all c.args.dest c.args.blocks.now 0 (search rules) refl 0 (search rules) refl _
    c.own_checks.ensures
