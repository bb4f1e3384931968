-- `collect_checks` meets its contract.
use mathlib.Core.Path.{refl}
use borrow.Author.Rules.{rules}
use Rattle.refusal.proofs.Checks.{not_zero}
use Rattle.collect.proofs.Finishing.{checks_stopped, checks_misplaced, checks_done}
use Rattle.collect.proofs.collect_checks.Goals as goal

pub returns-in_err-frame : goal.returns-in_err-frame
returns-in_err-frame c =
    checks_stopped c.args.session c.args.rows.now c.args.row c.args.record_a.now c.args.record_b.now _ (search rules) (search (rules, not_zero))

pub returns-in_err-collect_place : goal.returns-in_err-collect_place
returns-in_err-collect_place c =
    checks_misplaced c.args.session c.args.rows.now c.args.row c.args.record_a.now c.args.record_b.now 0 (search rules) refl _ (search rules)
    (search (rules, not_zero))

pub returns : goal.returns
returns c =
    checks_done c.args.session c.args.rows.now c.args.row c.args.record_a.now c.args.record_b.now 0 (search rules) refl 0 (search rules) refl _
    c.collect_own.ensures
