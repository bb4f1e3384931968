-- `load_triple_checks` meets its contract.
use mathlib.Core.Path.{refl, sym, ◌∙◌, ap}
use Rattle.std.proofs.Common.{rules}
use Rattle.refusal.specs.Numbers.{number, refused}
use Rattle.refusal.proofs.Checks.{not_zero}
use Rattle.load.proofs.Loading.{load_triple_full}
use Rattle.load.proofs.load_triple_checks.Goals as goal

pub returns-in_err-marks : goal.returns-in_err-marks
returns-in_err-marks c =
    let e = c.in_err-marks.field-0.0 in
    let h =
    load_triple_full c.args.session c.args.rows.now c.args.row c.args.pack.now 0 0 c.in_ok-frame.ensures refl c.in_ok-load_triple_place.ensures
    (number e) refl (λ k. sym (ap refused c.in_err-marks.was) ∙ c.requires k) (not_zero e) in
    search (rules, h)
