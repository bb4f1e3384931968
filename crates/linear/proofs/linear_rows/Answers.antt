-- `linear_rows` meets its contract.
use mathlib.Core.Path.{sym, ◌∙◌}
use Rattle.refusal.proofs.Checks.{ok_zero}
use Rattle.linear.proofs.Combining.{linear_sized, linear_in, linear_in_a, linear_in_b}
use Rattle.linear.proofs.linear_rows.Goals as goal

pub sum_rows-requires : goal.sum_rows-requires
sum_rows-requires c =
    let z = ok_zero c.args.checked (sym c.is_ok.ensures.value ∙ c.if-is_ok.true) in
    let e = c.requires in
    let g = c.shape.ensures in
    (linear_sized _ _ _ _ _ _ _ _ e z _ g, linear_in _ _ _ _ _ _ _ _ e z _ g, linear_in_a _ _ _ _ _ _ _ _ e z _ g, linear_in_b _ _ _ _ _ _ _ _ e z _ g)
