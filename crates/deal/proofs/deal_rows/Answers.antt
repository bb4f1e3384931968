-- `deal_rows` meets its contract.
use mathlib.Core.Path.{sym, ◌∙◌}
use Rattle.refusal.proofs.Checks.{ok_zero}
use Rattle.deal.proofs.Dealing.{deal_sized, deal_in}
use Rattle.deal.proofs.deal_rows.Goals as goal

pub add_to_sums-requires : goal.add_to_sums-requires
add_to_sums-requires c =
    let z = ok_zero c.args.checked (sym c.is_ok.ensures.value ∙ c.if-is_ok.true) in
    (deal_sized _ _ _ _ _ c.requires z _ c.shape.ensures, deal_in _ _ _ _ _ c.requires z _ c.shape.ensures)
