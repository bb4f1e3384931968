-- `product_masks::masks_out` meets its contract.
use mathlib.Core.Path.{sym, ◌∙◌}
use Rattle.refusal.proofs.Checks.{ok_zero}
use Rattle.product_masks.proofs.Masking.{masks_allowed}
use Rattle.product_masks.proofs.masks_out.Goals as goal

pub masks_accepted-requires : goal.masks_accepted-requires
masks_accepted-requires c =
    masks_allowed _ _ _ _ _ _ _ c.requires (ok_zero c.args.checked (sym c.is_ok.ensures.value ∙ c.if-is_ok.true)) _ c.shape.ensures
