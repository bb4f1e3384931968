-- `masks` meets its contract.
use mathlib.Core.Path.{sym, ◌∙◌}
use Rattle.refusal.proofs.Checks.{ok_zero}
use Rattle.relation_masks.proofs.Masking.{masks_allowed}
use Rattle.relation_masks.proofs.masks.Goals as goal

pub write_masks-requires : goal.write_masks-requires
write_masks-requires c =
    masks_allowed c.args.session c.args.rows.now c.args.all c.args.out.now c.requires _ c.masks_checks-checked.ensures
    (ok_zero c.masks_checks-checked.result (sym c.is_ok.ensures.value ∙ c.if-is_ok.true)) _ c.shape.ensures
