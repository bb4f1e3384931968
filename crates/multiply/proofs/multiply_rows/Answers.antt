-- `multiply::multiply_rows` meets its contract.
use mathlib.Core.Path.{◌≡◌, sym, ◌∙◌}
use Rattle.refusal.specs.Numbers.{refused}
use Rattle.refusal.proofs.Checks.{ok_zero}
use Rattle.multiply.proofs.Multiplying.{multiply_sized, multiply_in}
use Rattle.multiply.proofs.multiply_rows.Goals as goal

pub write_product-requires : goal.write_product-requires
write_product-requires c =
    let z : refused c.args.checked ≡ 0 = ok_zero c.args.checked (sym c.is_ok.ensures.value ∙ c.if-is_ok.true) in
    (multiply_sized _ _ _ _ c.requires.2 z _ c.shape.ensures, multiply_in _ _ _ _ c.requires.2 z _ c.shape.ensures)
