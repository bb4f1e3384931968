-- `load_row_rows` meets its contract.
use mathlib.Core.Path.{sym, ◌∙◌}
use Rattle.refusal.proofs.Checks.{ok_zero}
use Rattle.load.proofs.Loading.{load_row_sized, load_row_in, load_row_long}
use Rattle.load.proofs.load_row_rows.Goals as goal

pub put_row-requires : goal.put_row-requires
put_row-requires c =
    let z = ok_zero c.args.checked (sym c.is_ok.ensures.value ∙ c.if-is_ok.true) in
    (load_row_sized _ _ _ _ _ c.requires z _ c.shape.ensures, load_row_in _ _ _ _ _ c.requires z _ c.shape.ensures, load_row_long _ _ _ _ _ c.requires z _ c.shape.ensures)
