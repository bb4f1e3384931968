-- `load_triple_rows` meets its contract.
use mathlib.Core.Path.{sym, ◌∙◌}
use Rattle.refusal.proofs.Checks.{ok_zero}
use Rattle.load.proofs.Loading.{load_triple_sized, load_triple_in, load_triple_long}
use Rattle.load.proofs.load_triple_rows.Goals as goal

pub load_triple_accepted-requires : goal.load_triple_accepted-requires
load_triple_accepted-requires c =
    let z = ok_zero c.args.checked (sym c.is_ok.ensures.value ∙ c.if-is_ok.true) in
    (load_triple_sized _ _ _ _ _ c.requires z _ c.shape.ensures, load_triple_in _ _ _ _ _ c.requires z _ c.shape.ensures, load_triple_long _ _ _ _ _ c.requires z _ c.shape.ensures)
