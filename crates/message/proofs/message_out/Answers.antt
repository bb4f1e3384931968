-- `message_out` meets its contract.
use mathlib.Core.Path.{sym, ◌∙◌}
use Rattle.refusal.proofs.Checks.{ok_zero}
use Rattle.message.proofs.Messages.{message_sized, message_in, message_long}
use Rattle.message.proofs.message_out.Goals as goal

pub message_accepted-requires : goal.message_accepted-requires
message_accepted-requires c =
    let z = ok_zero c.args.checked (sym c.is_ok.ensures.value ∙ c.if-is_ok.true) in
    (message_sized _ _ _ _ _ _ c.requires z _ c.shape.ensures, message_in _ _ _ _ _ _ c.requires z _ c.shape.ensures, message_long _ _ _ _ _ _ c.requires z _ c.shape.ensures)
