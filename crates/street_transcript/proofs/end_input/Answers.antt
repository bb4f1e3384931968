-- There is room for the bytes where they are not refused.
use Rattle.std.proofs.Common.{sym, refl}
use Rattle.street_transcript.proofs.Admitting.{none_open, is_closing}
use Rattle.street_transcript.proofs.end_input.Goals as goal

pub take_lines-requires : goal.take_lines-requires
take_lines-requires c = (none_open _ _ _ _ _ 0 c.in_ok-open_refusal.ensures refl, is_closing _)
