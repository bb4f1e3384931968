-- An opening message keeps to the law of every call.
use native.Mathlib.Omega.{arith}
use Rattle.session.specs.Rows.{width, row_at, coefficients}
use Rattle.session.proofs.Lawful.{lawful_by}
use Rattle.message.specs.Message.{message_refusal_of}
use Rattle.message.specs.Claims.{MessageLawful}
use Rattle.message.proofs.Tables.{message_table_lem}

pub message_lawful : MessageLawful
unfolding message_refusal_of
message_lawful s rows r caller out =
    lawful_by (message_table_lem s rows r caller out) (omega arith) 0 s s (coefficients s (row_at (width s) rows r)) out
