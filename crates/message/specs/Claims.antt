-- Demand 1 of an opening message, with document 01's table for its tests; proved in proofs/Theorems.antt.
use Rattle.std.specs.Prelude.{ℕ, List}
use Rattle.session.specs.declared.Session.{Session}
use Rattle.session.specs.Rows.{width, row_at, coefficients}
use Rattle.session.specs.Law.{Lawful}
use Rattle.message.specs.Message.{message_answer, message_out_of}
use Rattle.message.specs.Table.{message_table}

abbrev pub MessageLawful : Type 0
MessageLawful =
    (s : Session) (rows : List ℕ) (r caller : ℕ) (out : List ℕ)
    → Lawful (message_table s rows r caller out) 0 s s (coefficients s (row_at (width s) rows r)) out
    (message_answer s rows r caller out) (message_out_of s rows r caller out)
