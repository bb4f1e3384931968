-- Document 01, "Calls on a session", Open: "a record: n blocks, each a mark (0 absent, 1 present) and t+1 coefficients", points·t+1 of them. A post's
-- message is put into its block of a record, and taken out of it again.
use Rattle.std.specs.Prelude.{ℕ, ◌-◌, List, [], ◌∷◌, ◌++◌, replicate}
use Rattle.shape.specs.declared.Shape.{Shape}
use Rattle.shape.specs.Marks.{present}
use Rattle.shape.specs.Lengths.{shape, block_length, record_length, message_length}
use Rattle.refusal.specs.Refusal.{Test, ◌when◌, first, outcome}
use Rattle.refusal.specs.Conditions.{party_tests, wrong_length, any_beyond}
use Rattle.session.specs.Rows.{with_row}

-- 1 to 4, and 5 of the record.
abbrev pub place_tests : ℕ → ℕ → ℕ → List ℕ → ℕ → List Test
place_tests n t points blocks post =
    party_tests n t post points ++ (5 when wrong_length blocks (record_length (shape n t points)) ∷ [])

unfoldable pub place_refusal_of : ℕ → ℕ → ℕ → List ℕ → ℕ → ℕ
place_refusal_of n t points blocks post = first (place_tests n t points blocks post)

-- 5 and 8 of the message.
abbrev pub message_tests : ℕ → ℕ → ℕ → List ℕ → List Test
message_tests n t points message = 5 when wrong_length message (message_length (shape n t points)) ∷ 8 when any_beyond message ∷ []

abbrev pub put_tests : ℕ → ℕ → ℕ → List ℕ → ℕ → List ℕ → List Test
put_tests n t points blocks post message = place_tests n t points blocks post ++ message_tests n t points message

unfoldable pub put_refusal_of : ℕ → ℕ → ℕ → List ℕ → ℕ → List ℕ → ℕ
put_refusal_of n t points blocks post message = first (put_tests n t points blocks post message)

-- The record with another block for post j, every other number as it was.
abbrev pub with_block : Shape → ℕ → List ℕ → List ℕ → List ℕ
with_block s j block blocks = with_row (block_length s) (j - 1) block blocks

-- A present block, and an absent one.
abbrev pub block_of : List ℕ → List ℕ
block_of message = present ∷ message

abbrev pub no_block : Shape → List ℕ
no_block s = replicate (block_length s) 0

-- What the two calls leave of the record.
abbrev pub put_record : ℕ → ℕ → ℕ → List ℕ → ℕ → List ℕ → List ℕ
put_record n t points blocks post message =
    outcome (put_refusal_of n t points blocks post message) (with_block (shape n t points) post (block_of message) blocks) blocks

abbrev pub removed_record : ℕ → ℕ → ℕ → List ℕ → ℕ → List ℕ
removed_record n t points blocks post =
    outcome (place_refusal_of n t points blocks post) (with_block (shape n t points) post (no_block (shape n t points)) blocks) blocks
