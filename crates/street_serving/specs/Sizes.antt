-- How much room the answers have, and how long the program reads.
use Rattle.std.specs.Prelude.{ℕ, ◌*◌, ◌^◌}
use Rattle.street_answers.specs.Text.{longest_print}
use Rattle.street_chunks.specs.Sizes.{chunk_size}

-- Room for the answers to a chunk.
abbrev pub answers_room_of : ℕ
answers_room_of = longest_print * chunk_size

-- Nothing says that an input ends: no run uses up these turns.
abbrev pub all_turns : ℕ
all_turns = 2 ^ 51
