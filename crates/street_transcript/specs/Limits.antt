-- What a call on bytes is refused for before it looks at them.
use Rattle.std.specs.Prelude.{ℕ, ◌+◌, ◌*◌, List, [], ◌∷◌, length, ltb}
use Rattle.refusal.specs.Refusal.{Test, ◌when◌, first, or_else}
use Rattle.refusal.specs.Conditions.{wrong_length}
use Rattle.street_steps.specs.Stepping.{room_refusal_of}
use Rattle.street_feeds.specs.declared.Feed.{Feed}
use Rattle.street_answers.specs.Text.{longest_print}
use Rattle.street_splitting.specs.Lines.{kept_length}

-- The largest number of a line.
abbrev pub last_number : ℕ
last_number = 18446744073709551615

-- 5: the lent line, its bytes that count, the room for k answers more. 11: the number of a line that k bytes may end is above
-- the largest of 64 bits.
abbrev pub feed_tests : Feed → List ℕ → List ℕ → ℕ → List Test
feed_tests f line out k =
    5 when wrong_length line kept_length ∷ 5 when ltb kept_length f.len ∷ 5 when ltb (length out) (f.at + longest_print * k)
    ∷ 11 when ltb last_number (f.number + k) ∷ []

-- 1, 2 and 5 as a step has them, then these.
unfoldable pub feed_refusal_of : Feed → List ℕ → List ℕ → List ℕ → ℕ → ℕ
feed_refusal_of f store line out k = or_else (room_refusal_of f.state store) (first (feed_tests f line out k))
