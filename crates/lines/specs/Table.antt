-- Document 01's table, line by line, for the calls on broadcast lines: one flat list of numbered tests for each.
-- proofs/Tables.antt shows that the calls' own tests are these lists.
use Rattle.std.specs.Prelude.{ℕ, ◌+◌, ◌*◌, ◌-◌, ◌≡◌, List, [], ◌∷◌, ◌++◌, length, ltb}
use Rattle.shape.specs.Lengths.{shape, v_length, masks_length}
use Rattle.refusal.specs.Refusal.{Test, ◌when◌}
use Rattle.refusal.specs.Conditions.{outside, wrong_length, any_beyond, posts_tests, station_tests, party_tests}
use Rattle.forms.specs.Lines.{deal, opening, masks, text}
use Rattle.forms.specs.Forms.{form_of, message, is_malformed, beyond_range, line_tests}
use Rattle.lines.specs.Writing.{dealt_tests, posted_tests}

-- `room` is the length of the lent part.
abbrev pub write_deal_table : ℕ → ℕ → ℕ → ℕ → ℕ → List Test
write_deal_table n t row c room =
    1 when outside 2 255 n
    ∷ 2 when outside 1 (n - 1) t
    ∷ 6 when ltb 95 row
    ∷ 8 when ltb 2147483646 c
    ∷ 12 when ltb room (length (text (deal row c)))
    ∷ []

abbrev pub write_opening_table : ℕ → ℕ → ℕ → ℕ → ℕ → List ℕ → ℕ → List Test
write_opening_table n t points row post xs room =
    1 when outside 2 255 n
    ∷ 2 when outside 1 (n - 1) t
    ∷ 3 when outside 1 n post
    ∷ 4 when outside 1 2 points
    ∷ 5 when wrong_length xs (points * t + 1)
    ∷ 6 when ltb 95 row
    ∷ 8 when any_beyond xs
    ∷ 12 when ltb room (length (text (opening row post xs)))
    ∷ []

abbrev pub write_masks_table : ℕ → ℕ → ℕ → ℕ → ℕ → List ℕ → ℕ → List Test
write_masks_table n t points row post xs room =
    1 when outside 2 255 n
    ∷ 2 when outside 1 (n - 1) t
    ∷ 3 when outside 1 n post
    ∷ 4 when outside 1 2 points
    ∷ 5 when wrong_length xs (2 * (points * t + 1))
    ∷ 6 when ltb 93 row
    ∷ 8 when any_beyond xs
    ∷ 12 when ltb room (length (text (masks row post xs)))
    ∷ []

abbrev pub read_table : ℕ → ℕ → ℕ → List ℕ → List ℕ → List Test
read_table n t points s out =
    1 when outside 2 255 n
    ∷ 2 when outside 1 (n - 1) t
    ∷ 4 when outside 1 2 points
    ∷ 5 when wrong_length out (2 * (points * t + 1))
    ∷ 10 when is_malformed (form_of (points * t + 1) s)
    ∷ 11 when beyond_range n (message (points * t + 1) s)
    ∷ []

-- The calls' own tests are these.
pub record LineTables : Type 0 where
  pub write_deal_is : (n t row c room : ℕ) → posts_tests n t ++ dealt_tests row c room ≡ write_deal_table n t row c room
  pub write_opening_is : (n t points row post : ℕ) (xs : List ℕ) (room : ℕ)
      → party_tests n t post points ++ posted_tests 79 (v_length (shape n t points)) row post xs room ≡ write_opening_table n t points row post xs room
  pub write_masks_is : (n t points row post : ℕ) (xs : List ℕ) (room : ℕ)
      → party_tests n t post points ++ posted_tests 77 (masks_length (shape n t points)) row post xs room ≡ write_masks_table n t points row post xs room
  pub read : (n t points : ℕ) (s out : List ℕ)
      → station_tests n t points ++ (5 when wrong_length out (masks_length (shape n t points)) ∷ line_tests n (v_length (shape n t points)) s) ≡ read_table n t points s out
