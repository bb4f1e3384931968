-- Writing a pack file: which refusal, and what a call leaves.
use Rattle.std.specs.Prelude.{ℕ, ◌-◌, List, [], ◌∷◌, ◌++◌, ltb, length}
use Rattle.shape.specs.declared.Shape.{Shape}
use Rattle.shape.specs.Bounds.{row_count_of}
use Rattle.shape.specs.Lengths.{shape, checks_length}
use Rattle.refusal.specs.Refusal.{Test, ◌when◌, first}
use Rattle.refusal.specs.Conditions.{wrong_length, any_beyond, party_tests}
use Rattle.packs.specs.Packs.{points_at_of}
use Rattle.factory.specs.Calls.{any_bad_point}
use Rattle.session.specs.declared.Party.{Party}
use Rattle.kinds.specs.Kinds.{draws_length, any_row, late, crowded, unknown}
use Rattle.packlines.specs.File.{file}

-- The post that the file is for: "Each post i has one check point wi", or two, and "both points of each post" follow one another.
abbrev pub post_at : ℕ → ℕ → ℕ → ℕ → List ℕ → Party
post_at n t post points ws = record { shape = shape n t points; post = post; points = points_at_of points ws (post - 1) }

-- 1 to 4, and 5 of the check points and of the kinds.
abbrev pub frame_tests : ℕ → ℕ → ℕ → ℕ → List ℕ → List ℕ → List Test
frame_tests n t post points ws kinds =
    party_tests n t post points
    ++ (4 when any_bad_point ws ∷ 5 when wrong_length ws (checks_length (shape n t points)) ∷ 5 when wrong_length kinds row_count_of ∷ [])

unfoldable pub frame_refusal : ℕ → ℕ → ℕ → ℕ → List ℕ → List ℕ → ℕ
frame_refusal n t post points ws kinds = first (frame_tests n t post points ws kinds)

-- 5 of the draws, then 6 to 8.
abbrev pub drawn_tests : Shape → List ℕ → List ℕ → List Test
drawn_tests s kinds draws =
    5 when wrong_length draws (draws_length s kinds)
    ∷ 6 when any_row late 0 kinds
    ∷ 7 when any_row crowded 0 kinds
    ∷ 8 when any_row unknown 0 kinds
    ∷ 8 when any_beyond draws
    ∷ []

unfoldable pub drawn_refusal : Shape → List ℕ → List ℕ → ℕ
drawn_refusal s kinds draws = first (drawn_tests s kinds draws)

-- All but 12.
abbrev pub given_tests : ℕ → ℕ → ℕ → ℕ → List ℕ → List ℕ → List ℕ → List Test
given_tests n t post points ws kinds draws = frame_tests n t post points ws kinds ++ drawn_tests (shape n t points) kinds draws

unfoldable pub given_refusal : ℕ → ℕ → ℕ → ℕ → List ℕ → List ℕ → List ℕ → ℕ
given_refusal n t post points ws kinds draws = first (given_tests n t post points ws kinds draws)

-- "a list too short gets 12"
abbrev pub room_tests : Party → List ℕ → List ℕ → ℕ → List Test
room_tests p kinds draws room = 12 when ltb room (length (file p kinds draws)) ∷ []

unfoldable pub room_refusal_of : Party → List ℕ → List ℕ → ℕ → ℕ
room_refusal_of p kinds draws room = first (room_tests p kinds draws room)

unfoldable pub pack_refusal : ℕ → ℕ → ℕ → ℕ → List ℕ → List ℕ → List ℕ → ℕ → ℕ
pack_refusal n t post points ws kinds draws room =
    first (given_tests n t post points ws kinds draws ++ room_tests (post_at n t post points ws) kinds draws room)
