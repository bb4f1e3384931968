-- Document 02, (ii): "The street program stays at 32 and gives 1 above that." What it keeps has room for its largest station, with the largest t
-- and two check points a post: every size is a length of that shape.
use Rattle.std.specs.Prelude.{ℕ, ◌+◌, ◌-◌, ◌*◌, ◌≤◌}
use Rattle.shape.specs.declared.Shape.{Shape}
use Rattle.shape.specs.Bounds.{most_points}
use Rattle.shape.specs.Lengths.{Valid, shape, v_length, row_length, triple_length, rows_length, record_length, masks_length}

abbrev pub street_posts : ℕ
street_posts = 32

abbrev pub largest : Shape
largest = shape street_posts (street_posts - 1) most_points

-- The most coefficients of a v, the numbers of the longest row and of a triple of such rows; the most numbers of a line; and the most masks.
abbrev pub longest_v : ℕ
longest_v = v_length largest

abbrev pub longest_row : ℕ
longest_row = row_length largest

abbrev pub longest_triple : ℕ
longest_triple = triple_length largest

abbrev pub numbers_room : ℕ
numbers_room = 1 + longest_triple

abbrev pub most_masks : ℕ
most_masks = masks_length largest

-- Room for the longest line that is printed: a letter, row and post, the masks, a line feed.
abbrev pub told_room : ℕ
told_room = 2 + 11 * (2 + most_masks)

-- Document 02, (ix): "the program's lines go up to 5,252 bytes". A `T` with k numbers behind its first row: letter, comma and two digits, a comma and
-- ten digits for each number, line feed; and the longest of the largest station.
abbrev pub longest_load : ℕ → ℕ
longest_load k = 5 + 11 * k

abbrev pub longest_line : ℕ
longest_line = longest_load longest_triple

-- The store: the rows of a session, then the record of the `O` lines and the two of the `M` lines, of a − l and of b − l'.
abbrev pub rows_room : ℕ
rows_room = rows_length largest

abbrev pub record_room : ℕ
record_room = record_length largest

abbrev pub openings_at : ℕ
openings_at = rows_room

abbrev pub masks_a_at : ℕ
masks_a_at = openings_at + record_room

abbrev pub masks_b_at : ℕ
masks_b_at = masks_a_at + record_room

abbrev pub store_room : ℕ
store_room = masks_b_at + record_room

-- A station that the street program serves: one of the library's, with so few posts.
pub record InStreet (g : Shape) : Type 0 where
  pub valid : Valid g
  pub few : g.n ≤ street_posts
