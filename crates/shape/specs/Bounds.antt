-- Document 01, "Field, posts, rows": the numbers that bound a station.
use Rattle.std.specs.Prelude.{ℕ, ◌*◌, ◌-◌}

-- "n is the number of posts", 2 to 255: document 01 has 32, and document 02, (ii): "n goes to 255 in the library"
abbrev pub fewest_posts : ℕ
fewest_posts = 2

abbrev pub most_posts : ℕ
most_posts = 255

-- "A session has 96 rows, 0 to 95"
abbrev pub row_count_of : ℕ
row_count_of = 96

abbrev pub last_row_at : ℕ
last_row_at = row_count_of - 1

-- "a triple goes to three empty rows r, r+1, r+2, r at most 93"
abbrev pub last_triple : ℕ
last_triple = row_count_of - 3

-- "the number of points, 1 or 2" (document 02, (ix))
abbrev pub most_points : ℕ
most_points = 2

-- the most coefficients of a v, and the longest row: of the most posts, with the largest t and two points
abbrev pub longest_v : ℕ
longest_v = 2 * most_posts - 1

abbrev pub longest_row : ℕ
longest_row = 5 * most_posts - 1

-- Ours: stations of so few posts get smaller rooms, for their rows and their v's. No answer depends on it.
abbrev pub few_posts : ℕ
few_posts = 32

abbrev pub row_of_few : ℕ
row_of_few = 5 * few_posts - 1

abbrev pub v_of_few : ℕ
v_of_few = 2 * few_posts - 1

-- and of so very few, rooms that are smaller still
abbrev pub very_few_posts : ℕ
very_few_posts = 8

abbrev pub row_of_very_few : ℕ
row_of_very_few = 5 * very_few_posts - 1

abbrev pub v_of_very_few : ℕ
v_of_very_few = 2 * very_few_posts - 1
