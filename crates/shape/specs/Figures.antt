-- Documents 01 and 02 in figures: every length, every place in a row and every mark that tables, contracts and claims cite by name (`width` is a
-- row's length, `record_length` a record's). Proved in proofs/Figured.antt.
use Rattle.std.specs.Prelude.{ℕ, ◌+◌, ◌*◌, ◌-◌, ◌≡◌, List, take, get_or}
use Rattle.shape.specs.declared.Shape.{Shape}
use Rattle.shape.specs.Bounds.{fewest_posts, most_posts, row_count_of, last_row_at, last_triple}
use Rattle.shape.specs.Lengths.{needed, f_length, v_length, checks_at_of, sums_at_of, row_length, triple_length, rows_length}
use Rattle.shape.specs.Lengths.{block_length, record_length, draw_length, triple_draw_length, packs_length, message_length, masks_length}
use Rattle.shape.specs.Marks.{empty, raw, held, unused, further, masked, spent, collected, absent, present}
use Rattle.shape.specs.Row.{coefficients, check_value, public_sum_of}

-- "t+1 coefficients", "n blocks, each a mark … and t+1 coefficients", "t+1 coefficients of f, then t+1 for each of v1 to vn", "but the third lacks
-- f's constant", "2(t+1) numbers", with (ix)'s number of points for a parameter; `Claims` has the documents' figures for one and for two.
pub record FiguredLengths (s : Shape) : Type 0 where
  pub needed_is : needed s ≡ s.t + 1
  pub of_f : f_length s ≡ s.t + 1
  pub of_v : v_length s ≡ s.points * s.t + 1
  pub checks_at_is : checks_at_of s ≡ s.points * s.t + 1
  pub sums_at : sums_at_of s ≡ s.points * s.t + 1 + s.points * s.n
  pub of_row : row_length s ≡ s.points * s.t + 1 + s.points * s.n + s.n
  pub of_triple_is : triple_length s ≡ 3 * (s.points * s.t + 1 + s.points * s.n + s.n)
  pub of_rows : rows_length s ≡ 96 * (s.points * s.t + 1 + s.points * s.n + s.n)
  pub of_block : block_length s ≡ s.points * s.t + 1 + 1
  pub of_record : record_length s ≡ s.n * (s.points * s.t + 1 + 1)
  pub of_draw : draw_length s ≡ s.t + 1 + s.n * (s.points * s.t + 1)
  pub of_triple_draw : triple_draw_length s ≡ 3 * (s.t + 1 + s.n * (s.points * s.t + 1)) - 1
  pub of_packs : packs_length s ≡ s.n * (s.points * s.t + 1 + s.points * s.n + s.n)
  pub of_message : message_length s ≡ s.points * s.t + 1
  pub of_masks_is : masks_length s ≡ 2 * (s.points * s.t + 1)

-- "the coefficients of its own polynomial vi, constant first; the check values v1(wi) to vn(wi), its own included; the public sums m1 to mn": of
-- post j, j from 1 on, and of its h-th point, h from 0 on: "both check values of each sender follow one another" (02, (ix))
pub record FiguredRow (s : Shape) (row : List ℕ) : Type 0 where
  pub first_part : coefficients s row ≡ take (s.points * s.t + 1) row
  pub second_part : (j h : ℕ) → check_value s row j h ≡ get_or row (s.points * s.t + 1 + ((j - 1) * s.points + h)) 0
  pub third_part : (j : ℕ) → public_sum_of s row j ≡ get_or row (s.points * s.t + 1 + s.points * s.n + (j - 1)) 0

-- "2 to 255" (02, (ii)), "96 rows, 0 to 95", "r at most 93"; "0 empty; 1 raw …; 2 held", 3 to 6, and 7 of 02, (viii); "a mark (0 absent, 1 present)"
pub record FiguredMarks : Type 0 where
  pub bounds : (fewest_posts ≡ 2) × (most_posts ≡ 255) × (row_count_of ≡ 96) × (last_row_at ≡ 95) × (last_triple ≡ 93)
  pub of_rows : (empty ≡ 0) × (raw ≡ 1) × (held ≡ 2)
  pub of_triples : (unused ≡ 3) × (further ≡ 4) × (masked ≡ 5) × (spent ≡ 6) × (collected ≡ 7)
  pub of_blocks : (absent ≡ 0) × (present ≡ 1)

pub record Figured : Type 0 where
  pub lengths : (s : Shape) → FiguredLengths s
  pub rows : (s : Shape) (row : List ℕ) → FiguredRow s row
  pub marks : FiguredMarks
