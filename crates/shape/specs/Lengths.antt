-- The lengths that follow from n, t and the number of check points of a post, in document 01's order.
use Rattle.std.specs.Prelude.{ℕ, ◌+◌, ◌*◌, ◌-◌, ◌≤◌}
use Rattle.shape.specs.declared.Shape.{Shape}
use Rattle.shape.specs.Bounds.{fewest_posts, most_posts, most_points, row_count_of}

abbrev pub shape : ℕ → ℕ → ℕ → Shape
shape n t points = record { n = n; t = t; points = points }

-- What refusals 1, 2 and 4 leave: n posts, 2 to 255, "t is 1 to n − 1", "the number of points, 1 or 2".
pub record Valid (s : Shape) : Type 0 where
  pub n_in : (fewest_posts ≤ s.n) × (s.n ≤ most_posts)
  pub t_in : (1 ≤ s.t) × (s.t ≤ s.n - 1)
  pub points_in_is : (1 ≤ s.points) × (s.points ≤ most_points)
  -- which bounds the products that lengths are made of
  pub reach_in : (s.t ≤ s.points * s.t) × (s.points * s.t ≤ most_points * s.t)
  pub checks_in : (s.n ≤ s.points * s.n) × (s.points * s.n ≤ most_points * s.n)

-- "stops at the post that completes t+1 accepted ones"
abbrev pub needed : Shape → ℕ
needed s = s.t + 1

-- "t+1 coefficients of f, then t+1 for each of v1 to vn"; with two points "v1..vn have 2t+1 coefficients while f keeps t+1"
abbrev pub f_length : Shape → ℕ
f_length s = s.t + 1

abbrev pub v_length : Shape → ℕ
v_length s = s.points * s.t + 1

-- "both check values of each sender follow one another"
abbrev pub checks_length : Shape → ℕ
checks_length s = s.points * s.n

-- In a row the check values stand behind the coefficients of the own polynomial, and the public sums behind those.
abbrev pub checks_at_of : Shape → ℕ
checks_at_of s = v_length s

abbrev pub sums_at_of : Shape → ℕ
sums_at_of s = v_length s + checks_length s

-- "one post's part of one shared number, t+1+2n elements"; "A row has 2t+1+3n numbers" with two points
abbrev pub row_length : Shape → ℕ
row_length s = sums_at_of s + s.n

-- a post's three rows of a triple
abbrev pub triple_length : Shape → ℕ
triple_length s = 3 * row_length s

-- "one lent list of 96 × (t+1+2n) numbers"
abbrev pub rows_length : Shape → ℕ
rows_length s = row_count_of * row_length s

-- "n blocks, each a mark (0 absent, 1 present) and t+1 coefficients"
abbrev pub block_length : Shape → ℕ
block_length s = v_length s + 1

abbrev pub record_length : Shape → ℕ
record_length s = s.n * block_length s

-- "Draw of a row. t+1 coefficients of f, then t+1 for each of v1 to vn."
abbrev pub draw_length : Shape → ℕ
draw_length s = f_length s + s.n * v_length s

-- "Three such draws for l, l' and l'', but the third lacks f's constant"
abbrev pub triple_draw_length : Shape → ℕ
triple_draw_length s = 3 * draw_length s - 1

-- "each post's row is written into its own part of the lent list, post 1 first"
abbrev pub packs_length : Shape → ℕ
packs_length s = s.n * row_length s

-- "Opening message. The t+1 coefficients of a held row."
abbrev pub message_length : Shape → ℕ
message_length s = v_length s

-- "the polynomials of a − l and of b − l'"; "An accepted line fills a lent list of 2(t+1) numbers from its start"
abbrev pub masks_length : Shape → ℕ
masks_length s = 2 * v_length s
