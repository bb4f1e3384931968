-- Document 01, "What a group of posts sees": "A draw is all check points and every number drawn for a fixed choice of raw rows
-- and triples." What each post gets of it is the factory's own definition.
use Rattle.std.specs.Prelude.{ℕ, ◌-◌, ◌≤◌, ◌<◌, ◌≡◌, Bool, true, false, cond, List, [], ◌++◌, length, get_or}
use Rattle.field.specs.Modulus.{p}
use Rattle.shape.specs.declared.Shape.{Shape}
use Rattle.shape.specs.Bounds.{row_count_of, last_row_at, last_triple}
use Rattle.shape.specs.declared.Points.{Points}
use Rattle.packs.specs.Packs.{points_at_of}
use Rattle.shape.specs.Lengths.{shape, checks_length, draw_length, triple_draw_length}
use Rattle.poly.specs.Counting.{All, Elements}
use Rattle.refusal.specs.Refusal.{first}
use Rattle.refusal.specs.Conditions.{posts_tests, bad_point_count}
use Rattle.parts.specs.Draw.{part, first_draw, second_draw, third_draw}

-- Whether a row is drawn raw, and who deals it: a post, or a number outside 1..n for someone who is no post.
pub data Raw : Type 0 where
  none : Raw
  by : ℕ → Raw

abbrev pub IsRaw : Raw → Type 0
IsRaw none = ⊥
IsRaw (by dealer) = Unit {0}

abbrev pub when_raw : {A : Type 0} → Raw → A → A → A
when_raw none x y = y
when_raw (by dealer) x y = x

-- "a fixed choice of raw rows and triples": which rows are drawn raw, and at which rows a triple is drawn.
pub record Plan : Type 0 where
  pub n : ℕ
  pub t : ℕ
  -- check points of a post
  pub points : ℕ
  pub raw : ℕ → Raw
  pub triple : ℕ → Bool

abbrev pub plan_shape : Plan → Shape
plan_shape plan = shape plan.n plan.t plan.points

-- n, t and the number of points are such that 1, 2 and 4 refuse nothing, and what is drawn is drawn for rows of the session.
pub record Sound (plan : Plan) : Type 0 where
  pub posts : first (posts_tests plan.n plan.t) ≡ 0
  pub counted : bad_point_count plan.points ≡ false
  pub raws : (r : ℕ) → IsRaw (plan.raw r) → r ≤ last_row_at
  pub triples : (r : ℕ) → plan.triple r ≡ true → r ≤ last_triple

-- All check points, post 1's first; for each row what was drawn for it raw, and what was drawn for a triple from it
-- on; nothing where nothing was.
pub record Draw : Type 0 where
  pub points : List ℕ
  pub raws : List (List ℕ)
  pub triples : List (List ℕ)

-- "t+1 coefficients of f, then t+1 for each of v1 to vn"
abbrev pub drawn_length : Plan → ℕ
drawn_length plan = draw_length (plan_shape plan)

abbrev pub raw_length : Plan → ℕ → ℕ
raw_length plan r = when_raw (plan.raw r) (drawn_length plan) 0

-- "Three such draws for l, l' and l'', but the third lacks f's constant"
abbrev pub triple_length : Plan → ℕ → ℕ
triple_length plan r = cond (plan.triple r) (triple_draw_length (plan_shape plan)) 0

-- a list for each row, the r-th of `many r` elements
pub record Lists (many : ℕ → ℕ) (ls : List (List ℕ)) : Type 0 where
  pub count : length ls ≡ row_count_of
  pub each : (r : ℕ) → r < row_count_of → (length (get_or ls r []) ≡ many r) × Elements (get_or ls r [])

-- A draw for the plan: n check points, or two for each post, from 1 to p − 1, and elements.
pub record IsDraw (plan : Plan) (draw : Draw) : Type 0 where
  pub posts : length draw.points ≡ checks_length (plan_shape plan)
  pub points : All (λ w. (1 ≤ w) × (w < p)) draw.points
  pub raws : Lists (raw_length plan) draw.raws
  pub triples : Lists (triple_length plan) draw.triples

-- Post i's check points.
unfoldable pub point_of : Plan → Draw → ℕ → Points
point_of plan draw i = points_at_of plan.points draw.points (i - 1)

-- What was drawn for row r raw: f's coefficients first.
unfoldable pub raw_draw : Draw → ℕ → List ℕ
raw_draw draw r = get_or draw.raws r []

-- The draws of l, l' and l'' of the triple at r.
unfoldable pub triple_draw : Draw → ℕ → List ℕ
triple_draw draw r = get_or draw.triples r []

abbrev pub draw_a : Plan → Draw → ℕ → List ℕ
draw_a plan draw r = first_draw (drawn_length plan) (triple_draw draw r)

abbrev pub draw_b : Plan → Draw → ℕ → List ℕ
draw_b plan draw r = second_draw (drawn_length plan) (triple_draw draw r)

abbrev pub draw_ab : Plan → Draw → ℕ → List ℕ
draw_ab plan draw r = third_draw (drawn_length plan) (triple_draw draw r)

-- Post i's part of a drawn row, and its packs: "its own part of drawn rows and triples".
abbrev pub part_of : Plan → Draw → ℕ → List ℕ → List ℕ
part_of plan draw i drawn = part (plan_shape plan) i (point_of plan draw i) drawn

unfoldable pub raw_pack : Plan → Draw → ℕ → ℕ → List ℕ
raw_pack plan draw i r = part_of plan draw i (raw_draw draw r)

unfoldable pub triple_pack : Plan → Draw → ℕ → ℕ → List ℕ
triple_pack plan draw i r =
    part_of plan draw i (draw_a plan draw r) ++ (part_of plan draw i (draw_b plan draw r) ++ part_of plan draw i (draw_ab plan draw r))
