-- Document 01, "From the factory": what the factory's calls write.
use Rattle.std.specs.Prelude.{ℕ, zero, suc, ◌+◌, ◌*◌, ◌-◌, cond, List, [], ◌++◌, eqb, get_or}
use Rattle.shape.specs.declared.Shape.{Shape}
use Rattle.shape.specs.declared.Points.{Points}
use Rattle.shape.specs.Bounds.{most_points}
use Rattle.shape.specs.Lengths.{draw_length}
use Rattle.parts.specs.Draw.{part, first_draw, second_draw, third_draw}

-- "as do both points of each post in a list": the check points of the j-th post of the list, j from 0 on
abbrev pub points_at_of : ℕ → List ℕ → ℕ → Points
points_at_of k points j = record { first = get_or points (j * k) 0; second = cond (eqb k most_points) (get_or points (j * k + 1) 0) 0 }

-- "each post's row is written into its own part of the lent list, post 1 first": the rows of so many posts from post i on, post j with
-- the check points w j
unfoldable pub parts_from : Shape → List ℕ → (ℕ → Points) → ℕ → ℕ → List ℕ
parts_from s draw w i zero = []
parts_from s draw w i (suc m) = part s i (w i) draw ++ parts_from s draw w (suc i) m

-- the list's first post is post i + 1
abbrev pub points_from : Shape → List ℕ → ℕ → ℕ → Points
points_from s points i j = points_at_of s.points points (j - (i + 1))

abbrev pub packs : Shape → List ℕ → List ℕ → List ℕ
packs s points draw = parts_from s draw (points_from s points 0) 1 s.n

-- "The lent list holds all posts' rows of l, then of l', then of l''."
unfoldable pub triple_packs : Shape → List ℕ → List ℕ → List ℕ
triple_packs s points draw =
    packs s points (first_draw (draw_length s) draw)
    ++ (packs s points (second_draw (draw_length s) draw) ++ packs s points (third_draw (draw_length s) draw))
