-- Between the functions of the code: what the writers of packs are held to, and what they need of their lists. No theorem is stated
-- with these. What the factory writes is in `Packs.antt`.
use Rattle.std.specs.Prelude.{ℕ, zero, suc, ◌+◌, ◌*◌, ◌-◌, ◌≤◌, ◌≡◌, ◌⊎◌, List, [], ◌++◌, length, take, drop}
use Rattle.std.proofs.Math.Seq.{paste}
use Rattle.shape.specs.declared.Shape.{Shape}
use Rattle.shape.specs.declared.Points.{Points}
use Rattle.shape.specs.Lengths.{Valid, checks_length, sums_at_of, row_length, draw_length, packs_length}
use Rattle.parts.specs.Between.{part_with}
use Rattle.packs.specs.Packs.{points_at_of}

-- `vs` are v1 to vn, and m the public sums: the parts of so many posts from post i + 1 on, post j + 1 with the check points w j.
unfoldable pub parts_with : Shape → List ℕ → List ℕ → (ℕ → Points) → ℕ → ℕ → List ℕ
parts_with s vs m w i zero = []
parts_with s vs m w i (suc c) = part_with s vs m i (w i) ++ parts_with s vs m w (suc i) c

-- the list's first post is post i + 1, the posts counted from 0
abbrev pub points_on_of : Shape → List ℕ → ℕ → ℕ → Points
points_on_of s points i j = points_at_of s.points points (j - i)

-- the public sums of the first row, and the list with them in the row from `at` on
abbrev pub first_sums : Shape → List ℕ → List ℕ
first_sums s out = take s.n (drop (sums_at_of s) out)

abbrev pub passed_on : Shape → ℕ → List ℕ → List ℕ
passed_on s at out = paste out (at + sums_at_of s) (drop (sums_at_of s) out) s.n

-- the row from `at` on, which is the first or does not reach into it
pub record RowAt (s : Shape) (at : ℕ) (out : List ℕ) : Type 0 where
  pub valid : Valid s
  pub apart : (at ≡ 0) ⊎ (row_length s ≤ at)
  pub inside : at + row_length s ≤ length out

-- the parts of so many posts behind the first i
pub record PartsRoom (s : Shape) (i count : ℕ) (points out : List ℕ) : Type 0 where
  pub posts : i + count ≤ s.n
  pub pointed : length points ≡ s.points * count
  pub room : length out ≡ count * row_length s

-- the same, where `rest` is a draw but for its first number
pub record PostsRoom (s : Shape) (i count : ℕ) (points rest out : List ℕ) : Type 0 where
  pub valid : Valid s
  pub posts : i + count ≤ s.n
  pub pointed : length points ≡ s.points * count
  pub drawn : length rest + 1 ≡ draw_length s
  pub room : length out ≡ count * row_length s

-- what a factory call that is not refused was lent
pub record Fine (s : Shape) (points draw : List ℕ) (drawn : ℕ) (out : List ℕ) (written : ℕ) : Type 0 where
  pub valid : Valid s
  pub points_length : length points ≡ checks_length s
  pub draw_length_is : length draw ≡ drawn
  pub out_length : length out ≡ written

-- the packs of l and l'
pub record FactorsRoom (s : Shape) (points draw out : List ℕ) : Type 0 where
  pub valid : Valid s
  pub points_length : length points ≡ checks_length s
  pub draws : draw_length s + draw_length s ≤ length draw
  pub room : length out ≡ packs_length s + packs_length s
