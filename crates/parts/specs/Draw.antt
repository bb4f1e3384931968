-- Document 01, "From the factory": the draw of a row, and what post i gets of it.
use Rattle.std.specs.Prelude.{ℕ, zero, suc, ◌+◌, ◌*◌, ◌-◌, ◌/◌, ◌%◌, List, [], ◌∷◌, ◌++◌, take, drop, get_or}
use Rattle.field.specs.Arithmetic.{sum, product}
use Rattle.poly.specs.Polynomial.{value}
use Rattle.shape.specs.declared.Shape.{Shape}
use Rattle.shape.specs.declared.Points.{Points}
use Rattle.shape.specs.Lengths.{f_length, v_length, checks_length}
use Rattle.shape.specs.Row.{point_at}

-- "t+1 coefficients of f, then t+1 for each of v1 to vn"
abbrev pub drawn_f : Shape → List ℕ → List ℕ
drawn_f s draw = take (f_length s) draw

abbrev pub drawn_v : Shape → List ℕ → ℕ → List ℕ
drawn_v s draw j = take (v_length s) (drop (f_length s + (j - 1) * v_length s) draw)

-- f j, f (j + 1), .., m of them
unfoldable pub each_from : ℕ → ℕ → (ℕ → ℕ) → List ℕ
each_from j zero f = []
each_from j (suc m) f = f j ∷ each_from (suc j) m f

-- the posts 1 to n
abbrev pub each_post : ℕ → (ℕ → ℕ) → List ℕ
each_post n f = each_from 1 n f

-- "mj = vj(0) + f(j)"; vj(0) is vj's constant.
abbrev pub sum_of : Shape → List ℕ → ℕ → ℕ
sum_of s draw j = sum (get_or (drawn_v s draw j) 0 0) (value (drawn_f s draw) j)

-- The m-th check value: "both check values of each sender follow one another".
abbrev pub check_of : Shape → Points → List ℕ → ℕ → ℕ
check_of s w draw m = value (drawn_v s draw (suc (m / s.points))) (point_at w (m % s.points))

-- Post i's row, with its check points w: "the coefficients of its own polynomial vi, constant first; the check values v1(wi) to
-- vn(wi), its own included; the public sums m1 to mn".
unfoldable pub part : Shape → ℕ → Points → List ℕ → List ℕ
part s i w draw = drawn_v s draw i ++ (each_from 0 (checks_length s) (check_of s w draw) ++ each_post s.n (sum_of s draw))

-- "Three such draws for l, l' and l'', but the third lacks f's constant, which is f(0) of l × f(0) of l'." It is a Beaver triple. The
-- source (docs/PROTOCOL.md), section 3.2: "three random numbers l, l' and l'', such that l'' = ll'".
abbrev pub first_draw : ℕ → List ℕ → List ℕ
first_draw d draw = take d draw

abbrev pub second_draw : ℕ → List ℕ → List ℕ
second_draw d draw = take d (drop d draw)

abbrev pub third_draw : ℕ → List ℕ → List ℕ
third_draw d draw = product (get_or draw 0 0) (get_or draw d 0) ∷ drop (d + d) draw
