-- Between the functions of the code: what the writers of a part are held to, and what they need of their lists. No theorem is stated
-- with these. What a post gets is in `Draw.antt`.
use Rattle.std.specs.Prelude.{ℕ, ◌+◌, ◌*◌, ◌/◌, ◌%◌, ◌≡◌, cond, List, ◌++◌, eqb, length, take, drop, get_or}
use Rattle.field.specs.Arithmetic.{sum}
use Rattle.poly.specs.Polynomial.{value, weighted}
use Rattle.shape.specs.declared.Shape.{Shape}
use Rattle.shape.specs.declared.Points.{Points}
use Rattle.shape.specs.Lengths.{Valid, f_length, v_length, checks_length, sums_at_of}
use Rattle.shape.specs.Row.{point_at}
use Rattle.parts.specs.Draw.{each_from}

-- `vs` are v1 to vn, the posts counted from 0: their polynomials, v1(w) to vn(w), and v1(0) + f(1) to vn(0) + f(n)
abbrev pub v_of : Shape → List ℕ → ℕ → List ℕ
v_of s vs i = take (v_length s) (drop (i * v_length s) vs)

unfoldable pub value_of : Shape → ℕ → List ℕ → ℕ → ℕ
value_of s w vs i = value (v_of s vs i) w

unfoldable pub check_at : Shape → Points → List ℕ → ℕ → ℕ
check_at s w vs m = value_of s (point_at w (m % s.points)) vs (m / s.points)

unfoldable pub weighed_at : Shape → List ℕ → List ℕ → ℕ → ℕ
weighed_at s powers vs i = weighted (v_of s vs i) powers

abbrev pub check_values : Shape → Points → List ℕ → List ℕ
check_values s w vs = each_from 0 (checks_length s) (check_at s w vs)

-- numbers written with steps of k: f 0, f 1, .. at h, h + k, .., the others as they were
unfoldable pub woven : ℕ → ℕ → (ℕ → ℕ) → List ℕ → ℕ → ℕ
woven k h f old m = cond (eqb (m % k) h) (f (m / k)) (get_or old m 0)

unfoldable pub sum_at : Shape → List ℕ → List ℕ → ℕ → ℕ
sum_at s f vs i = sum (get_or (v_of s vs i) 0 0) (value f (i + 1))

abbrev pub sums : Shape → List ℕ → List ℕ → List ℕ
sums s f vs = each_from 0 s.n (sum_at s f vs)

-- The part of post i + 1, whose check points are w, with the public sums m.
abbrev pub part_with : Shape → List ℕ → List ℕ → ℕ → Points → List ℕ
part_with s vs m i w = v_of s vs i ++ (check_values s w vs ++ m)

-- v1 to vn of a valid station
pub record Drawn (s : Shape) (vs : List ℕ) : Type 0 where
  pub valid : Valid s
  pub drawn : length vs ≡ s.n * v_length s

-- room for the powers of a point, and behind it for the check values
abbrev pub ChecksRoom : Shape → List ℕ → Type 0
ChecksRoom s out = length out ≡ sums_at_of s

-- `higher` are f's coefficients behind its constant
abbrev pub Higher : Shape → List ℕ → Type 0
Higher s higher = length higher + 1 ≡ f_length s
