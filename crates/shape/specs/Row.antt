-- A row's parts: "the coefficients of its own polynomial vi, constant first; the check values v1(wi) to vn(wi), its own
-- included; the public sums m1 to mn".
use Rattle.std.specs.Prelude.{ℕ, zero, suc, ◌+◌, ◌*◌, ◌-◌, List, take, get_or}
use Rattle.shape.specs.declared.Shape.{Shape}
use Rattle.shape.specs.declared.Points.{Points}
use Rattle.shape.specs.Lengths.{v_length, checks_at_of, sums_at_of}

abbrev pub coefficients : Shape → List ℕ → List ℕ
coefficients s row = take (v_length s) row

-- a post's h-th check point, h from 0 on
abbrev pub point_at : Points → ℕ → ℕ
point_at w zero = w.first
point_at w (suc h) = w.second

-- those of post j, j from 1 on: the check value at the h-th point, and the sum
abbrev pub check_value : Shape → List ℕ → ℕ → ℕ → ℕ
check_value s row j h = get_or row (checks_at_of s + ((j - 1) * s.points + h)) 0

abbrev pub public_sum_of : Shape → List ℕ → ℕ → ℕ
public_sum_of s row j = get_or row (sums_at_of s + (j - 1)) 0
