-- Everything that all posts hold of one shared number is a linear image of one vector: the dealer's number c, f's
-- coefficients, and those of v1 to vn. As functions of the place, so that no law about them has a condition on lengths.
use Rattle.std.specs.Prelude.{ℕ, zero, suc, ◌+◌, ◌*◌, ◌-◌, ◌/◌, ◌%◌, List, [], ◌∷◌, ◌++◌, get_or}
use Rattle.field.specs.Element.{Element, element, ◌⊕◌, ◌⊗◌, 0ᴱ}
use Rattle.shape.specs.declared.Shape.{Shape}
use Rattle.shape.specs.declared.Points.{Points}
use Rattle.shape.specs.Lengths.{f_length, v_length, checks_length}
use Rattle.shape.specs.Row.{point_at}
use Rattle.poly.specs.Polynomial.{element_value}

pub record Vector : Type 0 where
  pub c : Element
  pub f : ℕ → Element
  pub v : ℕ → ℕ → Element

-- S + s S'
abbrev pub plus_times : Element → Vector → Vector → Vector
plus_times s S S' =
    record { c = S.c ⊕ s ⊗ S'.c; f = λ k. S.f k ⊕ s ⊗ S'.f k; v = λ j k. S.v j k ⊕ s ⊗ S'.v j k }

-- c added to the dealer's number
abbrev pub raised : Element → Vector → Vector
raised c S = record { c = S.c ⊕ c; f = S.f; v = S.v }

-- the shared number
abbrev pub number : Vector → Element
number S = S.c ⊕ S.f 0

-- the first k of a sequence, and their numbers
unfoldable pub firsts : ℕ → (ℕ → Element) → List Element
firsts zero a = []
firsts (suc k) a = a 0 ∷ firsts k (λ i. a (suc i))

unfoldable pub numbers : ℕ → (ℕ → Element) → List ℕ
numbers zero a = []
numbers (suc k) a = (a 0).0 ∷ numbers k (λ i. a (suc i))

-- the value of the polynomial with the k coefficients a
unfoldable pub value_at : ℕ → (ℕ → Element) → Element → Element
value_at k a x = element_value (firsts k a) x

-- the m-th check value, of post m / k + 1 at the point m % k, and the public sum of post j + 1
abbrev pub check_of : Shape → Points → Vector → ℕ → Element
check_of s w S m = value_at (v_length s) (S.v (suc (m / s.points))) (element (point_at w (m % s.points)))

abbrev pub sum_at : Shape → Vector → ℕ → Element
sum_at s S j = S.v (suc j) 0 ⊕ value_at (f_length s) S.f (element (suc j)) ⊕ S.c

-- post i's row, with check points w: its v's coefficients, n check values for each point, n sums
unfoldable pub row_of : Shape → ℕ → Points → Vector → List ℕ
row_of s i w S = numbers (v_length s) (S.v i) ++ (numbers (checks_length s) (check_of s w S) ++ numbers s.n (sum_at s S))

-- the vector of a draw, with the dealer's number 0
unfoldable pub vector_of : Shape → List ℕ → Vector
vector_of s draw =
    record {
      c = 0ᴱ;
      f = λ i. element (get_or draw i 0);
      v = λ j i. element (get_or draw (f_length s + (j - 1) * v_length s + i) 0);
    }
