-- Polynomials as lists of coefficients, constant first.
use Rattle.std.specs.Prelude.{ℕ, zero, suc, List, [], ◌∷◌}
use Rattle.field.specs.Arithmetic.{sum, product}
use Rattle.field.specs.Element.{Element, ◌⊕◌, ◌⊗◌, 0ᴱ}

-- The value of a polynomial at a point.
unfoldable pub value : List ℕ → ℕ → ℕ
value [] x = 0
value (c ∷ cs) x = sum c (product x (value cs x))

-- The same of elements.
abbrev pub element_value : List Element → Element → Element
element_value [] x = 0ᴱ
element_value (c ∷ cs) x = c ⊕ x ⊗ element_value cs x

-- y, y x, y x², .., k numbers
unfoldable pub powers_from : ℕ → ℕ → ℕ → List ℕ
powers_from y x zero = []
powers_from y x (suc k) = y ∷ powers_from (product y x) x k

-- The powers of a point, from its power 0 on.
abbrev pub powers : ℕ → ℕ → List ℕ
powers x k = powers_from 1 x k

-- The sum of the products of two lists' numbers, to the end of the shorter.
unfoldable pub weighted : List ℕ → List ℕ → ℕ
weighted [] ws = 0
weighted (c ∷ cs) [] = 0
weighted (c ∷ cs) (w ∷ ws) = sum (product c w) (weighted cs ws)
