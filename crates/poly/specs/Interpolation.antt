-- Lagrange's interpolation: the sum, over the nodes, of the value there times the product, over the other nodes x, of
-- (z - x) / (node - x).
use Rattle.std.specs.Prelude.{ℕ, suc, List, [], ◌∷◌, ◌++◌, take, drop}
use Rattle.field.specs.Arithmetic.{sum, difference, product, inverse}

-- The product of z - x over the nodes x.
unfoldable pub nodal : List ℕ → ℕ → ℕ
nodal [] z = 1
nodal (x ∷ xs) z = product (difference z x) (nodal xs z)

-- The nodes but the j-th.
abbrev pub others : ℕ → List ℕ → List ℕ
others j xs = take j xs ++ drop (suc j) xs

-- The weight of a node at z, among the other nodes.
unfoldable pub weight : List ℕ → ℕ → ℕ → ℕ
weight rest node z = product (nodal rest z) (inverse (nodal rest node))

-- The terms of the nodes to come; the nodes passed stand before them.
unfoldable pub terms : ℕ → List ℕ → List ℕ → List ℕ → ℕ
terms z passed [] ys = 0
terms z passed (x ∷ xs) [] = 0
terms z passed (x ∷ xs) (y ∷ ys) = sum (product y (weight (passed ++ xs) x z)) (terms z (passed ++ (x ∷ [])) xs ys)

-- The interpolation through the values ys at the nodes xs, at the point z.
unfoldable pub interpolated : List ℕ → List ℕ → ℕ → ℕ
interpolated xs ys z = terms z [] xs ys
