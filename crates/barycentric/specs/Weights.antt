-- Between the functions of the code: weights of rising nodes.
use Rattle.std.specs.Prelude.{ℕ, zero, suc, ◌+◌, ◌-◌, ◌%◌, ◌≤◌, ◌<◌, ◌≡◌, true, false, List, [], ◌∷◌, ◌++◌, map, eqb, ltb, length, take}
use Rattle.field.specs.Arithmetic.{difference, product}
use Rattle.inverses.specs.InverseTable.{Inverts, most}
use Rattle.poly.specs.Interpolation.{nodal}
use Rattle.barycentric.specs.Nodes.{Rising, last_of, missing}

-- Pascal's triangle modulo p, with alternating signs: (-1)^x times the number of ways to choose x of m.
unfoldable pub alternating : ℕ → ℕ → ℕ
alternating m zero = 1
alternating zero (suc x) = 0
alternating (suc m) (suc x) = difference (alternating m (suc x)) (alternating m x)

-- The number as far from the end of a list of n as b is from its start, in the row n - 1.
unfoldable pub mirrored : ℕ → ℕ → ℕ
mirrored n b = elim (eqb (n % 2) 1) [ true ↦ b | false ↦ difference 0 b ]

-- |x - g|: one of the two differences is 0.
abbrev pub away : ℕ → ℕ → ℕ
away x g = x - g + (g - x)

-- The product of |x - g| over the list's numbers, modulo p.
unfoldable pub spans : List ℕ → ℕ → ℕ
spans [] x = 1
spans (g ∷ gs) x = product (away x g) (spans gs x)

-- How many of the list's numbers are above x.
unfoldable pub over : ℕ → ℕ → ℕ
over x g = elim (ltb x g) [ true ↦ 1 | false ↦ 0 ]

unfoldable pub above : List ℕ → ℕ → ℕ
above [] x = 0
above (g ∷ gs) x = over x g + above gs x

-- The weight of the number x among 0 to m without those of a list.
unfoldable pub node_weight : ℕ → List ℕ → ℕ → ℕ
node_weight m gaps x = product (alternating m x) (nodal gaps x)

-- The same, but of the distances to the list's numbers the first k only, with the sign of all.
unfoldable pub weight_to : ℕ → List ℕ → ℕ → ℕ → ℕ
weight_to m gaps k x = product (alternating m x) (mirrored (above gaps x + 1) (spans (take k gaps) x))

-- f 0, .., f (n - 1)
unfoldable pub firsts : (ℕ → ℕ) → ℕ → List ℕ
firsts f zero = []
firsts f (suc n) = firsts f n ++ (f n ∷ [])

-- The row of n numbers: the weights of 0 to n - 1.
abbrev pub row : ℕ → List ℕ
row n = firsts (alternating (n - 1)) n

-- Rising nodes that the table reaches, with room for the missing numbers and for the weights of all numbers up to the last node.
pub record Prepared (nodes inverses gaps list : List ℕ) : Type 0 where
  pub rising : Rising 0 nodes
  pub some : 0 < length nodes
  pub table : Inverts inverses
  pub within : last_of 0 nodes ≤ length inverses
  pub gap_room : length gaps + length nodes ≡ last_of 0 nodes
  pub room : length list ≡ last_of 0 nodes + 1

-- The weights of 0 and of rising nodes with the distances to the first k missing numbers, at the front of a list.
pub record Weighing (nodes gaps : List ℕ) (k : ℕ) (list : List ℕ) : Type 0 where
  pub rising : Rising 0 nodes
  pub within : last_of 0 nodes ≤ most
  pub those : gaps ≡ missing 0 nodes
  pub room : length nodes < length list
  pub front : take (length nodes + 1) list ≡ map (weight_to (last_of 0 nodes) gaps k) (0 ∷ nodes)

-- The nodes' weights, with the weight of 0 first.
abbrev pub WeightsOf : List ℕ → List ℕ → Type 0
WeightsOf nodes list = take (length nodes + 1) list ≡ map (node_weight (last_of 0 nodes) (missing 0 nodes)) (0 ∷ nodes)
