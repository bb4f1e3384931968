-- Between the functions of the code: the two sums of products that decide whether a further value agrees.
use Rattle.std.specs.Prelude.{ℕ, suc, ◌-◌, ◌≤◌, ◌<◌, ◌≡◌, Bool, true, false, List, eqb, ltb, length, replicate, take, drop}
use Rattle.field.specs.Modulus.{p}
use Rattle.field.specs.Arithmetic.{product}
use Rattle.poly.specs.Counting.{All}
use Rattle.poly.specs.Interpolation.{interpolated}
use Rattle.poly.specs.Polynomial.{weighted}
use Rattle.inverses.specs.InverseTable.{Inverts, most}
use Rattle.barycentric.specs.Nodes.{Rising, last_of, missing}
use Rattle.barycentric.specs.Weights.{node_weight, firsts, WeightsOf}
use Rattle.agreement.specs.Agreement.{all_pairs}

-- The part of the table that a further node z needs of n numbers 0 to n - 1: the inverses of z - x, from the last x down to 0.
abbrev pub table_part : List ℕ → ℕ → ℕ → List ℕ
table_part table n z = take (z - (z - n)) (drop (z - n) table)

-- A further value y at z fits where the one sum is it times the other.
unfoldable pub fits : List ℕ → List ℕ → List ℕ → ℕ → ℕ → Bool
fits table above below z y =
    elim (ltb y p)
    [ true ↦ eqb (weighted above (table_part table (length below) z)) (product y (weighted below (table_part table (length below) z))) | false ↦ false ]

abbrev pub all_fit : List ℕ → List ℕ → List ℕ → List ℕ → List ℕ → Bool
all_fit table above below zs ys = all_pairs (fits table above below) zs ys

-- The lists of the two sums: place j belongs to the number m - j, where m is the last node.
abbrev pub bottoms : List ℕ → List ℕ
bottoms xs = firsts (λ j. node_weight (last_of 0 xs) (missing 0 xs) (last_of 0 xs - j)) (suc (last_of 0 xs))

abbrev pub tops : List ℕ → List ℕ → List ℕ
tops xs ys =
    firsts (λ j. product (node_weight (last_of 0 xs) (missing 0 xs) (last_of 0 xs - j)) (interpolated xs ys (last_of 0 xs - j))) (suc (last_of 0 xs))

-- What the two lists are made of: the weights, the values and the value at 0.
pub record Weighed (nodes values : List ℕ) (value : ℕ) (weights : List ℕ) : Type 0 where
  pub rising : Rising 0 nodes
  pub low : last_of 0 nodes ≤ most
  pub same : length values ≡ length nodes
  pub at_zero : value ≡ interpolated nodes values 0
  pub room : last_of 0 nodes < length weights
  pub weights_are : WeightsOf nodes weights

pub record Cleared (n : ℕ) (list : List ℕ) : Type 0 where
  pub sized : length list ≡ n
  pub zeros : list ≡ replicate n 0

-- Further nodes above the last node m, each with a value, and room for the two lists.
pub record Further (m : ℕ) (further shares inverses above below : List ℕ) : Type 0 where
  pub paired : length shares ≡ length further
  pub table : Inverts inverses
  pub reached : All (λ z. (suc m ≤ z) × (z ≤ length inverses)) further
  pub above_room : length above ≡ suc m
  pub below_room : length below ≡ suc m

-- Rising posts that the table reaches, each with a share, and k of them to go by.
pub record Reached (posts shares : List ℕ) (k : ℕ) (inverses : List ℕ) : Type 0 where
  pub rising : Rising 0 posts
  pub within : last_of 0 posts ≤ length inverses
  pub paired : length shares ≡ length posts
  pub some : 0 < k
  pub enough : k ≤ length posts

-- What a caller lends: the table, and room for as many numbers and one more.
pub record Rooms (inverses gaps list above below : List ℕ) : Type 0 where
  pub table : Inverts inverses
  pub gap_room : length inverses ≤ length gaps
  pub room : length inverses < length list
  pub above_room : length inverses < length above
  pub below_room : length inverses < length below
