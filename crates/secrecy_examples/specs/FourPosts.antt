-- A second example for demand 3: n = 4, t = 2, posts 2 and 4 are the group. 3 and 10 are dealt, or 5 and 6; their product, 30, and
-- the first with half the second, 8, are opened, each after messages of three posts; their sum is made and not opened.
use Rattle.std.specs.Prelude.{ℕ, ◌+◌, ◌-◌, cond, List, [], ◌∷◌, ◌++◌, map, eqb, take, drop, get_or, replicate}
use Rattle.field.specs.Modulus.{p}
use Rattle.shape.specs.Bounds.{last_triple}
use Rattle.shape.specs.Lengths.{shape, rows_length}
use Rattle.parts.specs.Draw.{each_from, part}
use Rattle.runs.specs.Draws.{Raw, Draw, by, raw_draw}
use Rattle.secrecy.specs.Steps.{PackNumber, element, Pack, its, other, Record, Step, own, sent, load_row_of, load_triple_of, deal, message, opening, linear, masks, collect, multiply}
use Rattle.secrecy.specs.Seen.{member}
use Rattle.secrecy_examples.specs.Example.{padded, of, blocks, present, still, given}

-- Row 0 is dealt by post 1, row 1 by someone who is no post, row 2 by post 4, which is in the group, row 3, which is never loaded,
-- by post 3; one triple, at row 4.
unfoldable pub raws : List Raw
raws = by 1 ∷ by 0 ∷ by 4 ∷ by 3 ∷ []

unfoldable pub triples : List ℕ
triples = 4 ∷ []

unfoldable pub group : List ℕ
group = 2 ∷ 4 ∷ []

-- Posts 2 and 3 have one check point.
unfoldable pub draw : Draw
draw =
    record {
      points = 5 ∷ 3 ∷ 3 ∷ 7 ∷ [];
      raws =
          padded
          ((7 ∷ 4 ∷ 1 ∷ 1 ∷ 2 ∷ 3 ∷ 3 ∷ 1 ∷ 2 ∷ 5 ∷ 6 ∷ 1 ∷ 2 ∷ 0 ∷ 4 ∷ [])
          ∷ (3 ∷ 5 ∷ 2 ∷ 2 ∷ 1 ∷ 1 ∷ 1 ∷ 1 ∷ 3 ∷ 4 ∷ 2 ∷ 0 ∷ 6 ∷ 1 ∷ 2 ∷ [])
          ∷ (8 ∷ 1 ∷ 6 ∷ 6 ∷ 3 ∷ 1 ∷ 2 ∷ 9 ∷ 5 ∷ 7 ∷ 4 ∷ 2 ∷ 1 ∷ 1 ∷ 1 ∷ [])
          ∷ (4 ∷ 2 ∷ 3 ∷ 1 ∷ 0 ∷ 2 ∷ 5 ∷ 1 ∷ 1 ∷ 2 ∷ 2 ∷ 3 ∷ 3 ∷ 4 ∷ 1 ∷ [])
          ∷ []);
      triples =
          padded
          ([]
          ∷ []
          ∷ []
          ∷ []
          ∷ ((2 ∷ 1 ∷ 3 ∷ 5 ∷ 1 ∷ 2 ∷ 3 ∷ 2 ∷ 1 ∷ 1 ∷ 7 ∷ 4 ∷ 4 ∷ 1 ∷ 0 ∷ [])
          ++ ((5 ∷ 2 ∷ 1 ∷ 1 ∷ 1 ∷ 3 ∷ 6 ∷ 3 ∷ 2 ∷ 2 ∷ 2 ∷ 1 ∷ 3 ∷ 5 ∷ 2 ∷ [])
          ++ (9 ∷ 4 ∷ 1 ∷ 8 ∷ 2 ∷ 3 ∷ 5 ∷ 1 ∷ 2 ∷ 1 ∷ 6 ∷ 7 ∷ 2 ∷ 3 ∷ [])))
          ∷ []);
    }

-- rows of numbers from i upward at post i
unfoldable pub start : ℕ → List ℕ
start i = each_from i (rows_length (shape 4 2 1)) (λ x. x)

-- Numbers of post i's pack of row 0, whatever is drawn: those at the places listed.
abbrev pub numbers_of_of : ℕ → List ℕ → List PackNumber
numbers_of_of i places =
    map (λ k. element (λ draw u. get_or (part (shape 4 2 1) i (record { first = get_or draw.points (i - 1) 0; second = 0 }) (raw_draw draw 0)) k 0)) places

-- Packs for row 0 that differ in kind: at post 1 its own, at post 2 post 1's, at post 3 fixed numbers, at post 4 its own with p in the
-- last place.
unfoldable pub mixed : Pack
mixed i =
    cond (eqb i 1) (its 0)
    (cond (eqb i 2) (other (numbers_of_of 1 (each_from 0 11 (λ k. k))))
    (cond (eqb i 3) (given (replicate 11 8)) (other (numbers_of_of 4 (each_from 0 10 (λ k. k)) ++ (PackNumber.fixed p ∷ [])))))

-- The posts' masks, and their messages of the product and of the sum with a half.
abbrev pub masks_sent : List (List ℕ)
masks_sent =
    (2147483643 ∷ 1 ∷ 1 ∷ 1 ∷ 0 ∷ 2147483645 ∷ [])
    ∷ (0 ∷ 2147483646 ∷ 1 ∷ 2147483642 ∷ 2147483645 ∷ 1 ∷ [])
    ∷ (4 ∷ 2147483646 ∷ 2147483644 ∷ 2 ∷ 0 ∷ 2147483646 ∷ [])
    ∷ (2147483645 ∷ 2147483646 ∷ 4 ∷ 3 ∷ 2147483643 ∷ 0 ∷ [])
    ∷ []

abbrev pub product_sent : List (List ℕ)
product_sent = (27 ∷ 14 ∷ 15 ∷ []) ∷ (24 ∷ 18 ∷ 8 ∷ []) ∷ (9 ∷ 38 ∷ 27 ∷ []) ∷ (30 ∷ 12 ∷ 5 ∷ []) ∷ []

abbrev pub sum_sent : List (List ℕ)
sum_sent =
    (2 ∷ 1073741826 ∷ 1073741827 ∷ [])
    ∷ (1073741827 ∷ 1073741825 ∷ 1073741827 ∷ [])
    ∷ (7 ∷ 7 ∷ 1 ∷ [])
    ∷ (5 ∷ 1073741824 ∷ 5 ∷ [])
    ∷ []

-- Post i's record of what the posts in `from`, its i-th list, sent. Its own block and the numbers of absent blocks, which are not
-- looked at, hold no elements.
unfoldable pub heard_by : List (List ℕ) → (ℕ → List ℕ) → Record
heard_by from messages i lines =
    blocks 4
    (λ j. cond (eqb j i) (replicate 4 p) (cond (member j (of from i)) (present (messages j)) (0 ∷ replicate 3 p)))

-- one other post; the posts whose masks each takes for either factor; those whose messages of the product, of the sum
abbrev pub one : List (List ℕ)
one = (2 ∷ []) ∷ (1 ∷ []) ∷ (4 ∷ []) ∷ (3 ∷ []) ∷ []

abbrev pub for_a : List (List ℕ)
for_a = (2 ∷ 3 ∷ []) ∷ (3 ∷ 4 ∷ []) ∷ (1 ∷ 4 ∷ []) ∷ (1 ∷ 2 ∷ 3 ∷ []) ∷ []

abbrev pub for_b : List (List ℕ)
for_b = (3 ∷ 4 ∷ []) ∷ (1 ∷ 4 ∷ []) ∷ (1 ∷ 2 ∷ []) ∷ (2 ∷ 3 ∷ []) ∷ []

abbrev pub only_three : List (List ℕ)
only_three = (3 ∷ []) ∷ (3 ∷ []) ∷ [] ∷ (3 ∷ []) ∷ []

abbrev pub for_product : List (List ℕ)
for_product = (3 ∷ 4 ∷ []) ∷ (1 ∷ 3 ∷ []) ∷ (1 ∷ 4 ∷ []) ∷ (1 ∷ 3 ∷ []) ∷ []

abbrev pub for_sum : List (List ℕ)
for_sum = (2 ∷ 3 ∷ []) ∷ (1 ∷ 3 ∷ []) ∷ (1 ∷ 2 ∷ []) ∷ (2 ∷ 3 ∷ []) ∷ []

unfoldable pub masks_a : List (List ℕ) → Record
masks_a from = heard_by from (λ j. take 3 (of masks_sent j))

unfoldable pub masks_b : List (List ℕ) → Record
masks_b from = heard_by from (λ j. drop 3 (of masks_sent j))

abbrev pub half : ℕ
half = 1073741824

-- a message of the posts in a list
abbrev pub message_of : ℕ → List ℕ → Step
message_of r senders = message r 1 (λ i. still (replicate 3 0)) (λ i. member i senders)

-- Refused: packs that differ in kind (7), packs of wrong lengths (5), a deal of a row that is empty, with row 0's c (7), a load into
-- row 3, which holds a sum by then (7), a triple behind the last row for one (6), a product before its masks are opened (7), a collect
-- and an opening with too few polynomials (9), an opening with a record of a wrong length (5).
unfoldable pub steps : List Step
steps =
    load_row_of 0 (own 0)
    ∷ load_row_of 0 mixed
    ∷ load_row_of 1 (λ i. given (replicate i 1))
    ∷ load_row_of 1 (own 1)
    ∷ load_row_of 2 (own 2)
    ∷ deal 0 (sent 0)
    ∷ deal 1 (sent 1)
    ∷ deal 2 (sent 2)
    ∷ deal 3 (sent 0)
    ∷ linear 3 0 1 half 0
    ∷ load_row_of 3 (own 3)
    ∷ load_triple_of (last_triple + 1) (own 4)
    ∷ load_triple_of 4 (own 4)
    ∷ linear 7 0 1 1 0
    ∷ masks 0 1 4 (λ i. still (replicate 6 i))
    ∷ multiply 4
    ∷ collect 4 (masks_a one) (masks_b one)
    ∷ collect 4 (masks_a for_a) (masks_b for_b)
    ∷ multiply 4
    ∷ message_of 6 (3 ∷ [])
    ∷ opening 6 (heard_by only_three (of product_sent))
    ∷ message_of 6 (1 ∷ 4 ∷ [])
    ∷ opening 6 (heard_by for_product (of product_sent))
    ∷ message_of 3 (1 ∷ 2 ∷ 3 ∷ [])
    ∷ opening 3 (λ i lines. replicate i 1)
    ∷ opening 3 (heard_by for_sum (of sum_sent))
    ∷ []
