-- An example for demand 3, with numbers of document 01, "Reckoned by hand": n = 3, t = 1, check points 2, 3, 5; post 3 is the
-- group. 6 and 7 are dealt, or 7 and 6; their sum and their product are made and opened.
use Rattle.std.specs.Prelude.{ℕ, ◌+◌, ◌*◌, true, List, [], ◌∷◌, map, take, drop, get_or, replicate}
use Rattle.field.specs.Arithmetic.{sum}
use Rattle.shape.specs.Bounds.{row_count_of}
use Rattle.shape.specs.Lengths.{shape, rows_length}
use Rattle.runs.specs.Draws.{Raw, Draw, by, raw_draw}
use Rattle.secrecy.specs.Steps.{Record, Following, Step, own, sent, fixed, load_row_of, load_triple_of, deal, message, opening, linear, masks, collect, multiply}
use Rattle.secrecy_examples.specs.Example.{padded, of, blocks, present, still}

-- Row 0 is dealt by post 1, row 1 by someone who is no post, row 2 by post 3, which is in the group; one triple, at row 3.
unfoldable pub raws : List Raw
raws = by 1 ∷ by 0 ∷ by 3 ∷ []

unfoldable pub triples : List ℕ
triples = 3 ∷ []

unfoldable pub group : List ℕ
group = 3 ∷ []

-- f = 7 + 4z, v1 = 1 + 2z, v2 = 3 + z, v3 = 5 + 6z for row 0. The triple's l is 2 and its l' is 5; l'' lacks f's constant.
unfoldable pub draw : Draw
draw =
    record {
      points = 2 ∷ 3 ∷ 5 ∷ [];
      raws =
          padded
          ((7 ∷ 4 ∷ 1 ∷ 2 ∷ 3 ∷ 1 ∷ 5 ∷ 6 ∷ [])
          ∷ (3 ∷ 5 ∷ 2 ∷ 1 ∷ 1 ∷ 1 ∷ 4 ∷ 2 ∷ [])
          ∷ (8 ∷ 1 ∷ 6 ∷ 3 ∷ 2 ∷ 9 ∷ 7 ∷ 4 ∷ [])
          ∷ []);
      triples =
          padded
          ([]
          ∷ []
          ∷ []
          ∷ (2 ∷ 1 ∷ 5 ∷ 1 ∷ 3 ∷ 2 ∷ 1 ∷ 7 ∷ 5 ∷ 2 ∷ 1 ∷ 1 ∷ 6 ∷ 3 ∷ 2 ∷ 2 ∷ 9 ∷ 4 ∷ 1 ∷ 8 ∷ 3 ∷ 5 ∷ 2 ∷ [])
          ∷ []);
    }

-- rows all 0
unfoldable pub zeros : ℕ → List ℕ
zeros i = replicate (rows_length (shape 3 1 1)) 0

-- The posts' masks, and their messages of the product and of the sum.
abbrev pub masks_sent : List (List ℕ)
masks_sent =
    (2147483643 ∷ 1 ∷ 1 ∷ 0 ∷ [])
    ∷ (0 ∷ 2147483646 ∷ 2147483642 ∷ 2147483645 ∷ [])
    ∷ (4 ∷ 2147483646 ∷ 2 ∷ 0 ∷ [])
    ∷ []

abbrev pub product_sent : List (List ℕ)
product_sent = (18 ∷ 7 ∷ []) ∷ (38 ∷ 19 ∷ []) ∷ (15 ∷ 24 ∷ []) ∷ []

abbrev pub sum_sent : List (List ℕ)
sum_sent = (3 ∷ 3 ∷ []) ∷ (4 ∷ 2 ∷ []) ∷ (9 ∷ 8 ∷ []) ∷ []

-- Records, the same for all three posts: nothing, or what was sent.
unfoldable pub nothing : Record
nothing i lines = replicate 9 0

unfoldable pub masks_a : Record
masks_a i lines = blocks 3 (λ j. present (take 2 (of masks_sent j)))

unfoldable pub masks_b : Record
masks_b i lines = blocks 3 (λ j. present (drop 2 (of masks_sent j)))

unfoldable pub products : Record
products i lines = blocks 3 (λ j. present (of product_sent j))

unfoldable pub sums : Record
sums i lines = blocks 3 (λ j. present (of sum_sent j))

-- The list that is lent for a post's message of row 5 is the one lent for that of row 6, whose coefficients are still in it: those
-- of v in rows 0 and 1, added.
abbrev pub used : ℕ → List Following
used i = map (λ k draw u. sum (get_or (raw_draw draw 0) (2 * i + k) 0) (get_or (raw_draw draw 1) (2 * i + k) 0)) (0 ∷ 1 ∷ [])

-- Row 1 is dealt with the fixed number 4, which is the one that its dealer broadcast. A second deal of row 0 is refused (7), a sum
-- into a row behind the last too (6), masks collected once more (7), and an opening of the product before any message (9). The
-- messages of row 6 are made between the two calls of the finish.
unfoldable pub steps : List Step
steps =
    load_row_of 0 (own 0)
    ∷ load_row_of 1 (own 1)
    ∷ load_row_of 2 (own 2)
    ∷ load_triple_of 3 (own 3)
    ∷ deal 0 (sent 0)
    ∷ deal 1 (fixed 4)
    ∷ deal 2 (sent 2)
    ∷ deal 0 (sent 0)
    ∷ linear 6 0 1 1 0
    ∷ linear row_count_of 0 1 1 0
    ∷ masks 0 1 3 (λ i. still (replicate 4 0))
    ∷ collect 3 masks_a masks_b
    ∷ collect 3 masks_a masks_b
    ∷ message 6 1 (λ i. still (replicate 2 0)) (λ i. true)
    ∷ multiply 3
    ∷ opening 5 nothing
    ∷ message 5 1 used (λ i. true)
    ∷ opening 5 products
    ∷ opening 6 sums
    ∷ []
