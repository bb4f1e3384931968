-- An example for demand 3 with two check points a post (document 02, (ix)): n = 3, t = 1, check points 2 and 4, 3 and 5, 5 and 7; post 3 is
-- the group. 6 and 7 are dealt, or 7 and 6; their sum and their product are made and opened. Post 3 sees two values of each polynomial.
use Rattle.std.specs.Prelude.{ℕ, ◌≡◌, true, List, [], ◌∷◌, ◌++◌, map, take, drop, replicate}
use Rattle.shape.specs.Lengths.{shape, rows_length}
use Rattle.forms.specs.Lines.{text}
use Rattle.forms.specs.Lines as Line
use Rattle.runs.specs.Draws.{Raw, Draw, by}
use Rattle.runs.specs.Calls.{opening_line, masks_line}
use Rattle.secrecy.specs.Steps.{Record, Step, own, sent, load_row_of, load_triple_of, deal, message, opening, linear, masks, collect, multiply}
use Rattle.secrecy.specs.Seen.{Entry, Seen, posts}
use Rattle.secrecy_examples.specs.Example.{Example, opened_by, padded, of, blocks, present, still, filled, entry, calls}

-- Row 0 is dealt by post 1, row 1 by someone who is no post; one triple, at row 2.
unfoldable pub raws : List Raw
raws = by 1 ∷ by 0 ∷ []

-- f = 7 + 4z, v1 = 1 + 2z + zz, v2 = 3 + z + 2zz, v3 = 5 + 6z + 3zz for row 0. The triple's l is 2 and its l' is 5.
unfoldable pub draw : Draw
draw =
    record {
      points = 2 ∷ 4 ∷ 3 ∷ 5 ∷ 5 ∷ 7 ∷ [];
      raws =
          padded
          ((7 ∷ 4 ∷ 1 ∷ 2 ∷ 1 ∷ 3 ∷ 1 ∷ 2 ∷ 5 ∷ 6 ∷ 3 ∷ [])
          ∷ (3 ∷ 5 ∷ 2 ∷ 1 ∷ 1 ∷ 1 ∷ 1 ∷ 4 ∷ 4 ∷ 2 ∷ 1 ∷ [])
          ∷ []);
      triples =
          padded
          ([]
          ∷ []
          ∷ ((2 ∷ 1 ∷ 5 ∷ 1 ∷ 2 ∷ 3 ∷ 2 ∷ 1 ∷ 1 ∷ 7 ∷ 2 ∷ [])
          ++ ((5 ∷ 2 ∷ 1 ∷ 1 ∷ 3 ∷ 6 ∷ 3 ∷ 1 ∷ 2 ∷ 2 ∷ 4 ∷ []) ++ (9 ∷ 4 ∷ 1 ∷ 2 ∷ 8 ∷ 3 ∷ 1 ∷ 5 ∷ 2 ∷ 6 ∷ [])))
          ∷ []);
    }

unfoldable pub zeros : ℕ → List ℕ
zeros i = replicate (rows_length (shape 3 1 2)) 0

-- The posts' masks, and their messages of the product and of the sum: 2t+1 coefficients each.
abbrev pub masks_sent : List (List ℕ)
masks_sent =
    (2147483643 ∷ 1 ∷ 2147483646 ∷ 1 ∷ 0 ∷ 2147483645 ∷ [])
    ∷ (0 ∷ 2147483646 ∷ 1 ∷ 2147483642 ∷ 2147483645 ∷ 3 ∷ [])
    ∷ (4 ∷ 2147483646 ∷ 1 ∷ 2 ∷ 0 ∷ 2147483644 ∷ [])
    ∷ []

abbrev pub product_sent : List (List ℕ)
product_sent = (18 ∷ 7 ∷ 18 ∷ []) ∷ (38 ∷ 19 ∷ 7 ∷ []) ∷ (15 ∷ 24 ∷ 26 ∷ []) ∷ []

abbrev pub sum_sent : List (List ℕ)
sum_sent = (3 ∷ 3 ∷ 2 ∷ []) ∷ (4 ∷ 2 ∷ 6 ∷ []) ∷ (9 ∷ 8 ∷ 4 ∷ []) ∷ []

-- Records, the same for all three posts.
unfoldable pub masks_a : Record
masks_a i lines = blocks 3 (λ j. present (take 3 (of masks_sent j)))

unfoldable pub masks_b : Record
masks_b i lines = blocks 3 (λ j. present (drop 3 (of masks_sent j)))

unfoldable pub products : Record
products i lines = blocks 3 (λ j. present (of product_sent j))

unfoldable pub sums : Record
sums i lines = blocks 3 (λ j. present (of sum_sent j))

unfoldable pub steps : List Step
steps =
    load_row_of 0 (own 0)
    ∷ load_row_of 1 (own 1)
    ∷ load_triple_of 2 (own 2)
    ∷ deal 0 (sent 0)
    ∷ deal 1 (sent 1)
    ∷ linear 5 0 1 1 0
    ∷ masks 0 1 2 (λ i. still (replicate 6 0))
    ∷ collect 2 masks_a masks_b
    ∷ multiply 2
    ∷ message 4 1 (λ i. still (replicate 3 0)) (λ i. true)
    ∷ message 5 1 (λ i. still (replicate 3 0)) (λ i. true)
    ∷ opening 4 products
    ∷ opening 5 sums
    ∷ []

-- Post 3's rows as they come from the factory, at 5 and 7; the triple's three rows; the rows dealt with −1 and 4; their sum; and the
-- triple's rows with the product in the third.
abbrev pub raw0 : List ℕ
raw0 = 5 ∷ 6 ∷ 3 ∷ 36 ∷ 64 ∷ 58 ∷ 108 ∷ 110 ∷ 194 ∷ 12 ∷ 18 ∷ 24 ∷ []

abbrev pub raw1 : List ℕ
raw1 = 4 ∷ 2 ∷ 1 ∷ 32 ∷ 58 ∷ 106 ∷ 204 ∷ 39 ∷ 67 ∷ 10 ∷ 14 ∷ 22 ∷ []

abbrev pub factors : List ℕ
factors = (1 ∷ 7 ∷ 2 ∷ 60 ∷ 110 ∷ 38 ∷ 66 ∷ 86 ∷ 148 ∷ 8 ∷ 7 ∷ 6 ∷ []) ++ (2 ∷ 2 ∷ 4 ∷ 81 ∷ 155 ∷ 46 ∷ 76 ∷ 112 ∷ 212 ∷ 8 ∷ 15 ∷ 13 ∷ [])

abbrev pub loaded : List ℕ
loaded = factors ++ (5 ∷ 2 ∷ 6 ∷ 59 ∷ 109 ∷ 48 ∷ 78 ∷ 165 ∷ 313 ∷ 23 ∷ 36 ∷ 42 ∷ [])

abbrev pub spent : List ℕ
spent = factors ++ (15 ∷ 24 ∷ 26 ∷ 503 ∷ 949 ∷ 308 ∷ 514 ∷ 785 ∷ 1457 ∷ 79 ∷ 118 ∷ 114 ∷ [])

abbrev pub dealt0 : List ℕ
dealt0 = 5 ∷ 6 ∷ 3 ∷ 36 ∷ 64 ∷ 58 ∷ 108 ∷ 110 ∷ 194 ∷ 11 ∷ 17 ∷ 23 ∷ []

abbrev pub dealt1 : List ℕ
dealt1 = 4 ∷ 2 ∷ 1 ∷ 32 ∷ 58 ∷ 106 ∷ 204 ∷ 39 ∷ 67 ∷ 14 ∷ 18 ∷ 26 ∷ []

abbrev pub sum5 : List ℕ
sum5 = 9 ∷ 8 ∷ 4 ∷ 68 ∷ 122 ∷ 164 ∷ 312 ∷ 149 ∷ 261 ∷ 25 ∷ 35 ∷ 49 ∷ []

-- One call, with post 3's rows after it.
abbrev pub call : ℕ → List (List ℕ) → List ℕ → Entry
call opened lines xs = entry 3 0 opened lines (filled zeros 3 xs ∷ [])

abbrev pub summed : List ℕ
summed = dealt0 ++ (dealt1 ++ (loaded ++ sum5))

abbrev pub finished : List ℕ
finished = dealt0 ++ (dealt1 ++ (spent ++ sum5))

unfoldable pub told : List Entry
told =
    call 0 [] raw0
    ∷ call 0 [] (raw0 ++ raw1)
    ∷ call 0 [] (raw0 ++ (raw1 ++ loaded))
    ∷ call 0 [] (dealt0 ++ (raw1 ++ loaded))
    ∷ call 0 [] (dealt0 ++ (dealt1 ++ loaded))
    ∷ call 0 [] summed
    ∷ call 0 (map (λ j. masks_line 2 j (of masks_sent j)) (posts 3)) summed
    ∷ call 0 [] summed
    ∷ call 0 [] finished
    ∷ call 0 (map (λ j. opening_line 4 j (of product_sent j)) (posts 3)) finished
    ∷ call 0 (map (λ j. opening_line 5 j (of sum_sent j)) (posts 3)) finished
    ∷ call 42 [] finished
    ∷ call 13 [] finished
    ∷ []

-- The whole record: both check points and the packs; the D lines; and what is seen of each call.
unfoldable pub shown : Seen
shown =
    record {
      points = (5 ∷ 7 ∷ []) ∷ [];
      raws = padded (raw0 ∷ raw1 ∷ []) ∷ [];
      triples = padded ([] ∷ [] ∷ loaded ∷ []) ∷ [];
      polynomials = padded [];
      deals = padded (text (Line.deal 0 2147483646) ∷ text (Line.deal 1 4) ∷ []);
      entries = told;
    }

-- 6 and 7 are dealt, or 7 and 6.
unfoldable pub two_points : Example
unfolding shown told raws draw zeros masks_a masks_b products sums steps
two_points =
    record {
      n = 3;
      t = 1;
      points = 2;
      raws = raws;
      triples = 2 ∷ [];
      group = 3 ∷ [];
      rows = zeros;
      orders = calls steps;
      draw = draw;
      secrets = 6 ∷ 7 ∷ [];
      secrets' = 7 ∷ 6 ∷ [];
      shown = shown;
    }

-- The product's opening is the call at place 11 of the list, counted from 0, the sum's the one at 12.
abbrev pub TwoPointsOpened : Type 0
TwoPointsOpened = (opened_by two_points 11 ≡ replicate 3 42) × (opened_by two_points 12 ≡ replicate 3 13)
