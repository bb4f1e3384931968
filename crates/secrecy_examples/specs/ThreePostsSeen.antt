-- What post 3 sees of the example, number by number.
use Rattle.std.specs.Prelude.{ℕ, ◌≡◌, true, List, [], ◌∷◌, ◌++◌, map, take, get_or, replicate}
use Rattle.forms.specs.Lines.{text}
use Rattle.forms.specs.Lines as Line
use Rattle.runs.specs.Calls.{message, opening_line, masks_line}
use Rattle.secrecy.specs.Steps as Steps
use Rattle.secrecy.specs.Steps.{call_at}
use Rattle.secrecy.specs.Seen.{Entry, Seen, posts}
use Rattle.secrecy.specs.Claim.{desks_of}
use Rattle.secrecy_examples.specs.Example.{Example, plan_of, secrets_of, opened_by, padded, of, filled, entry, calls}
use Rattle.secrecy_examples.specs.ThreePosts.{raws, triples, group, zeros}
use Rattle.secrecy_examples.specs.ThreePosts.{masks_sent, product_sent, sum_sent, nothing, masks_a, masks_b, products, sums, used, steps, draw}

-- Post 3's rows as they come from the factory; the first is P4 of document 01.
abbrev pub raw0 : List ℕ
raw0 = 5 ∷ 6 ∷ 11 ∷ 8 ∷ 35 ∷ 12 ∷ 18 ∷ 24 ∷ []

abbrev pub raw1 : List ℕ
raw1 = 4 ∷ 2 ∷ 7 ∷ 6 ∷ 14 ∷ 10 ∷ 14 ∷ 22 ∷ []

abbrev pub raw2 : List ℕ
raw2 = 7 ∷ 4 ∷ 21 ∷ 47 ∷ 27 ∷ 15 ∷ 12 ∷ 18 ∷ []

-- the triple's three rows
abbrev pub loaded : List ℕ
loaded =
    (1 ∷ 7 ∷ 10 ∷ 13 ∷ 36 ∷ 8 ∷ 7 ∷ 6 ∷ [])
    ++ ((2 ∷ 2 ∷ 6 ∷ 21 ∷ 12 ∷ 8 ∷ 15 ∷ 13 ∷ []) ++ (5 ∷ 2 ∷ 9 ∷ 23 ∷ 15 ∷ 23 ∷ 36 ∷ 42 ∷ []))

-- the rows once they are dealt: with −1, 4 and 1
abbrev pub dealt0 : List ℕ
dealt0 = 5 ∷ 6 ∷ 11 ∷ 8 ∷ 35 ∷ 11 ∷ 17 ∷ 23 ∷ []

abbrev pub dealt1 : List ℕ
dealt1 = 4 ∷ 2 ∷ 7 ∷ 6 ∷ 14 ∷ 14 ∷ 18 ∷ 26 ∷ []

abbrev pub dealt2 : List ℕ
dealt2 = 7 ∷ 4 ∷ 21 ∷ 47 ∷ 27 ∷ 16 ∷ 13 ∷ 19 ∷ []

-- the sum; and the triple's rows with the product in the third
abbrev pub sum6 : List ℕ
sum6 = 9 ∷ 8 ∷ 18 ∷ 14 ∷ 49 ∷ 25 ∷ 35 ∷ 49 ∷ []

abbrev pub spent : List ℕ
spent =
    (1 ∷ 7 ∷ 10 ∷ 13 ∷ 36 ∷ 8 ∷ 7 ∷ 6 ∷ [])
    ++ ((2 ∷ 2 ∷ 6 ∷ 21 ∷ 12 ∷ 8 ∷ 15 ∷ 13 ∷ []) ++ (15 ∷ 24 ∷ 53 ∷ 133 ∷ 135 ∷ 79 ∷ 118 ∷ 114 ∷ []))

-- One call, with post 3's rows after it.
abbrev pub call : ℕ → ℕ → List (List ℕ) → List ℕ → Entry
call refusal opened lines xs = entry 3 refusal opened lines (filled zeros 3 xs ∷ [])

-- the M lines, and the O lines of rows 5 and 6
abbrev pub masks_lines : List (List ℕ)
masks_lines = map (λ j. masks_line 3 j (of masks_sent j)) (posts 3)

abbrev pub product_lines : List (List ℕ)
product_lines = map (λ j. opening_line 5 j (of product_sent j)) (posts 3)

abbrev pub sum_lines : List (List ℕ)
sum_lines = map (λ j. opening_line 6 j (of sum_sent j)) (posts 3)

-- the rows before the product and the sum, with the sum, and with both
abbrev pub dealt : List ℕ
dealt = dealt0 ++ (dealt1 ++ (dealt2 ++ loaded))

abbrev pub summed : List ℕ
summed = dealt ++ sum6

abbrev pub finished : List ℕ
finished = dealt0 ++ (dealt1 ++ (dealt2 ++ (spent ++ sum6)))

unfoldable pub told : List Entry
told =
    call 0 0 [] raw0
    ∷ call 0 0 [] (raw0 ++ raw1)
    ∷ call 0 0 [] (raw0 ++ (raw1 ++ raw2))
    ∷ call 0 0 [] (raw0 ++ (raw1 ++ (raw2 ++ loaded)))
    ∷ call 0 0 [] (dealt0 ++ (raw1 ++ (raw2 ++ loaded)))
    ∷ call 0 0 [] (dealt0 ++ (dealt1 ++ (raw2 ++ loaded)))
    ∷ call 0 0 [] dealt
    ∷ call 7 0 [] dealt
    ∷ call 0 0 [] summed
    ∷ call 6 0 [] summed
    ∷ call 0 0 masks_lines summed
    ∷ call 0 0 [] summed
    ∷ call 7 0 [] summed
    ∷ call 0 0 sum_lines summed
    ∷ call 0 0 [] finished
    ∷ call 9 0 [] finished
    ∷ call 0 0 product_lines finished
    ∷ call 0 42 [] finished
    ∷ call 0 13 [] finished
    ∷ []

-- The whole record: check point and packs; f of row 2, whose dealer is post 3; the D lines; and what is seen of each call.
unfoldable pub shown : Seen
shown =
    record {
      points = (5 ∷ []) ∷ [];
      raws = padded (raw0 ∷ raw1 ∷ raw2 ∷ []) ∷ [];
      triples = padded ([] ∷ [] ∷ [] ∷ loaded ∷ []) ∷ [];
      polynomials = padded ([] ∷ [] ∷ (8 ∷ 1 ∷ []) ∷ []);
      deals = padded (text (Line.deal 0 2147483646) ∷ text (Line.deal 1 4) ∷ text (Line.deal 2 1) ∷ []);
      entries = told;
    }

-- 6, 7 and 9 are dealt, or 7, 6 and 9.
unfoldable pub three : Example
unfolding shown told raws triples group draw zeros nothing masks_a masks_b products sums steps
three =
    record {
      n = 3;
      t = 1;
      points = 1;
      raws = raws;
      triples = triples;
      group = group;
      rows = zeros;
      orders = calls steps;
      draw = draw;
      secrets = 6 ∷ 7 ∷ 9 ∷ [];
      secrets' = 7 ∷ 6 ∷ 9 ∷ [];
      shown = shown;
    }

-- The message of row 5 as each post makes it: the list that it is lent holds what was sent of row 6.
abbrev pub ThreeLent : Type 0
ThreeLent =
    map (λ i. call_at (plan_of three) draw (secrets_of three.secrets) [] i (Steps.message 5 1 used (λ i. true))) (posts 3)
    ≡ map (λ i. message 5 1 (of sum_sent i)) (posts 3)

-- Every post's session at the end: the marks of rows 0 to 7; and of the triple at row 3 the factor rows, 0 and 1, and the numbers that
-- its masks were opened to, 4 and 2 (P9).
abbrev pub ThreeEnds : Type 0
ThreeEnds =
    map
    (λ i.
    let s = (desks_of (plan_of three) zeros (calls steps) shown (secrets_of three.secrets) draw i).post.session in
    take 8 s.marks ++ (get_or s.factor_a 3 0 ∷ get_or s.factor_b 3 0 ∷ get_or s.y_a 3 0 ∷ get_or s.y_b 3 0 ∷ []))
    (posts 3)
    ≡ replicate 3 (2 ∷ 2 ∷ 2 ∷ 6 ∷ 6 ∷ 2 ∷ 2 ∷ 0 ∷ 0 ∷ 1 ∷ 4 ∷ 2 ∷ [])

-- The product's opening is the call at place 17 of the list, counted from 0, the sum's the one at 18.
abbrev pub ThreeOpened : Type 0
ThreeOpened = (opened_by three 17 ≡ replicate 3 42) × (opened_by three 18 ≡ replicate 3 13)
