-- What posts 2 and 4 see of the second example, number by number.
use Rattle.std.specs.Prelude.{ℕ, ◌≡◌, List, [], ◌∷◌, ◌++◌, map, get_or, replicate}
use Rattle.forms.specs.Lines.{text}
use Rattle.forms.specs.Lines as Line
use Rattle.runs.specs.Calls.{load_row_of, opening_line, masks_line}
use Rattle.secrecy.specs.Steps.{call_at}
use Rattle.secrecy.specs.Seen.{Entry, Seen, posts, joined}
use Rattle.secrecy_examples.specs.Example.{Example, plan_of, secrets_of, opened_by, booked_at, padded, of, filled, entry, calls}
use Rattle.secrecy_examples.specs.FourPosts.{raws, triples, group, draw, start}
use Rattle.secrecy_examples.specs.FourPosts.{mixed, masks_sent, product_sent, sum_sent, heard_by, masks_a, masks_b, steps}

-- Row 0 as it comes from the factory, at post 2 and at post 4; rows 1, 2 and 3; the triple's three rows.
abbrev pub raw0 : List (List ℕ)
raw0 = (3 ∷ 1 ∷ 2 ∷ 34 ∷ 24 ∷ 32 ∷ 38 ∷ 13 ∷ 22 ∷ 33 ∷ 41 ∷ []) ∷ (2 ∷ 0 ∷ 4 ∷ 162 ∷ 108 ∷ 96 ∷ 198 ∷ 13 ∷ 22 ∷ 33 ∷ 41 ∷ []) ∷ []

abbrev pub raw1 : List (List ℕ)
raw1 = (1 ∷ 1 ∷ 3 ∷ 14 ∷ 31 ∷ 10 ∷ 27 ∷ 12 ∷ 22 ∷ 40 ∷ 61 ∷ []) ∷ (6 ∷ 1 ∷ 2 ∷ 58 ∷ 155 ∷ 18 ∷ 111 ∷ 12 ∷ 22 ∷ 40 ∷ 61 ∷ []) ∷ []

abbrev pub raw2 : List (List ℕ)
raw2 = (2 ∷ 9 ∷ 5 ∷ 24 ∷ 74 ∷ 37 ∷ 13 ∷ 21 ∷ 36 ∷ 72 ∷ 109 ∷ []) ∷ (1 ∷ 1 ∷ 1 ∷ 76 ∷ 310 ∷ 133 ∷ 57 ∷ 21 ∷ 36 ∷ 72 ∷ 109 ∷ []) ∷ []

abbrev pub raw3 : List (List ℕ)
raw3 = (5 ∷ 1 ∷ 1 ∷ 19 ∷ 17 ∷ 35 ∷ 24 ∷ 10 ∷ 25 ∷ 39 ∷ 63 ∷ []) ∷ (3 ∷ 4 ∷ 1 ∷ 99 ∷ 61 ∷ 163 ∷ 80 ∷ 10 ∷ 25 ∷ 39 ∷ 63 ∷ []) ∷ []

abbrev pub row_l : List (List ℕ)
row_l = (3 ∷ 2 ∷ 1 ∷ 26 ∷ 18 ∷ 58 ∷ 7 ∷ 11 ∷ 19 ∷ 33 ∷ 58 ∷ []) ∷ (4 ∷ 1 ∷ 0 ∷ 110 ∷ 66 ∷ 246 ∷ 11 ∷ 11 ∷ 19 ∷ 33 ∷ 58 ∷ []) ∷ []

abbrev pub row_l' : List (List ℕ)
row_l' = (6 ∷ 3 ∷ 2 ∷ 31 ∷ 33 ∷ 17 ∷ 36 ∷ 9 ∷ 19 ∷ 22 ∷ 32 ∷ []) ∷ (3 ∷ 5 ∷ 2 ∷ 155 ∷ 125 ∷ 65 ∷ 136 ∷ 9 ∷ 19 ∷ 22 ∷ 32 ∷ []) ∷ []

abbrev pub row_l'' : List (List ℕ)
row_l'' = (3 ∷ 5 ∷ 1 ∷ 43 ∷ 27 ∷ 59 ∷ 40 ∷ 24 ∷ 47 ∷ 75 ∷ 117 ∷ []) ∷ (7 ∷ 2 ∷ 3 ∷ 155 ∷ 87 ∷ 303 ∷ 168 ∷ 24 ∷ 47 ∷ 75 ∷ 117 ∷ []) ∷ []

-- the rows once they are dealt: with −4, 7 and 1
abbrev pub dealt0 : List (List ℕ)
dealt0 = (3 ∷ 1 ∷ 2 ∷ 34 ∷ 24 ∷ 32 ∷ 38 ∷ 9 ∷ 18 ∷ 29 ∷ 37 ∷ []) ∷ (2 ∷ 0 ∷ 4 ∷ 162 ∷ 108 ∷ 96 ∷ 198 ∷ 9 ∷ 18 ∷ 29 ∷ 37 ∷ []) ∷ []

abbrev pub dealt1 : List (List ℕ)
dealt1 = (1 ∷ 1 ∷ 3 ∷ 14 ∷ 31 ∷ 10 ∷ 27 ∷ 19 ∷ 29 ∷ 47 ∷ 68 ∷ []) ∷ (6 ∷ 1 ∷ 2 ∷ 58 ∷ 155 ∷ 18 ∷ 111 ∷ 19 ∷ 29 ∷ 47 ∷ 68 ∷ []) ∷ []

abbrev pub dealt2 : List (List ℕ)
dealt2 = (2 ∷ 9 ∷ 5 ∷ 24 ∷ 74 ∷ 37 ∷ 13 ∷ 22 ∷ 37 ∷ 73 ∷ 110 ∷ []) ∷ (1 ∷ 1 ∷ 1 ∷ 76 ∷ 310 ∷ 133 ∷ 57 ∷ 22 ∷ 37 ∷ 73 ∷ 110 ∷ []) ∷ []

-- the sum with a half, the sum, and the product
abbrev pub halved : List (List ℕ)
halved =
    (1073741827 ∷ 1073741825 ∷ 1073741827 ∷ 41 ∷ 1073741863 ∷ 37 ∷ 1073741875 ∷ 1073741842 ∷ 1073741856 ∷ 1073741876 ∷ 71 ∷ [])
    ∷ (5 ∷ 1073741824 ∷ 5 ∷ 191 ∷ 1073742009 ∷ 105 ∷ 1073742077 ∷ 1073741842 ∷ 1073741856 ∷ 1073741876 ∷ 71 ∷ []) ∷ []

abbrev pub summed : List (List ℕ)
summed = (4 ∷ 2 ∷ 5 ∷ 48 ∷ 55 ∷ 42 ∷ 65 ∷ 28 ∷ 47 ∷ 76 ∷ 105 ∷ []) ∷ (8 ∷ 1 ∷ 6 ∷ 220 ∷ 263 ∷ 114 ∷ 309 ∷ 28 ∷ 47 ∷ 76 ∷ 105 ∷ []) ∷ []

abbrev pub multiplied : List (List ℕ)
multiplied = (24 ∷ 18 ∷ 8 ∷ 204 ∷ 150 ∷ 366 ∷ 111 ∷ 93 ∷ 166 ∷ 267 ∷ 444 ∷ []) ∷ (30 ∷ 12 ∷ 5 ∷ 860 ∷ 542 ∷ 1598 ∷ 359 ∷ 93 ∷ 166 ∷ 267 ∷ 444 ∷ []) ∷ []

-- the rows that post 2 (at 0), post 4 (at 1) has of some shared numbers, one after the other
abbrev pub rows_at : ℕ → List (List (List ℕ)) → List (List ℕ)
rows_at k shared = map (λ (row : List (List ℕ)). get_or row k []) shared

-- One call, with what both have from row 0 on after it.
abbrev pub call : ℕ → ℕ → List (List ℕ) → List (List (List ℕ)) → Entry
call refusal opened lines shared =
    entry 4 refusal opened lines
    (filled start 2 (joined (rows_at 0 shared)) ∷ filled start 4 (joined (rows_at 1 shared)) ∷ [])

-- the O lines of the posts in a list
abbrev pub opening_lines : ℕ → List (List ℕ) → List ℕ → List (List ℕ)
opening_lines r messages senders = map (λ j. opening_line r j (of messages j)) senders

abbrev pub masks_lines : List (List ℕ)
masks_lines = map (λ j. masks_line 4 j (of masks_sent j)) (posts 4)

abbrev pub loaded : List (List (List ℕ))
loaded = dealt0 ∷ dealt1 ∷ dealt2 ∷ halved ∷ row_l ∷ row_l' ∷ row_l'' ∷ []

abbrev pub finished : List (List (List ℕ))
finished = dealt0 ∷ dealt1 ∷ dealt2 ∷ halved ∷ row_l ∷ row_l' ∷ multiplied ∷ summed ∷ []

unfoldable pub told : List Entry
told =
    call 0 0 [] (raw0 ∷ [])
    ∷ call 7 0 [] (raw0 ∷ [])
    ∷ call 5 0 [] (raw0 ∷ [])
    ∷ call 0 0 [] (raw0 ∷ raw1 ∷ [])
    ∷ call 0 0 [] (raw0 ∷ raw1 ∷ raw2 ∷ [])
    ∷ call 0 0 [] (dealt0 ∷ raw1 ∷ raw2 ∷ [])
    ∷ call 0 0 [] (dealt0 ∷ dealt1 ∷ raw2 ∷ [])
    ∷ call 0 0 [] (dealt0 ∷ dealt1 ∷ dealt2 ∷ [])
    ∷ call 7 0 [] (dealt0 ∷ dealt1 ∷ dealt2 ∷ [])
    ∷ call 0 0 [] (dealt0 ∷ dealt1 ∷ dealt2 ∷ halved ∷ [])
    ∷ call 7 0 [] (dealt0 ∷ dealt1 ∷ dealt2 ∷ halved ∷ [])
    ∷ call 6 0 [] (dealt0 ∷ dealt1 ∷ dealt2 ∷ halved ∷ [])
    ∷ call 0 0 [] loaded
    ∷ call 0 0 [] (loaded ++ (summed ∷ []))
    ∷ call 0 0 masks_lines (loaded ++ (summed ∷ []))
    ∷ call 7 0 [] (loaded ++ (summed ∷ []))
    ∷ call 9 0 [] (loaded ++ (summed ∷ []))
    ∷ call 0 0 [] (loaded ++ (summed ∷ []))
    ∷ call 0 0 [] finished
    ∷ call 0 0 (opening_lines 6 product_sent (3 ∷ [])) finished
    ∷ call 9 0 [] finished
    ∷ call 0 0 (opening_lines 6 product_sent (1 ∷ 4 ∷ [])) finished
    ∷ call 0 30 [] finished
    ∷ call 0 0 (opening_lines 3 sum_sent (1 ∷ 2 ∷ 3 ∷ [])) finished
    ∷ call 5 0 [] finished
    ∷ call 0 8 [] finished
    ∷ []

abbrev pub drawn_raw : List (List (List ℕ))
drawn_raw = raw0 ∷ raw1 ∷ raw2 ∷ raw3 ∷ []

abbrev pub triple : List (List (List ℕ))
triple = row_l ∷ row_l' ∷ row_l'' ∷ []

-- The whole record: check points and packs; f of row 2, whose dealer is post 4; the D lines; and what is seen of each call.
unfoldable pub shown : Seen
shown =
    record {
      points = (3 ∷ []) ∷ (7 ∷ []) ∷ [];
      raws = padded (rows_at 0 drawn_raw) ∷ padded (rows_at 1 drawn_raw) ∷ [];
      triples =
          padded ([] ∷ [] ∷ [] ∷ [] ∷ joined (rows_at 0 triple) ∷ [])
          ∷ padded ([] ∷ [] ∷ [] ∷ [] ∷ joined (rows_at 1 triple) ∷ [])
          ∷ [];
      polynomials = padded ([] ∷ [] ∷ (8 ∷ 1 ∷ 6 ∷ []) ∷ []);
      deals =
          padded
          (text (Line.deal 0 2147483643) ∷ text (Line.deal 1 7) ∷ text (Line.deal 2 1) ∷ text (Line.deal 3 2147483644) ∷ []);
      entries = told;
    }

-- 3, 10, 9 and 1 are the secrets, or 5, 6, 9 and 2.
unfoldable pub four : Example
unfolding shown told raws triples group draw start mixed heard_by masks_a masks_b steps
four =
    record {
      n = 4;
      t = 2;
      points = 1;
      raws = raws;
      triples = triples;
      group = group;
      rows = start;
      orders = calls steps;
      draw = draw;
      secrets = 3 ∷ 10 ∷ 9 ∷ 1 ∷ [];
      secrets' = 5 ∷ 6 ∷ 9 ∷ 2 ∷ [];
      shown = shown;
    }

-- The product's opening is the 21st call of the list, that of the sum with a half the 24th.
abbrev pub FourOpened : Type 0
FourOpened = (opened_by four 22 ≡ replicate 4 30) × (opened_by four 25 ≡ replicate 4 8)

-- The product, in row 6, is the same in both books; the sum in row 7, which is not opened, is not.
abbrev pub FourBooks : Type 0
FourBooks =
    (booked_at four four.secrets 6 ≡ 30)
    × (booked_at four four.secrets' 6 ≡ 30)
    × (booked_at four four.secrets 7 ≡ 13)
    × (booked_at four four.secrets' 7 ≡ 11)

-- The second call as each post makes it: with post 1's pack twice, fixed numbers, and post 4's pack but for its last number.
abbrev pub FourMixed : Type 0
FourMixed =
    map (λ i. call_at (plan_of four) draw (secrets_of four.secrets) [] i (load_row_of 0 mixed)) (posts 4)
    ≡ map (load_row_of 0)
    ((1 ∷ 2 ∷ 3 ∷ 86 ∷ 58 ∷ 60 ∷ 102 ∷ 13 ∷ 22 ∷ 33 ∷ 41 ∷ [])
    ∷ (1 ∷ 2 ∷ 3 ∷ 86 ∷ 58 ∷ 60 ∷ 102 ∷ 13 ∷ 22 ∷ 33 ∷ 41 ∷ [])
    ∷ replicate 11 8
    ∷ (2 ∷ 0 ∷ 4 ∷ 162 ∷ 108 ∷ 96 ∷ 198 ∷ 13 ∷ 22 ∷ 33 ∷ 2147483647 ∷ [])
    ∷ [])
