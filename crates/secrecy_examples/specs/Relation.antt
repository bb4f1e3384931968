-- A fourth example for demand 3, with the raw rows and the group of the first and a second triple: a relation (document 02, (v)) with
-- two product terms. a, b and c are dealt, 6, 7 and 78, or 5, 8 and 65; a × b + a × a − c is opened, and is 0 in both.
use Rattle.std.specs.Prelude.{ℕ, ◌≡◌, true, List, [], ◌∷◌, ◌++◌, map, take, drop, replicate}
use Rattle.forms.specs.Lines.{text}
use Rattle.forms.specs.Lines as Line
use Rattle.terms.specs.declared.Term.{Term}
use Rattle.terms.specs.Listed.{no_row}
use Rattle.runs.specs.Draws.{Raw, Draw, by}
use Rattle.runs.specs.Calls.{opening_line, masks_line}
use Rattle.secrecy.specs.Steps.{Record, Step, own, sent, load_row_of, load_triple_of, deal, message, opening, relation_masks_of, relation_finish_of}
use Rattle.secrecy.specs.Seen.{Entry, Seen, posts, joined}
use Rattle.secrecy_examples.specs.Example.{Example, opened_by, booked_at, padded, of, blocks, present, still, calls}
use Rattle.secrecy_examples.specs.ThreePosts as Three
use Rattle.secrecy_examples.specs.ThreePosts.{group, zeros, masks_sent, masks_a, masks_b}
use Rattle.secrecy_examples.specs.ThreePostsSeen.{raw0, raw1, raw2, loaded, dealt0, dealt1, spent, call}

-- No dealer is in the group.
unfoldable pub dealers : List Raw
dealers = by 1 ∷ by 0 ∷ by 0 ∷ []

unfoldable pub triples : List ℕ
triples = 3 ∷ 6 ∷ []

unfoldable pub draw : Draw
draw =
    record {
      points = (Three.draw).points;
      raws = (Three.draw).raws;
      triples =
          padded
          ([]
          ∷ []
          ∷ []
          ∷ (2 ∷ 1 ∷ 5 ∷ 1 ∷ 3 ∷ 2 ∷ 1 ∷ 7 ∷ 5 ∷ 2 ∷ 1 ∷ 1 ∷ 6 ∷ 3 ∷ 2 ∷ 2 ∷ 9 ∷ 4 ∷ 1 ∷ 8 ∷ 3 ∷ 5 ∷ 2 ∷ [])
          ∷ []
          ∷ []
          ∷ (3 ∷ 1 ∷ 2 ∷ 4 ∷ 1 ∷ 3 ∷ 6 ∷ 2 ∷ 4 ∷ 2 ∷ 3 ∷ 3 ∷ 2 ∷ 1 ∷ 1 ∷ 5 ∷ 7 ∷ 5 ∷ 2 ∷ 4 ∷ 6 ∷ 3 ∷ 1 ∷ [])
          ∷ []);
    }

-- a × b by the triple at 3, −1 times c, and a × a by the triple at 6
abbrev pub terms : List Term
terms =
    record { coefficient = 1; row = 0; second = 1; first = 3 }
    ∷ record { coefficient = 2147483646; row = 2; second = no_row; first = 0 }
    ∷ record { coefficient = 1; row = 0; second = 0; first = 6 }
    ∷ []

-- The posts' masks by the triple at 6; by that at 3 they are those of the first example.
abbrev pub square_sent : List (List ℕ)
square_sent =
    (2147483646 ∷ 2147483645 ∷ 2147483645 ∷ 2147483646 ∷ [])
    ∷ (2 ∷ 2147483645 ∷ 1 ∷ 0 ∷ [])
    ∷ (2147483646 ∷ 4 ∷ 4 ∷ 1 ∷ [])
    ∷ []

-- the four records in one list; the posts' messages of the sum
unfoldable pub records : Record
records i lines =
    (masks_a i lines ++ masks_b i lines)
    ++ (blocks 3 (λ j. present (take 2 (of square_sent j))) ++ blocks 3 (λ j. present (drop 2 (of square_sent j))))

abbrev pub sum_sent : List (List ℕ)
sum_sent = (30 ∷ 23 ∷ []) ∷ (48 ∷ 25 ∷ []) ∷ (26 ∷ 40 ∷ []) ∷ []

unfoldable pub messages : Record
messages i lines = blocks 3 (λ j. present (of sum_sent j))

-- A finish without the others' masks is refused (9), and so is a second relation by the same triple (7).
unfoldable pub steps : List Step
steps =
    load_row_of 0 (own 0)
    ∷ load_row_of 1 (own 1)
    ∷ load_row_of 2 (own 2)
    ∷ load_triple_of 3 (own 3)
    ∷ load_triple_of 6 (own 6)
    ∷ deal 0 (sent 0)
    ∷ deal 1 (sent 1)
    ∷ deal 2 (sent 2)
    ∷ relation_masks_of terms (λ i. still (replicate 8 0))
    ∷ relation_finish_of terms 9 (λ i lines. replicate 36 0)
    ∷ relation_masks_of terms (λ i. still (replicate 8 0))
    ∷ relation_finish_of terms 9 records
    ∷ message 9 1 (λ i. still (replicate 2 0)) (λ i. true)
    ∷ opening 9 messages
    ∷ []

-- ---- what post 3 sees

-- row 2 once it is dealt, with 70; the second triple's rows, and with the product in the third; the sum
abbrev pub dealt2 : List ℕ
dealt2 = 7 ∷ 4 ∷ 21 ∷ 47 ∷ 27 ∷ 85 ∷ 82 ∷ 88 ∷ []

abbrev pub loaded6 : List ℕ
loaded6 =
    (6 ∷ 2 ∷ 22 ∷ 16 ∷ 16 ∷ 6 ∷ 6 ∷ 12 ∷ [])
    ++ ((1 ∷ 5 ∷ 18 ∷ 7 ∷ 26 ∷ 9 ∷ 10 ∷ 11 ∷ []) ++ (3 ∷ 1 ∷ 15 ∷ 34 ∷ 8 ∷ 24 ∷ 30 ∷ 36 ∷ []))

abbrev pub spent6 : List ℕ
spent6 =
    (6 ∷ 2 ∷ 22 ∷ 16 ∷ 16 ∷ 6 ∷ 6 ∷ 12 ∷ [])
    ++ ((1 ∷ 5 ∷ 18 ∷ 7 ∷ 26 ∷ 9 ∷ 10 ∷ 11 ∷ []) ++ (18 ∷ 20 ∷ 113 ∷ 87 ∷ 118 ∷ 69 ∷ 78 ∷ 99 ∷ []))

abbrev pub sum9 : List ℕ
sum9 = 26 ∷ 40 ∷ 145 ∷ 173 ∷ 226 ∷ 63 ∷ 114 ∷ 125 ∷ []

abbrev pub raw : List ℕ
raw = raw0 ++ (raw1 ++ raw2)

abbrev pub both : List ℕ
both = loaded ++ loaded6

abbrev pub dealt : List ℕ
dealt = dealt0 ++ (dealt1 ++ (dealt2 ++ both))

abbrev pub finished : List ℕ
finished = dealt0 ++ (dealt1 ++ (dealt2 ++ (spent ++ (spent6 ++ sum9))))

-- the M lines of one call: of each post one for each product term
abbrev pub two_lines : List (List ℕ)
two_lines = joined (map (λ j. masks_line 3 j (of masks_sent j) ∷ masks_line 6 j (of square_sent j) ∷ []) (posts 3))

unfoldable pub told : List Entry
told =
    call 0 0 [] raw0
    ∷ call 0 0 [] (raw0 ++ raw1)
    ∷ call 0 0 [] raw
    ∷ call 0 0 [] (raw ++ loaded)
    ∷ call 0 0 [] (raw ++ both)
    ∷ call 0 0 [] (dealt0 ++ (raw1 ++ (raw2 ++ both)))
    ∷ call 0 0 [] (dealt0 ++ (dealt1 ++ (raw2 ++ both)))
    ∷ call 0 0 [] dealt
    ∷ call 0 0 two_lines dealt
    ∷ call 9 0 [] dealt
    ∷ call 7 0 [] dealt
    ∷ call 0 0 [] finished
    ∷ call 0 0 (map (λ j. opening_line 9 j (of sum_sent j)) (posts 3)) finished
    ∷ call 0 0 [] finished
    ∷ []

unfoldable pub shown : Seen
shown =
    record {
      points = (5 ∷ []) ∷ [];
      raws = padded (raw0 ∷ raw1 ∷ raw2 ∷ []) ∷ [];
      triples = padded ([] ∷ [] ∷ [] ∷ loaded ∷ [] ∷ [] ∷ loaded6 ∷ []) ∷ [];
      polynomials = padded [];
      deals = padded (text (Line.deal 0 2147483646) ∷ text (Line.deal 1 4) ∷ text (Line.deal 2 70) ∷ []);
      entries = told;
    }

unfoldable pub relation : Example
unfolding shown told dealers triples group Three.draw draw zeros masks_a masks_b records messages steps
relation =
    record {
      n = 3;
      t = 1;
      points = 1;
      raws = dealers;
      triples = triples;
      group = group;
      rows = zeros;
      orders = calls steps;
      draw = draw;
      secrets = 6 ∷ 7 ∷ 78 ∷ [];
      secrets' = 5 ∷ 8 ∷ 65 ∷ [];
      shown = shown;
    }

-- The opening is the call at place 13 of the list, counted from 0.
abbrev pub RelationOpened : Type 0
RelationOpened = opened_by relation 13 ≡ replicate 3 0

-- "In 01's plain book that row's number is the sum of the terms": 0 in both books; the products, in the triples' third rows, differ.
abbrev pub RelationBooks : Type 0
RelationBooks =
    (booked_at relation relation.secrets 9 ≡ 0)
    × (booked_at relation relation.secrets' 9 ≡ 0)
    × (booked_at relation relation.secrets 5 ≡ 42)
    × (booked_at relation relation.secrets' 5 ≡ 40)
    × (booked_at relation relation.secrets 8 ≡ 36)
    × (booked_at relation relation.secrets' 8 ≡ 25)
