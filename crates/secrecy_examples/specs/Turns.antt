-- An example for demand 3 with several dealers (document 02, (xii)), with the draw and the group of the first: 6, 7 and 9 are dealt by turns, or
-- 7, 6 and 9, and the sum of rows 0 and 1 is opened.
use Rattle.std.specs.Prelude.{ℕ, ◌*◌, ◌-◌, ◌≡◌, true, List, [], ◌∷◌, ◌++◌, map, get_or, replicate}
use Rattle.forms.specs.Lines.{text}
use Rattle.forms.specs.Lines as Line
use Rattle.runs.specs.Orders.{call, place, turn}
use Rattle.secrecy.specs.Steps.{Item, own, theirs, bytes, load_row_of, message, opening, linear}
use Rattle.secrecy.specs.Seen.{Entry, Seen, posts}
use Rattle.secrecy.specs.Claim.{desks_of}
use Rattle.secrecy_examples.specs.Example.{Example, plan_of, secrets_of, opened_by, booked_at, padded, still}
use Rattle.secrecy_examples.specs.ThreePosts.{raws, triples, group, draw, zeros, sums}
use Rattle.secrecy_examples.specs.ThreePostsSeen.{raw0, raw1, raw2, loaded, dealt0, dealt1, dealt2, sum6, sum_lines}
use Rattle.secrecy_examples.specs.ThreePostsSeen as Three

-- A turn finds no line. Dealer 3 sends the line of row 0's dealer, and then one for a place still filled (17); there is no dealer 9 (16); dealer
-- 5's line is an O line of right form; row 3 has no dealer, and so no line (10). Dealer 1 sends the bytes `D,1,4`, which row 1's dealer
-- broadcast. Turns: dealer 1's line, whose row 1 is dealt; dealer 3's, row 0; dealer 5's (10); dealer 1's next, of row 1 once more (7); none.
-- Then dealer 2 sends, and is served.
unfoldable pub orders : List Item
orders =
    call (load_row_of 0 (own 0))
    ∷ call (load_row_of 1 (own 1))
    ∷ call (load_row_of 2 (own 2))
    ∷ turn
    ∷ place 3 (theirs 0)
    ∷ place 3 (theirs 1)
    ∷ place 9 (theirs 1)
    ∷ place 5 (bytes (79 ∷ 44 ∷ 48 ∷ 44 ∷ 49 ∷ 44 ∷ 53 ∷ 44 ∷ 54 ∷ 10 ∷ []))
    ∷ place 1 (theirs 3)
    ∷ place 1 (bytes (68 ∷ 44 ∷ 49 ∷ 44 ∷ 52 ∷ 10 ∷ []))
    ∷ turn
    ∷ place 1 (theirs 1)
    ∷ turn
    ∷ turn
    ∷ turn
    ∷ turn
    ∷ place 2 (theirs 2)
    ∷ turn
    ∷ call (linear 6 0 1 1 0)
    ∷ call (message 6 1 (λ i. still (replicate 2 0)) (λ i. true))
    ∷ call (opening 6 sums)
    ∷ []

-- ---- what post 3 sees

abbrev pub loaded_rows : List ℕ
loaded_rows = raw0 ++ (raw1 ++ raw2)

abbrev pub one_dealt : List ℕ
one_dealt = raw0 ++ (dealt1 ++ raw2)

abbrev pub two_dealt : List ℕ
two_dealt = dealt0 ++ (dealt1 ++ raw2)

abbrev pub dealt_rows : List ℕ
dealt_rows = dealt0 ++ (dealt1 ++ dealt2)

abbrev pub summed : List ℕ
summed = dealt_rows ++ (replicate 24 0 ++ sum6)

unfoldable pub told : List Entry
told =
    Three.call 0 0 [] raw0
    ∷ Three.call 0 0 [] (raw0 ++ raw1)
    ∷ Three.call 0 0 [] loaded_rows
    ∷ Three.call 0 0 [] loaded_rows
    ∷ Three.call 0 0 [] loaded_rows
    ∷ Three.call 17 0 [] loaded_rows
    ∷ Three.call 16 0 [] loaded_rows
    ∷ Three.call 0 0 [] loaded_rows
    ∷ Three.call 10 0 [] loaded_rows
    ∷ Three.call 0 0 [] loaded_rows
    ∷ Three.call 0 0 [] one_dealt
    ∷ Three.call 0 0 [] one_dealt
    ∷ Three.call 0 0 [] two_dealt
    ∷ Three.call 10 0 [] two_dealt
    ∷ Three.call 7 0 [] two_dealt
    ∷ Three.call 0 0 [] two_dealt
    ∷ Three.call 0 0 [] two_dealt
    ∷ Three.call 0 0 [] dealt_rows
    ∷ Three.call 0 0 [] summed
    ∷ Three.call 0 0 sum_lines summed
    ∷ Three.call 0 13 [] summed
    ∷ []

unfoldable pub shown : Seen
shown =
    record {
      points = (5 ∷ []) ∷ [];
      raws = padded (raw0 ∷ raw1 ∷ raw2 ∷ []) ∷ [];
      triples = padded ([] ∷ [] ∷ [] ∷ loaded ∷ []) ∷ [];
      polynomials = padded ([] ∷ [] ∷ (8 ∷ 1 ∷ []) ∷ []);
      deals = padded (text (Line.deal 0 2147483646) ∷ text (Line.deal 1 4) ∷ text (Line.deal 2 1) ∷ []);
      entries = told;
    }

unfoldable pub turns : Example
unfolding shown told raws triples group draw zeros sums orders
turns =
    record {
      n = 3;
      t = 1;
      points = 1;
      raws = raws;
      triples = triples;
      group = group;
      rows = zeros;
      orders = orders;
      draw = draw;
      secrets = 6 ∷ 7 ∷ 9 ∷ [];
      secrets' = 7 ∷ 6 ∷ 9 ∷ [];
      shown = shown;
    }

-- The book has the deals of the turns, by the lines of a row's dealer and by fixed bytes.
abbrev pub TurnsBooks : Type 0
TurnsBooks =
    (opened_by turns 20 ≡ replicate 3 13)
    × (map (booked_at turns turns.secrets) (0 ∷ 1 ∷ 2 ∷ 6 ∷ []) ≡ 6 ∷ 7 ∷ 9 ∷ 13 ∷ [])
    × (map (booked_at turns turns.secrets') (0 ∷ 1 ∷ 2 ∷ 6 ∷ []) ≡ 7 ∷ 6 ∷ 9 ∷ 13 ∷ [])

-- Every post's state at the end: dealer 2 was served last, no line waits, and the bytes of freed places stand as they did, the length of
-- dealer 5's line gone: `O`, `,`, `0`.
abbrev pub TurnsKept : Type 0
TurnsKept =
    map
    (λ i.
    let s = (desks_of (plan_of turns) zeros orders shown (secrets_of turns.secrets) draw i).state in
    get_or s 0 0 ∷ (map (λ d. get_or s (17 * d - 16) 0) (1 ∷ 2 ∷ 3 ∷ 4 ∷ 5 ∷ 6 ∷ 7 ∷ 8 ∷ []) ++ (get_or s 70 0 ∷ get_or s 71 0 ∷ get_or s 72 0 ∷ [])))
    (posts 3)
    ≡ replicate 3 (2 ∷ (replicate 8 0 ++ (79 ∷ 44 ∷ 48 ∷ [])))
