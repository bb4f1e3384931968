-- A third example for demand 3, with the draw and the group of the first: rides and rate are dealt, 2 and 4, or 1 and 6; 1 is added
-- to the rides by a fee, and that times the rate is opened. (2 + 1) · 4 and (1 + 1) · 6 agree; without the fee 2 · 4 and 1 · 6 don't.
use Rattle.std.specs.Prelude.{ℕ, ◌≡◌, true, List, [], ◌∷◌, ◌++◌, map, replicate}
use Rattle.field.specs.Modulus.{p}
use Rattle.forms.specs.Lines.{text}
use Rattle.forms.specs.Lines as Line
use Rattle.runs.specs.Calls.{opening_line}
use Rattle.secrecy.specs.Steps.{Record, Step, own, sent, load_row_of, load_triple_of, deal, message, opening, linear, masks, collect, multiply}
use Rattle.secrecy.specs.Seen.{Entry, Seen, posts}
use Rattle.secrecy_examples.specs.Example.{Example, opened_by, booked_at, padded, of, blocks, present, still, calls}
use Rattle.secrecy_examples.specs.ThreePosts.{raws, triples, group, draw, zeros, masks_a, masks_b}
use Rattle.secrecy_examples.specs.ThreePostsSeen.{raw0, raw1, raw2, loaded, masks_lines, call}

-- the posts' messages of the product
abbrev pub charge_sent : List (List ℕ)
charge_sent = (0 ∷ 1 ∷ []) ∷ (11 ∷ 4 ∷ []) ∷ (6 ∷ 2147483644 ∷ []) ∷ []

unfoldable pub charges : Record
charges i lines = blocks 3 (λ j. present (of charge_sent j))

-- Row 2, which is not loaded, becomes row 0 with the fee. A fee of p is refused (8). The masks are those of the first example.
unfoldable pub steps_with : ℕ → List Step
steps_with fee =
    load_row_of 0 (own 0)
    ∷ load_row_of 1 (own 1)
    ∷ deal 0 (sent 0)
    ∷ deal 1 (sent 1)
    ∷ linear 2 0 1 0 p
    ∷ linear 2 0 1 0 fee
    ∷ load_triple_of 3 (own 3)
    ∷ masks 2 1 3 (λ i. still (replicate 4 0))
    ∷ collect 3 masks_a masks_b
    ∷ multiply 3
    ∷ message 5 1 (λ i. still (replicate 2 0)) (λ i. true)
    ∷ opening 5 charges
    ∷ []

-- ---- what post 3 sees

-- the rows once they are dealt, with −5 and 1; row 0 with the fee, in its public sums alone
abbrev pub dealt0 : List ℕ
dealt0 = 5 ∷ 6 ∷ 11 ∷ 8 ∷ 35 ∷ 7 ∷ 13 ∷ 19 ∷ []

abbrev pub dealt1 : List ℕ
dealt1 = 4 ∷ 2 ∷ 7 ∷ 6 ∷ 14 ∷ 11 ∷ 15 ∷ 23 ∷ []

abbrev pub raised0 : List ℕ
raised0 = 5 ∷ 6 ∷ 11 ∷ 8 ∷ 35 ∷ 8 ∷ 14 ∷ 20 ∷ []

-- the triple's rows with the product in the third
abbrev pub spent : List ℕ
spent =
    (1 ∷ 7 ∷ 10 ∷ 13 ∷ 36 ∷ 8 ∷ 7 ∷ 6 ∷ [])
    ++ ((2 ∷ 2 ∷ 6 ∷ 21 ∷ 12 ∷ 8 ∷ 15 ∷ 13 ∷ []) ++ (6 ∷ 2147483644 ∷ 5 ∷ 31 ∷ 2147483638 ∷ 22 ∷ 43 ∷ 48 ∷ []))

abbrev pub dealt : List ℕ
dealt = dealt0 ++ dealt1

abbrev pub ready : List ℕ
ready = dealt ++ (raised0 ++ loaded)

abbrev pub finished : List ℕ
finished = dealt ++ (raised0 ++ spent)

unfoldable pub told : List Entry
told =
    call 0 0 [] raw0
    ∷ call 0 0 [] (raw0 ++ raw1)
    ∷ call 0 0 [] (dealt0 ++ raw1)
    ∷ call 0 0 [] dealt
    ∷ call 8 0 [] dealt
    ∷ call 0 0 [] (dealt ++ raised0)
    ∷ call 0 0 [] ready
    ∷ call 0 0 masks_lines ready
    ∷ call 0 0 [] ready
    ∷ call 0 0 [] finished
    ∷ call 0 0 (map (λ j. opening_line 5 j (of charge_sent j)) (posts 3)) finished
    ∷ call 0 12 [] finished
    ∷ []

unfoldable pub shown : Seen
shown =
    record {
      points = (5 ∷ []) ∷ [];
      raws = padded (raw0 ∷ raw1 ∷ raw2 ∷ []) ∷ [];
      triples = padded ([] ∷ [] ∷ [] ∷ loaded ∷ []) ∷ [];
      polynomials = padded ([] ∷ [] ∷ (8 ∷ 1 ∷ []) ∷ []);
      deals = padded (text (Line.deal 0 2147483642) ∷ text (Line.deal 1 1) ∷ text (Line.deal 2 1) ∷ []);
      entries = told;
    }

unfoldable pub charge_with : ℕ → Example
unfolding shown told raws triples group draw zeros masks_a masks_b charges steps_with
charge_with fee =
    record {
      n = 3;
      t = 1;
      points = 1;
      raws = raws;
      triples = triples;
      group = group;
      rows = zeros;
      orders = calls (steps_with fee);
      draw = draw;
      secrets = 2 ∷ 4 ∷ 9 ∷ [];
      secrets' = 1 ∷ 6 ∷ 9 ∷ [];
      shown = shown;
    }

unfoldable pub charge : Example
unfolding charge_with
charge = charge_with 1

-- The opening is the call at place 11 of the list, counted from 0.
abbrev pub ChargeOpened : Type 0
ChargeOpened = opened_by charge 11 ≡ replicate 3 12

-- Document 02, (i): "A charge opened is the plain sum with the fee, and that is the number which must agree between two lists of
-- secrets": the product in both books, and what it would be without the fee.
abbrev pub ChargeBooks : Type 0
ChargeBooks =
    (booked_at charge charge.secrets 5 ≡ 12)
    × (booked_at charge charge.secrets' 5 ≡ 12)
    × (booked_at (charge_with 0) charge.secrets 5 ≡ 8)
    × (booked_at (charge_with 0) charge.secrets' 5 ≡ 6)
