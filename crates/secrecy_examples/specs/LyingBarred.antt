-- An example for document 02, (xiii), with two check points a post ((ix)) and a row whose set bars each caller ((xi)): n = 3, t = 1, check points
-- 2 and 4, 3 and 5, 5 and 7; post 3 is the group. 6 and 7 are dealt, or 7 and 6; row 0 is for nobody, and so is the sum, 13. Nobody sends a
-- message of it; post 3 alone broadcasts polynomials, and its true one is enough to open 13 at the others. So the sum counts as opened.
use Rattle.std.specs.Prelude.{ℕ, Bool, cond, not, List, [], ◌∷◌, ◌++◌, eqb, take, drop, get_or, replicate}
use Rattle.field.specs.Arithmetic.{sum}
use Rattle.shape.specs.Lengths.{shape, rows_length}
use Rattle.forms.specs.Lines.{text}
use Rattle.forms.specs.Lines as Line
use Rattle.runs.specs.Draws.{Raw, Draw, by}
use Rattle.secrecy.specs.Steps.{Item, own, sent, load_row_of, deal, linear, access}
use Rattle.secrecy.specs.Seen.{Entry, Seen}
use Rattle.secrecy.specs.Lies.{messages, lie, opens, Glimpse, Choice}
use Rattle.secrecy_examples.specs.Example.{padded, present, still, filled, entry, calls}
use Rattle.secrecy_examples.specs.TwoPoints.{raws, zeros, raw0, raw1, dealt0, dealt1, sum5}
use Rattle.secrecy_examples.specs.Lying.{LastExample, rows_behind, answered, seen_of, heard_lie}

-- ---- the list before

-- f and v1 to v3 of rows 0 and 1 as in TwoPoints.antt
unfoldable pub draw : Draw
draw =
    record {
      points = 2 ∷ 4 ∷ 3 ∷ 5 ∷ 5 ∷ 7 ∷ [];
      raws =
          padded
          ((7 ∷ 4 ∷ 1 ∷ 2 ∷ 1 ∷ 3 ∷ 1 ∷ 2 ∷ 5 ∷ 6 ∷ 3 ∷ [])
          ∷ (3 ∷ 5 ∷ 2 ∷ 1 ∷ 1 ∷ 1 ∷ 1 ∷ 4 ∷ 4 ∷ 2 ∷ 1 ∷ [])
          ∷ []);
      triples = padded [];
    }

-- `A,0,` is before the deal
unfoldable pub orders : List Item
orders =
    calls
    (load_row_of 0 (own 0)
    ∷ load_row_of 1 (own 1)
    ∷ access (65 ∷ 44 ∷ 48 ∷ 44 ∷ 10 ∷ [])
    ∷ deal 0 (sent 0)
    ∷ deal 1 (sent 1)
    ∷ linear 2 0 1 1 0
    ∷ [])

-- ---- the lies

-- post 3's own polynomial for the sum, row 2 of twelve numbers each
abbrev pub own_polynomial : Seen → List ℕ
own_polynomial R = take 3 (drop 24 (rows_behind R 5))

unfoldable pub plus : List ℕ → List ℕ → List ℕ
plus v w = sum (get_or v 0 0) (get_or w 0 0) ∷ sum (get_or v 1 0) (get_or w 1 0) ∷ sum (get_or v 2 0) (get_or w 2 0) ∷ []

-- plus (z − 2)(z − 3), which is 0 at one check point of post 1 and at one of post 2; plus (z − 2)(z − 4), which is 0 at both of post 1
abbrev pub first_lie : Seen → List ℕ
first_lie R = plus (own_polynomial R) (6 ∷ 2147483642 ∷ 1 ∷ [])

abbrev pub second_lie : Seen → List ℕ
second_lie R = plus (own_polynomial R) (8 ∷ 2147483641 ∷ 1 ∷ [])

-- post 3's polynomial alone
abbrev pub from_three : List ℕ → List ℕ
from_three xs = replicate 8 0 ++ present xs

abbrev pub others : ℕ → Bool
others i = not (eqb i 3)

-- Nobody gets a message. Post 3 lies; where post 1 refuses with 9, it lies in another way; at last it tells the truth.
unfoldable pub choices : List Choice
choices =
    (λ R past. messages 1 (λ i. still (replicate 3 0)) others)
    ∷ (λ R past. lie 3 (first_lie R))
    ∷ (λ R past. opens (λ i. from_three (first_lie R)) others)
    ∷ (λ R past. cond (eqb (answered past 2 0) 9) (lie 3 (second_lie R)) (lie 3 []))
    ∷ (λ R past. opens (λ i. from_three (second_lie R)) others)
    ∷ (λ R past. lie 3 (own_polynomial R))
    ∷ (λ R past. opens (λ i. from_three (own_polynomial R)) others)
    ∷ []

-- ---- what post 3 sees

abbrev pub call : List ℕ → Entry
call xs = entry 3 0 0 [] (filled zeros 3 xs ∷ [])

unfoldable pub shown : Seen
shown =
    record {
      points = (5 ∷ 7 ∷ []) ∷ [];
      raws = padded (raw0 ∷ raw1 ∷ []) ∷ [];
      triples = padded [] ∷ [];
      polynomials = padded [];
      deals = padded (text (Line.deal 0 2147483646) ∷ text (Line.deal 1 4) ∷ []);
      entries =
          call raw0
          ∷ call (raw0 ++ raw1)
          ∷ call (raw0 ++ raw1)
          ∷ call (dealt0 ++ raw1)
          ∷ call (dealt0 ++ dealt1)
          ∷ call (dealt0 ++ (dealt1 ++ sum5))
          ∷ [];
    }

abbrev pub finished : List (List ℕ)
finished = filled zeros 3 (dealt0 ++ (dealt1 ++ sum5)) ∷ []

-- Messages are refused with 15. The first lie has one right value at post 1 and one at post 2, and neither accepts it: 9. The second has both at
-- post 1, which opens 17; post 2 still gets 9. The truth opens 13 at both.
unfoldable pub last : List Glimpse
last =
    seen_of finished (15 ∷ 15 ∷ []) (0 ∷ 0 ∷ []) [] []
    ∷ heard_lie 2 3 (15 ∷ 3 ∷ 5 ∷ [])
    ∷ seen_of finished (9 ∷ 9 ∷ []) (0 ∷ 0 ∷ []) [] ((1 ∷ []) ∷ (2 ∷ []) ∷ [])
    ∷ heard_lie 2 3 (17 ∷ 2 ∷ 5 ∷ [])
    ∷ seen_of finished (0 ∷ 9 ∷ []) (17 ∷ 0 ∷ []) [] ((1 ∷ 3 ∷ []) ∷ (2 ∷ []) ∷ [])
    ∷ heard_lie 2 3 (9 ∷ 8 ∷ 4 ∷ [])
    ∷ seen_of finished (0 ∷ 0 ∷ []) (13 ∷ 13 ∷ []) [] ((1 ∷ 3 ∷ []) ∷ (2 ∷ 3 ∷ []) ∷ [])
    ∷ []

unfoldable pub lying_barred : LastExample
unfolding raws draw zeros orders choices shown last plus
lying_barred =
    record {
      before =
          record {
            n = 3;
            t = 1;
            points = 2;
            raws = raws;
            triples = [];
            group = 3 ∷ [];
            rows = zeros;
            orders = orders;
            draw = draw;
            secrets = 6 ∷ 7 ∷ [];
            secrets' = 7 ∷ 6 ∷ [];
            shown = shown;
          };
      row = 2;
      choices = choices;
      last = last;
    }
