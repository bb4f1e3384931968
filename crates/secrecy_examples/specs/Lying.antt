-- An example for document 02, (xiii): n = 4, t = 1, check points 2, 3, 5, 7; post 1 is the group. 5 and 7 are dealt, or 4 and 8; their
-- sum, 12, is made and then opened for the first and last time. Post 1 waits for the others' messages and lies twice: each time it adds to
-- its own polynomial one that is 0 at the check point that it guesses another post to have.
use Rattle.std.specs.Prelude.{ℕ, ◌<◌, ◌≡◌, ◌≢◌, Bool, true, false, cond, not, List, [], ◌∷◌, ◌++◌, map, eqb, take, drop, get_or, replicate}
use Rattle.field.specs.Modulus.{p}
use Rattle.field.specs.Arithmetic.{sum, difference, product}
use Rattle.shape.specs.Lengths.{shape, rows_length}
use Rattle.forms.specs.Lines.{text}
use Rattle.forms.specs.Lines as Line
use Rattle.runs.specs.Draws.{Raw, Draw, IsRaw, by}
use Rattle.runs.specs.Calls.{opening_line}
use Rattle.secrecy.specs.Steps.{Item, own, sent, load_row_of, deal, linear}
use Rattle.secrecy.specs.Seen.{Entry, Seen}
use Rattle.secrecy.specs.Count.{count, draws}
use Rattle.secrecy.specs.Lies.{messages, lie, opens, Glimpse, Choice, SeenToTheLast, seen_to_the_last, ShowsToTheLast, PremisesToTheLast, shows_to_the_last}
use Rattle.secrecy_examples.specs.Example.{Example, plan_of, secrets_of, padded, of, present, still, filled, entry, calls}

-- ---- an example with a last opening, and what is to be shown of it

pub record LastExample : Type 0 where
  pub before : Example
  pub row : ℕ
  pub choices : List Choice
  pub last : List Glimpse

abbrev pub shown_to_the_last : LastExample → SeenToTheLast
shown_to_the_last x = record { before = x.before.shown; last = x.last }

abbrev pub seen_of_last : LastExample → SeenToTheLast
seen_of_last x =
    seen_to_the_last (plan_of x.before) x.before.group x.before.rows x.before.orders x.row x.choices (secrets_of x.before.secrets)
    x.before.draw

-- how many of all draws of the plan show all of it under these secrets
abbrev pub showing_last : LastExample → List ℕ → ℕ
showing_last x us =
    count
    (shows_to_the_last (plan_of x.before) x.before.group x.before.rows x.before.orders x.row x.choices (secrets_of us) (shown_to_the_last x))
    (draws (plan_of x.before))

pub record LastAtWork (x : LastExample) : Type 0 where
  pub premises : PremisesToTheLast (plan_of x.before) x.before.group (secrets_of x.before.secrets) (secrets_of x.before.secrets')
      x.before.orders x.row (shown_to_the_last x)
  pub differ : (r : ℕ) × IsRaw ((plan_of x.before).raw r) × (secrets_of x.before.secrets r ≢ secrets_of x.before.secrets' r)
  pub shows : ShowsToTheLast (plan_of x.before) x.before.group x.before.rows x.before.orders x.row x.choices
      (secrets_of x.before.secrets) (shown_to_the_last x) x.before.draw
  pub some : 0 < showing_last x x.before.secrets
  pub as_many : showing_last x x.before.secrets ≡ showing_last x x.before.secrets'

-- ---- the list before

unfoldable pub raws : List Raw
raws = by 0 ∷ by 2 ∷ []

unfoldable pub draw : Draw
draw =
    record {
      points = 2 ∷ 3 ∷ 5 ∷ 7 ∷ [];
      raws = padded ((7 ∷ 4 ∷ 1 ∷ 2 ∷ 3 ∷ 1 ∷ 5 ∷ 6 ∷ 2 ∷ 3 ∷ []) ∷ (3 ∷ 5 ∷ 2 ∷ 1 ∷ 1 ∷ 1 ∷ 4 ∷ 2 ∷ 6 ∷ 1 ∷ []) ∷ []);
      triples = padded [];
    }

unfoldable pub zeros : ℕ → List ℕ
zeros i = replicate (rows_length (shape 4 1 1)) 0

unfoldable pub orders : List Item
orders = calls (load_row_of 0 (own 0) ∷ load_row_of 1 (own 1) ∷ deal 0 (sent 0) ∷ deal 1 (sent 1) ∷ linear 2 0 1 1 0 ∷ [])

-- ---- the lies

-- the first member's rows behind the k-th order of the record, counted from 0
abbrev pub rows_behind : Seen → ℕ → List ℕ
rows_behind R k = get_or (get_or (map (λ (e : Entry). e.rows) R.entries) k []) 0 []

-- post 1's own polynomial for the sum, row 2 of ten numbers each
abbrev pub own_polynomial : Seen → List ℕ
own_polynomial R = take 2 (drop 20 (rows_behind R 4))

-- plus k (z − w)
unfoldable pub plus_vanishing : ℕ → ℕ → List ℕ → List ℕ
plus_vanishing k w v = difference (get_or v 0 0) (product k w) ∷ sum (get_or v 1 0) k ∷ []

abbrev pub first_lie : Seen → List ℕ
first_lie R = plus_vanishing 1 3 (own_polynomial R)

abbrev pub second_lie : Seen → List ℕ
second_lie R = plus_vanishing 2 5 (own_polynomial R)

-- blocks: the others' messages, and nobody's
abbrev pub two : List ℕ
two = present (4 ∷ 2 ∷ [])

abbrev pub three : List ℕ
three = present (9 ∷ 8 ∷ [])

abbrev pub four : List ℕ
four = present (8 ∷ 4 ∷ [])

abbrev pub absent : List ℕ
absent = 0 ∷ p ∷ p ∷ []

abbrev pub others : ℕ → Bool
others i = not (eqb i 1)

abbrev pub everybody : ℕ → Bool
everybody i = true

-- what the post at place i answered to the k-th thing that happened, both counted from 0
abbrev pub answered : List Glimpse → ℕ → ℕ → ℕ
answered past k i = get_or (get_or (map (λ (g : Glimpse). g.entry.refusals) past) k []) i 0

-- The others are heard first, post 2 calls for it. Then post 1 lies, and the others open with all of it. Where post 2 got 13, post 1 lies a
-- second time, and each post takes another part: post 2 the first lie alone, posts 3 and 4 the second. At last a list of a wrong length, one
-- with a mark that is none, and two with true polynomials only.
unfoldable pub choices : List Choice
choices =
    (λ R past. messages 2 (λ i. still (0 ∷ 0 ∷ [])) others)
    ∷ (λ R past. lie 1 (first_lie R))
    ∷ (λ R past. opens (λ i. present (first_lie R) ++ (two ++ (three ++ four))) others)
    ∷ (λ R past. cond (eqb (answered past 2 0) 13) (lie 1 (second_lie R)) (opens (λ i. []) everybody))
    ∷ (λ R past. opens
    (of
    ((absent ++ (two ++ (absent ++ absent)))
    ∷ (present (first_lie R) ++ (absent ++ (absent ++ absent)))
    ∷ (present (second_lie R) ++ (absent ++ (absent ++ absent)))
    ∷ (present (second_lie R) ++ (absent ++ (absent ++ absent)))
    ∷ [])) everybody)
    ∷ (λ R past. opens
    (of
    ([]
    ∷ ((2 ∷ 0 ∷ 0 ∷ []) ++ (two ++ (three ++ four)))
    ∷ (absent ++ (two ++ (absent ++ absent)))
    ∷ (absent ++ (two ++ (three ++ absent)))
    ∷ [])) everybody)
    ∷ []

-- ---- what post 1 sees

abbrev pub raw0 : List ℕ
raw0 = 1 ∷ 2 ∷ 5 ∷ 5 ∷ 17 ∷ 8 ∷ 12 ∷ 18 ∷ 24 ∷ 25 ∷ []

abbrev pub raw1 : List ℕ
raw1 = 2 ∷ 1 ∷ 4 ∷ 3 ∷ 8 ∷ 8 ∷ 10 ∷ 14 ∷ 22 ∷ 29 ∷ []

-- the rows once they are dealt, with −2 and 4; and the sum
abbrev pub dealt0 : List ℕ
dealt0 = 1 ∷ 2 ∷ 5 ∷ 5 ∷ 17 ∷ 8 ∷ 10 ∷ 16 ∷ 22 ∷ 23 ∷ []

abbrev pub dealt1 : List ℕ
dealt1 = 2 ∷ 1 ∷ 4 ∷ 3 ∷ 8 ∷ 8 ∷ 14 ∷ 18 ∷ 26 ∷ 33 ∷ []

abbrev pub summed : List ℕ
summed = 3 ∷ 3 ∷ 9 ∷ 8 ∷ 25 ∷ 16 ∷ 24 ∷ 34 ∷ 48 ∷ 56 ∷ []

abbrev pub call : List ℕ → Entry
call xs = entry 4 0 0 [] (filled zeros 1 xs ∷ [])

unfoldable pub shown : Seen
shown =
    record {
      points = (2 ∷ []) ∷ [];
      raws = padded (raw0 ∷ raw1 ∷ []) ∷ [];
      triples = padded [] ∷ [];
      polynomials = padded [];
      deals = padded (text (Line.deal 0 2147483645) ∷ text (Line.deal 1 4) ∷ []);
      entries = call raw0 ∷ call (raw0 ++ raw1) ∷ call (dealt0 ++ raw1) ∷ call (dealt0 ++ dealt1) ∷ call (dealt0 ++ (dealt1 ++ summed)) ∷ [];
    }

abbrev pub finished : List (List ℕ)
finished = filled zeros 1 (dealt0 ++ (dealt1 ++ summed)) ∷ []

-- of a call: refusals, numbers, lines, acceptances; of a lie about row r in post j's name
abbrev pub seen_of : List (List ℕ) → List ℕ → List ℕ → List (List ℕ) → List (List ℕ) → Glimpse
seen_of rows refusals values lines acceptances =
    record { entry = record { refusals = refusals; values = values; lines = lines; rows = rows }; acceptances = acceptances }

abbrev pub heard_lie : ℕ → ℕ → List ℕ → Glimpse
heard_lie r j xs = seen_of [] [] [] (opening_line r j xs ∷ []) []

-- The first lie passes at post 2, whose answer is 13, and not at posts 3 and 4, which open 12. Alone it makes post 2 open 18; the second makes
-- post 3 open 27, and post 4, which accepts only itself, refuse with 9. Lists that 5 and 8 refuse show no acceptances.
unfoldable pub last : List Glimpse
last =
    seen_of finished (replicate 3 0) (replicate 3 0) (opening_line 2 2 (4 ∷ 2 ∷ []) ∷ opening_line 2 3 (9 ∷ 8 ∷ []) ∷ opening_line 2 4 (8 ∷ 4 ∷ []) ∷ []) []
    ∷ heard_lie 2 1 (0 ∷ 4 ∷ [])
    ∷ seen_of finished (13 ∷ 0 ∷ 0 ∷ []) (0 ∷ 12 ∷ 12 ∷ []) [] ((1 ∷ 2 ∷ 3 ∷ 4 ∷ []) ∷ (2 ∷ 3 ∷ 4 ∷ []) ∷ (2 ∷ 3 ∷ 4 ∷ []) ∷ [])
    ∷ heard_lie 2 1 (2147483640 ∷ 5 ∷ [])
    ∷ seen_of finished (0 ∷ 0 ∷ 0 ∷ 9 ∷ []) (12 ∷ 18 ∷ 27 ∷ 0 ∷ []) [] ((1 ∷ 2 ∷ []) ∷ (1 ∷ 2 ∷ []) ∷ (1 ∷ 3 ∷ []) ∷ (4 ∷ []) ∷ [])
    ∷ seen_of finished (5 ∷ 8 ∷ 0 ∷ 0 ∷ []) (0 ∷ 0 ∷ 12 ∷ 12 ∷ []) [] ([] ∷ [] ∷ (2 ∷ 3 ∷ []) ∷ (2 ∷ 3 ∷ 4 ∷ []) ∷ [])
    ∷ []

unfoldable pub lying : LastExample
unfolding raws draw zeros orders choices shown last plus_vanishing
lying =
    record {
      before =
          record {
            n = 4;
            t = 1;
            points = 1;
            raws = raws;
            triples = [];
            group = 1 ∷ [];
            rows = zeros;
            orders = orders;
            draw = draw;
            secrets = 5 ∷ 7 ∷ [];
            secrets' = 4 ∷ 8 ∷ [];
            shown = shown;
          };
      row = 2;
      choices = choices;
      last = last;
    }
