-- An example for demand 3 with sets of callers (document 02, (xi)), with the draw and the group of the first: 6, 7 and 9 are dealt, or 5, 8
-- and 9. Row 0 is for posts 1 and 2, row 1 for post 3; so their product is for nobody, and 42 and 40 need not agree: each message of it is
-- refused with 15. The sum of rows 0 and 2 is for posts 1 and 2. Row 2 is for all, and is opened.
use Rattle.std.specs.Prelude.{ℕ, ◌≡◌, true, false, List, [], ◌∷◌, ◌++◌, map, get_or, replicate}
use Rattle.forms.specs.Lines.{text}
use Rattle.forms.specs.Lines as Line
use Rattle.runs.specs.Calls.{opening_line}
use Rattle.runs.specs.Callers.{Sets, all_posts, set_after}
use Rattle.secrecy.specs.Steps.{Record, Step, own, sent, load_row_of, load_triple_of, deal, message, opening, linear, masks, collect, multiply, access}
use Rattle.secrecy.specs.Seen.{Entry, Seen, posts}
use Rattle.secrecy.specs.Rules.{refusal_of}
use Rattle.secrecy.specs.Claim.{desks_of}
use Rattle.secrecy_examples.specs.Example.{Example, plan_of, secrets_of, opened_by, booked_at, padded, of, blocks, present, still, calls}
use Rattle.secrecy_examples.specs.ThreePosts.{raws, triples, group, draw, zeros, masks_a, masks_b}
use Rattle.secrecy_examples.specs.ThreePostsSeen.{raw0, raw1, raw2, loaded, dealt0, dealt1, dealt2, dealt, spent, masks_lines, call}

-- the posts' messages of row 2
abbrev pub row_sent : List (List ℕ)
row_sent = (6 ∷ 3 ∷ []) ∷ (2 ∷ 9 ∷ []) ∷ (7 ∷ 4 ∷ []) ∷ []

unfoldable pub row_two : Record
row_two i lines = blocks 3 (λ j. present (of row_sent j))

-- a message of row r that post c calls for, made by all
abbrev pub called_by_of : ℕ → ℕ → Step
called_by_of c r = message r c (λ i. still (replicate 2 0)) (λ i. true)

-- `A,0,1,2`, `A,1,3`; then `A,1,3,3`, whose posts don't rise (10), `A,0,4`, which names no post (11), and `A,0,` once row 0 is dealt (7).
unfoldable pub steps : List Step
steps =
    load_row_of 0 (own 0)
    ∷ load_row_of 1 (own 1)
    ∷ load_row_of 2 (own 2)
    ∷ load_triple_of 3 (own 3)
    ∷ access (65 ∷ 44 ∷ 48 ∷ 44 ∷ 49 ∷ 44 ∷ 50 ∷ 10 ∷ [])
    ∷ access (65 ∷ 44 ∷ 49 ∷ 44 ∷ 51 ∷ 10 ∷ [])
    ∷ access (65 ∷ 44 ∷ 49 ∷ 44 ∷ 51 ∷ 44 ∷ 51 ∷ 10 ∷ [])
    ∷ access (65 ∷ 44 ∷ 48 ∷ 44 ∷ 52 ∷ 10 ∷ [])
    ∷ deal 0 (sent 0)
    ∷ deal 1 (sent 1)
    ∷ deal 2 (sent 2)
    ∷ access (65 ∷ 44 ∷ 48 ∷ 44 ∷ 10 ∷ [])
    ∷ called_by_of 3 0
    ∷ linear 6 0 2 1 0
    ∷ called_by_of 3 6
    ∷ masks 0 1 3 (λ i. still (replicate 4 0))
    ∷ collect 3 masks_a masks_b
    ∷ multiply 3
    ∷ called_by_of 1 5
    ∷ called_by_of 2 5
    ∷ called_by_of 3 5
    ∷ called_by_of 0 5
    ∷ called_by_of 4 5
    ∷ called_by_of 3 2
    ∷ opening 2 row_two
    ∷ []

-- ---- what post 3 sees

abbrev pub sum6 : List ℕ
sum6 = 12 ∷ 10 ∷ 32 ∷ 55 ∷ 62 ∷ 27 ∷ 30 ∷ 42 ∷ []

abbrev pub begun : List ℕ
begun = raw0 ++ (raw1 ++ (raw2 ++ loaded))

abbrev pub finished : List ℕ
finished = dealt0 ++ (dealt1 ++ (dealt2 ++ (spent ++ sum6)))

unfoldable pub told : List Entry
told =
    call 0 0 [] raw0
    ∷ call 0 0 [] (raw0 ++ raw1)
    ∷ call 0 0 [] (raw0 ++ (raw1 ++ raw2))
    ∷ call 0 0 [] begun
    ∷ call 0 0 [] begun
    ∷ call 0 0 [] begun
    ∷ call 10 0 [] begun
    ∷ call 11 0 [] begun
    ∷ call 0 0 [] (dealt0 ++ (raw1 ++ (raw2 ++ loaded)))
    ∷ call 0 0 [] (dealt0 ++ (dealt1 ++ (raw2 ++ loaded)))
    ∷ call 0 0 [] dealt
    ∷ call 7 0 [] dealt
    ∷ call 15 0 [] dealt
    ∷ call 0 0 [] (dealt ++ sum6)
    ∷ call 15 0 [] (dealt ++ sum6)
    ∷ call 0 0 masks_lines (dealt ++ sum6)
    ∷ call 0 0 [] (dealt ++ sum6)
    ∷ call 0 0 [] finished
    ∷ call 15 0 [] finished
    ∷ call 15 0 [] finished
    ∷ call 15 0 [] finished
    ∷ call 15 0 [] finished
    ∷ call 15 0 [] finished
    ∷ call 0 0 (map (λ j. opening_line 2 j (of row_sent j)) (posts 3)) finished
    ∷ call 0 9 [] finished
    ∷ []

unfoldable pub shown : Seen
shown =
    record {
      points = (5 ∷ []) ∷ [];
      raws = padded (raw0 ∷ raw1 ∷ raw2 ∷ []) ∷ [];
      triples = padded ([] ∷ [] ∷ [] ∷ loaded ∷ []) ∷ [];
      polynomials = padded ([] ∷ [] ∷ (8 ∷ 1 ∷ []) ∷ []);
      deals = padded (text (Line.deal 0 2147483646) ∷ text (Line.deal 1 4) ∷ text (Line.deal 2 1) ∷ []);
      entries = told;
    }

unfoldable pub barred : Example
unfolding shown told raws triples group draw zeros masks_a masks_b row_two steps
barred =
    record {
      n = 3;
      t = 1;
      points = 1;
      raws = raws;
      triples = triples;
      group = group;
      rows = zeros;
      orders = calls steps;
      draw = draw;
      secrets = 6 ∷ 7 ∷ 9 ∷ [];
      secrets' = 5 ∷ 8 ∷ 9 ∷ [];
      shown = shown;
    }

-- Row 2 is opened to 9; the product and the sum differ in the two books.
abbrev pub BarredBooks : Type 0
BarredBooks =
    (opened_by barred 24 ≡ replicate 3 9)
    × (booked_at barred barred.secrets 5 ≡ 42)
    × (booked_at barred barred.secrets' 5 ≡ 40)
    × (booked_at barred barred.secrets 6 ≡ 15)
    × (booked_at barred barred.secrets' 6 ≡ 14)

-- The sets by the calls: whether row 0, 1, 2, 5, 6 has posts 1, 2, 3.
unfoldable pub sets_over : List Step → List Entry → Sets → Sets
sets_over [] es X = X
sets_over (c ∷ cs) [] X = X
sets_over (c ∷ cs) (e ∷ es) X = sets_over cs es (set_after c (refusal_of e) X)

abbrev pub BarredSets : Type 0
BarredSets =
    map (λ r. map ((sets_over steps told all_posts).has r) (posts 3)) (0 ∷ 1 ∷ 2 ∷ 5 ∷ 6 ∷ [])
    ≡ (true ∷ true ∷ false ∷ [])
    ∷ (false ∷ false ∷ true ∷ [])
    ∷ (true ∷ true ∷ true ∷ [])
    ∷ (false ∷ false ∷ false ∷ [])
    ∷ (true ∷ true ∷ false ∷ [])
    ∷ []

-- And by the sessions, every post's: the first of the eight numbers of these rows, in bits of posts that are barred.
abbrev pub BarredKept : Type 0
BarredKept =
    map
    (λ i.
    let s = (desks_of (plan_of barred) zeros (calls steps) shown (secrets_of barred.secrets) draw i).post.session in
    map (λ r. get_or s.barred r 0) (0 ∷ 8 ∷ 16 ∷ 40 ∷ 48 ∷ []))
    (posts 3)
    ≡ replicate 3 (4294967292 ∷ 4294967291 ∷ 0 ∷ 4294967295 ∷ 4294967292 ∷ [])
