-- Document 01, "What a group of posts sees": the run of a list of orders, and the record of a group.
use Rattle.std.specs.Prelude.{ℕ, ◌+◌, ◌*◌, ◌-◌, Bool, false, cond, ◌||◌, List, [], ◌∷◌, ◌++◌, map, eqb, take, drop}
use Rattle.shape.specs.Bounds.{row_count_of}
use Rattle.parts.specs.Draw.{drawn_f, each_from}
use Rattle.forms.specs.Lines as Line
use Rattle.forms.specs.Lines.{text}
use Rattle.runs.specs.Draws.{Plan, Draw, none, by, when_raw, raw_draw, raw_pack, triple_pack, plan_shape}
use Rattle.dealers.specs.State.{new_state_of}
use Rattle.runs.specs.Calls.{new_post}
use Rattle.runs.specs.Orders.{Order, call, place, turn, Desk, Carried, carry, desk_after, sent_on}
use Rattle.secrecy.specs.Steps.{Secrets, Item, Placed, theirs, bytes, call_at, heard_from, dealt_number}

-- the posts 1 to n; the rows from 0 on
unfoldable pub posts : ℕ → List ℕ
posts n = each_from 1 n (λ i. i)

unfoldable pub all_rows : List ℕ
all_rows = each_from 0 row_count_of (λ r. r)

unfoldable pub joined : {A : Type 0} → List (List A) → List A
joined [] = []
joined (x ∷ xs) = x ++ joined xs

-- What is seen of one order: "for each call at each post its refusal and the number opened", the lines that it broadcast, and
-- the group's rows after it. (What stands in the state follows from the lines placed and the refusals: `Abreast` in Claim.antt.)
pub record Entry : Type 0 where
  pub refusals : List ℕ
  pub values : List ℕ
  pub lines : List (List ℕ)
  pub rows : List (List ℕ)

-- "The record of demand 3 holds the group's check points, its packs and, after each call, its rows; f of each row whose dealer
-- is a post of the group; every broadcast line; and the answers". Packs are seen loaded or not, the D line dealt or not; where
-- nothing was drawn there is an empty list.
pub record Seen : Type 0 where
  pub points : List (List ℕ)
  pub raws : List (List (List ℕ))
  pub triples : List (List (List ℕ))
  pub polynomials : List (List ℕ)
  pub deals : List (List ℕ)
  pub entries : List Entry

abbrev pub member : ℕ → List ℕ → Bool
member i [] = false
member i (g ∷ group) = eqb i g || member i group

module _ (plan : Plan) (draw : Draw) (u : Secrets) where
  -- "the D line of a row's dealer": row r's, and all of them
  unfoldable pub deal_seen : ℕ → List ℕ
  deal_seen r = when_raw (plan.raw r) (text (Line.deal r (dealt_number plan draw u r))) []

  abbrev pub deal_lines : List (List ℕ)
  deal_lines = map deal_seen all_rows

  -- the order as post i carries it out, after the lines broadcast so far
  abbrev pub line_at : Placed → List ℕ
  line_at (theirs r) = deal_seen r
  line_at (bytes xs) = xs

  abbrev pub order_at : List (List ℕ) → ℕ → Item → Order
  order_at lines i (call c) = call (call_at plan draw u lines i c)
  order_at lines i (place d l) = place d (line_at l)
  order_at lines i turn = turn

  -- what it does at post i
  abbrev pub done_at : List (List ℕ) → Item → (ℕ → Desk) → ℕ → Carried
  done_at lines o q i = carry (order_at lines i o) (q i)

  -- the lines that it broadcasts, post 1's first; "however few posts send one"
  abbrev pub lines_of : List (List ℕ) → Item → (ℕ → Desk) → List (List ℕ)
  lines_of lines (call c) q =
      joined (map (λ i. cond (heard_from c i) (sent_on i (order_at lines i (call c)) (done_at lines (call c) q i)) []) (posts plan.n))
  lines_of lines (place d l) q = []
  lines_of lines turn q = []

  -- the posts after the orders, each of which gets what the one before handed back
  unfoldable pub desks_after : List Item → List (List ℕ) → (ℕ → Desk) → ℕ → Desk
  desks_after [] lines q = q
  desks_after (o ∷ os) lines q = desks_after os (lines ++ lines_of lines o q) (λ i. desk_after (done_at lines o q i))

-- A new post: "For demand 3 [the state] starts new".
unfoldable pub new_desk : Plan → Draw → List ℕ → ℕ → Desk
new_desk plan draw rows i = record { post = new_post plan draw rows i; state = new_state_of }

module _ (plan : Plan) (group : List ℕ) (draw : Draw) (u : Secrets) where
  unfoldable pub entry_of : List (List ℕ) → Item → (ℕ → Desk) → Entry
  entry_of lines o q =
      record {
        refusals = map (λ i. (done_at plan draw u lines o q i).done.answer.refusal) (posts plan.n);
        values = map (λ i. (done_at plan draw u lines o q i).done.answer.value) (posts plan.n);
        lines = lines_of plan draw u lines o q;
        rows = map (λ i. (done_at plan draw u lines o q i).done.rows) group;
      }

  -- all posts carry out the orders in step, each from what the order before handed back
  unfoldable pub run : List Item → List (List ℕ) → (ℕ → Desk) → List Entry
  run [] lines q = []
  run (o ∷ os) lines q =
      entry_of lines o q ∷ run os (lines ++ lines_of plan draw u lines o q) (λ i. desk_after (done_at plan draw u lines o q i))

  -- f of row r, "whose dealer is a post of the group"
  unfoldable pub polynomial_seen : ℕ → List ℕ
  polynomial_seen r =
      elim (plan.raw r) [ none ↦ [] | by dealer ↦ cond (member dealer group) (drawn_f (plan_shape plan) (raw_draw draw r)) [] ]

  -- "both points of each post" follow one another in the list
  unfoldable pub points_seen : ℕ → List ℕ
  points_seen i = take plan.points (drop ((i - 1) * plan.points) draw.points)

  unfoldable pub raw_seen : ℕ → List (List ℕ)
  raw_seen i = map (λ r. when_raw (plan.raw r) (raw_pack plan draw i r) []) all_rows

  unfoldable pub triple_seen : ℕ → List (List ℕ)
  triple_seen i = map (λ r. cond (plan.triple r) (triple_pack plan draw i r) []) all_rows

  -- everything that the group sees of the orders os, from new sessions with the numbers `rows` in the posts' lists of rows; the D lines
  -- are broadcast before the first order
  unfoldable pub seen : (ℕ → List ℕ) → List Item → Seen
  seen rows os =
      record {
        points = map points_seen group;
        raws = map raw_seen group;
        triples = map triple_seen group;
        polynomials = map polynomial_seen all_rows;
        deals = deal_lines plan draw u;
        entries = run os (deal_lines plan draw u) (λ i. new_desk plan draw (rows i) i);
      }
