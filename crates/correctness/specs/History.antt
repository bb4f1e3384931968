-- Demand 2 over whole runs: posts that carry out orders of their own (calls on a session, lines placed, turns), with any lists in them,
-- refused or not, each in its own order of time.
use Rattle.std.specs.Prelude.{ℕ, ◌≡◌, cond, List, [], ◌∷◌, ◌++◌, eqb}
use Rattle.session.specs.declared.Answer.{Answer}
use Rattle.runs.specs.Draws.{Plan, Draw}
use Rattle.runs.specs.Calls.{Post, Call, after, new_post, at}
use Rattle.runs.specs.Orders.{Order, Desk, Carried, carry, desk_after, comes_to, Asked, sent_on}

-- A post carries out an order. What happens at a station is one list of such events, in the order of time.
pub record Event : Type 0 where
  pub post : ℕ
  pub order : Order

-- All posts, the state that each is lent, and the lines that each has broadcast so far.
pub record World : Type 0 where
  pub posts : ℕ → Post
  pub states : ℕ → List ℕ
  pub lines : ℕ → List (List ℕ)

abbrev pub desk : World → ℕ → Desk
desk w i = record { post = w.posts i; state = w.states i }

abbrev pub done_by : Event → World → Carried
done_by e w = carry e.order (desk w e.post)

abbrev pub answer_of : Event → World → Answer
answer_of e w = (done_by e w).done.answer

abbrev pub step : Event → World → World
step e w =
    record {
      posts = at w.posts e.post (after (done_by e w).done);
      states = at w.states e.post (done_by e w).state;
      lines = at w.lines e.post (w.lines e.post ++ sent_on e.post e.order (done_by e w));
    }

abbrev pub history : List Event → World → World
history [] w = w
history (e ∷ es) w = history es (step e w)

-- What the orders answer, in the order of time.
abbrev pub answers : List Event → World → List Answer
answers [] w = []
answers (e ∷ es) w = answer_of e w ∷ answers es (step e w)

-- New sessions of one draw, with any numbers in the posts' lists of rows and any bytes in their lent states, in any number.
abbrev pub begin : Plan → Draw → (rows states : ℕ → List ℕ) → World
begin plan draw rows states = record { posts = λ i. new_post plan draw (rows i) i; states = states; lines = λ i. [] }

-- P holds of each call that an order of the posts S comes to and that is not refused, when it is made: of the post, the call and the world.
abbrev pub Each : (ℕ → Type 0) → (ℕ → Call → World → Type 0) → List Event → World → Type 0
Each S P [] w = Unit {0}
Each S P (e ∷ es) w =
    (S e.post → (answer_of e w).refusal ≡ 0 → Asked (λ c. P e.post c w) (comes_to e.order (desk w e.post))) × Each S P es (step e w)

-- The orders of post i, in its own order of time; and a post after orders.
abbrev pub orders_of : ℕ → List Event → List Order
orders_of i [] = []
orders_of i (e ∷ es) = cond (eqb i e.post) (e.order ∷ orders_of i es) (orders_of i es)

abbrev pub after_orders : List Order → Desk → Desk
after_orders [] q = q
after_orders (o ∷ os) q = after_orders os (desk_after (carry o q))

-- "each call gets the session and rows that the one before handed back", and the state: a post is where its own orders bring it, and the
-- order between posts counts only for what was sent by then.
abbrev pub OwnList : Type 0
OwnList = (i : ℕ) (es : List Event) (w : World) → desk (history es w) i ≡ after_orders (orders_of i es) (desk w i)
