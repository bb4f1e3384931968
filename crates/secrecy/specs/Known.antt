-- Document 02, (xii), in demand 3: the places that the book keeps are those of every post's state, and what an order comes to at a post is the
-- call that the book has of it. Proved in proofs/Known.antt.
use Rattle.std.specs.Prelude.{ℕ, ◌*◌, ◌-◌, ◌≤◌, ◌≡◌, List, [], ◌∷◌, length, get_or, replicate}
use Rattle.refusal.specs.Refusal.{first}
use Rattle.session.specs.Checks.{frame_tests}
use Rattle.dealers.specs.State.{line_in}
use Rattle.runs.specs.Draws.{Plan, Draw, Sound}
use Rattle.runs.specs.Calls.{Actual}
use Rattle.runs.specs.Orders.{Desk, Comes, no_call, a_call, comes_to}
use Rattle.secrecy.specs.Steps.{Secrets, Fixed, Item, call_at}
use Rattle.secrecy.specs.Seen.{Entry, Seen, line_at, order_at, new_desk}
use Rattle.secrecy.specs.Waiting.{Slot, free, filled, Waiting, none_waiting, waiting_after, comes_of}
use Rattle.secrecy.specs.Rules.{SameAnswers, refusal_of}
use Rattle.secrecy.specs.Claim.{Group, Shows, desks_of}

-- The places after the orders with these answers.
abbrev pub waiting_all : List Item → List Entry → Waiting → Waiting
waiting_all [] es w = w
waiting_all (o ∷ os) [] w = w
waiting_all (o ∷ os) (e ∷ es) w = waiting_all os es (waiting_after o (refusal_of e) w)

module _ (plan : Plan) (draw : Draw) (u : Secrets) where
  -- "for each dealer's place a length, 0 when free", and the line
  abbrev pub Has : Slot → List ℕ → ℕ → Type 0
  Has free state d = get_or state (17 * d - 16) 0 ≡ 0
  Has (filled l) state d = (get_or state (17 * d - 16) 0 ≡ length (line_at plan draw u l)) × (line_in state d ≡ line_at plan draw u l) × (1 ≤ length (line_at plan draw u l))

  -- a call of the list as post i makes it
  abbrev pub made_at : List (List ℕ) → ℕ → Comes Fixed → Comes Actual
  made_at lines i no_call = no_call
  made_at lines i (a_call c) = a_call (call_at plan draw u lines i c)

  pub record Knows (w : Waiting) (i : ℕ) (q : Desk) : Type 0 where
    pub last : get_or q.state 0 0 ≡ w.last
    pub places : (d : ℕ) → 1 ≤ d → d ≤ 8 → Has (w.slot d) q.state d
    pub comes : (lines : List (List ℕ)) (o : Item) → comes_to (order_at plan draw u lines i o) q ≡ made_at lines i (comes_of w o)

-- After any list, at every post where 1 to 5 let a turn pass.
abbrev pub BookKnows : Type 0
BookKnows =
    (plan : Plan) (group : List ℕ) (rows : ℕ → List ℕ) (os : List Item) (u : Secrets) (R : Seen) → Sound plan → Group plan group
    → SameAnswers R.entries → (d : Draw) → Shows plan group rows os u R d → (i : ℕ) → 1 ≤ i → i ≤ plan.n
    → (let q = desks_of plan rows os R u d i in
    first (frame_tests q.post.session q.post.rows) ≡ 0 → Knows plan d u (waiting_all os R.entries none_waiting) i q)

-- "For demand 3 it starts new": 8 as last served, then zeros; and so does the book.
pub record StartsNew : Type 0 where
  pub state : (plan : Plan) (draw : Draw) (rows : List ℕ) (i : ℕ) → (new_desk plan draw rows i).state ≡ 8 ∷ replicate 136 0
  pub last : none_waiting.last ≡ 8
  pub none_waits : (d : ℕ) → none_waiting.slot d ≡ free
