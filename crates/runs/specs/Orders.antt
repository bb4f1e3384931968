-- Document 02, (xii): what a post is told to do: a call on its session, a dealer's line placed, or a turn. The lists of demands 2 and 3 hold
-- these orders.
use Rattle.std.specs.Prelude.{ℕ, ◌≡◌, List, [], length}
use Rattle.refusal.specs.Refusal.{outcome}
use Rattle.session.specs.declared.Session.{Session}
use Rattle.session.specs.Sessions.{holding}
use Rattle.dealers.specs.State.{chosen, line_in}
use Rattle.dealers.specs.Calls.{place_refusal_of, place_after_of, count_refusal, taken_refusal, said_row, said_number, whose, turn_answer, turn_rows, turn_state}
use Rattle.runs.specs.Outline.{Kinds, CallOf}
use Rattle.runs.specs.Callers.{Sets, set_after}
use Rattle.runs.specs.Calls.{Actual, Call, Post, deal, Performed, performed, perform, after, broadcast}

pub data OrderOf (K : Kinds) : Type 0 where
  call : CallOf K → OrderOf K
  place : (dealer : ℕ) (line : K.Line) → OrderOf K
  turn : OrderOf K

-- An order that a post carries out.
abbrev pub Order : Type 0
Order = OrderOf Actual

-- What a post keeps between orders: session and rows, and the lent state, which "is handed on like the rows".
pub record Desk : Type 0 where
  pub post : Post
  pub state : List ℕ

-- What an order leaves: what a call leaves, and the state.
pub record Carried : Type 0 where
  pub done : Performed
  pub state : List ℕ

-- Each order by the definitions that its contract cites. A line placed is no call on the session: its answer is a refusal alone.
unfoldable pub carry : Order → Desk → Carried
carry (call c) q = record { done = perform c q.post; state = q.state }
carry (place d line) q =
    record {
      done = performed (holding (place_refusal_of q.state d (length line)) 0 q.post.session) q.post.rows [];
      state = place_after_of q.state d line;
    }
carry turn q =
    record {
      done = performed (turn_answer q.post.session q.post.rows q.state) (turn_rows q.post.session q.post.rows q.state) [];
      state = turn_state q.post.session q.post.rows q.state;
    }

abbrev pub desk_after : Carried → Desk
desk_after o = record { post = after o.done; state = o.state }

-- The lines that an order broadcasts: a call's.
abbrev pub sent_on : ℕ → Order → Carried → List (List ℕ)
sent_on i (call c) o = broadcast i c o.done
sent_on i (place d line) o = []
sent_on i turn o = []

-- ---- The call on the session that an order comes to, if any.

pub data Comes (K : Kinds) : Type 0 where
  no_call : Comes K
  a_call : CallOf K → Comes K

-- "The line is then read, 10 for any but a D line, and dealt"
abbrev pub said_call : List ℕ → Comes Actual
said_call line = outcome (taken_refusal line) (a_call (deal (said_row line) (said_number line))) no_call

-- a turn that is counted, and takes a line
unfoldable pub turn_call : Session → List ℕ → List ℕ → Comes Actual
turn_call s rows state = outcome (count_refusal s rows state) (whose (chosen state) no_call (λ d. said_call (line_in state d))) no_call

abbrev pub comes_to : Order → Desk → Comes Actual
comes_to (call c) q = a_call c
comes_to (place d line) q = no_call
comes_to turn q = turn_call q.post.session q.post.rows q.state

-- What is asked of an order is asked of that call.
abbrev pub Asked : {K : Kinds} → (CallOf K → Type 0) → Comes K → Type 0
Asked P no_call = Unit {0}
Asked P (a_call c) = P c

-- The rows' sets of callers after it, with this refusal.
abbrev pub sets_after : {K : Kinds} → Comes K → ℕ → Sets → Sets
sets_after no_call k X = X
sets_after (a_call c) k X = set_after c k X

-- An order answers, and leaves session, rows and lines, as that call does; where it comes to none, session and rows stay as they are, and
-- nothing is broadcast. Proved in proofs/Orders.antt.
pub record ComesToIt (o : Order) (q : Desk) : Type 0 where
  pub none : comes_to o q ≡ no_call → after (carry o q).done ≡ q.post
  pub one : (c : Call) → comes_to o q ≡ a_call c → (carry o q).done ≡ perform c q.post
  pub quiet : (i : ℕ) → comes_to o q ≡ no_call → sent_on i o (carry o q) ≡ []
  pub told : (i : ℕ) (c : Call) → comes_to o q ≡ a_call c → sent_on i o (carry o q) ≡ broadcast i c (perform c q.post)

abbrev pub OrdersCome : Type 0
OrdersCome = (o : Order) (q : Desk) → ComesToIt o q

-- The state that each order leaves, by the definitions that the contracts of placing and of a turn cite; a call leaves it as it is.
pub record StateLeft : Type 0 where
  pub by_call : (c : Call) (q : Desk) → (carry (call c) q).state ≡ q.state
  pub by_place : (d : ℕ) (line : List ℕ) (q : Desk) → (carry (place d line) q).state ≡ place_after_of q.state d line
  pub by_turn : (q : Desk) → (carry turn q).state ≡ turn_state q.post.session q.post.rows q.state
