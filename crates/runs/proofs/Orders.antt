-- An order does what the call does that it comes to, and nothing to session and rows where it comes to none.
use Prim.Native.Nat.{ℕ, zero, suc}
use mathlib.Core.Path.{◌≡◌, refl, sym, ap}
use mathlib.Core.List.{List, []}
use native.Mathlib.Omega.{arith}
use Rattle.refusal.specs.Refusal.{outcome}
use Rattle.session.specs.declared.Session.{Session}
use Rattle.session.specs.Sessions.{holding}
use Rattle.deal.specs.Deal.{deal_answer, deal_rows_of}
use Rattle.dealers.specs.State.{chosen, line_in}
use Rattle.dealers.specs.Calls.{count_refusal, taken_refusal, said_row, said_number, taken_answer, taken_rows, counted_answer, counted_rows, whose}
use Rattle.runs.specs.Outline.{sends}
use Rattle.runs.specs.Calls.{Actual, Call, Post, deal, Performed, performed, perform, after, broadcast}
use Rattle.runs.specs.Orders.{call, place, turn, carry, Comes, no_call, a_call, said_call, turn_call, OrdersCome, StateLeft}

-- what was done, the call that it comes to, and the post before
record Is (o : Performed) (m : Comes Actual) (q : Post) : Type 0 where
  none : m ≡ no_call → after o ≡ q
  one : (c : Call) → m ≡ a_call c → o ≡ perform c q
  -- a deal, or none, sends nothing
  quiet : (c : Call) → m ≡ a_call c → sends c ≡ []

never : (c : Call) → ◌≡◌ {A = Comes Actual} (a_call c) no_call → ⊥
never c e = let z : ◌≡◌ {A = ℕ} 0 1 = cc in omega arith

never' : (c : Call) → ◌≡◌ {A = Comes Actual} no_call (a_call c) → ⊥
never' c e = let z : ◌≡◌ {A = ℕ} 0 1 = cc in omega arith

same_call : (c c' : Call) → ◌≡◌ {A = Comes Actual} (a_call c) (a_call c') → c ≡ c'
same_call c c' e = cc

module _ (s : Session) (rows state : List ℕ) where
  abbrev q : Post
  q = record { session = s; rows = rows }

  abbrev dealing : List ℕ → Call
  dealing line = deal (said_row line) (said_number line)

  is_taken : (line : List ℕ) (t : ℕ)
      → Is (performed (outcome t (deal_answer s rows (said_row line) (said_number line)) (holding t 0 s))
      (outcome t (deal_rows_of s rows (said_row line) (said_number line)) rows) []) (outcome t (a_call (dealing line)) no_call) q
  unfolding outcome perform
  is_taken line zero =
      record {
        none = λ e. absurd (never (dealing line) e);
        one = λ c e. ap (λ (x : Call). perform x q) (same_call (dealing line) c e);
        quiet = λ c e. sym (ap (λ (x : Call). sends x) (same_call (dealing line) c e));
      }
  is_taken line (suc k) = record { none = λ e. refl; one = λ c e. absurd (never' c e); quiet = λ c e. absurd (never' c e) }

  is_whose : (d : ℕ)
      → Is (performed (whose d (holding 0 0 s) (λ x. taken_answer s rows (line_in state x))) (whose d rows (λ x. taken_rows s rows (line_in state x))) [])
      (whose d no_call (λ x. said_call (line_in state x))) q
  is_whose zero = record { none = λ e. refl; one = λ c e. absurd (never' c e); quiet = λ c e. absurd (never' c e) }
  is_whose (suc d) = is_taken (line_in state (suc d)) (taken_refusal (line_in state (suc d)))

  is_turn : (k : ℕ)
      → Is (performed (outcome k (counted_answer s rows state) (holding k 0 s)) (outcome k (counted_rows s rows state) rows) [])
      (outcome k (whose (chosen state) no_call (λ x. said_call (line_in state x))) no_call) q
  unfolding outcome
  is_turn zero = is_whose (chosen state)
  is_turn (suc k) = record { none = λ e. refl; one = λ c e. absurd (never' c e); quiet = λ c e. absurd (never' c e) }

no_parts : (i : ℕ) (c : Call) (o : Performed) → sends c ≡ [] → [] ≡ broadcast i c o
no_parts i c o e = rw e

pub orders_come : OrdersCome
unfolding carry turn_call
orders_come (call c) q =
    record {
      none = λ e. absurd (never c e);
      one = λ c' e. ap (λ (x : Call). perform x q.post) (same_call c c' e);
      quiet = λ i e. absurd (never c e);
      told = λ i c' e. ap (λ (x : Call). broadcast i x (perform x q.post)) (same_call c c' e);
    }
orders_come (place d line) q =
    record { none = λ e. refl; one = λ c e. absurd (never' c e); quiet = λ i e. refl; told = λ i c e. absurd (never' c e) }
orders_come turn q =
    let h = is_turn q.post.session q.post.rows q.state (count_refusal q.post.session q.post.rows q.state) in
    record { none = h.none; one = h.one; quiet = λ i e. refl; told = λ i c e. no_parts i c (perform c q.post) (h.quiet c e) }

pub state_left : StateLeft
unfolding carry
state_left = record { by_call = λ c q. refl; by_place = λ d line q. refl; by_turn = λ q. refl }
