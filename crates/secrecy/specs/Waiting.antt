-- Document 02, (xii): "The line is then read, .. and dealt, which in 01's plain book is a deal of the line's row." To know which row that is,
-- the book keeps the eight places itself, from the lines placed and, of the answers, only which orders are refused.
use Rattle.std.specs.Prelude.{ℕ, Bool, true, false}
use Rattle.refusal.specs.Refusal.{outcome}
use Rattle.dealers.specs.State.{dealer_count, first_after}
use Rattle.dealers.specs.Calls.{taken_refusal, said_row, said_number, whose}
use Rattle.runs.specs.Calls.{at}
use Rattle.runs.specs.Orders.{call, place, turn, Comes, no_call, a_call}
use Rattle.secrecy.specs.Steps.{Fixed, Item, Number, sent, Placed, theirs, bytes, deal}

pub data Slot : Type 0 where
  free : Slot
  filled : Placed → Slot

-- "the last dealer, then for each dealer's place" whether a line waits, and which
pub record Waiting : Type 0 where
  pub last : ℕ
  pub slot : ℕ → Slot

-- "A new state holds 8 as last served, then zeros."
abbrev pub none_waiting : Waiting
none_waiting = record { last = dealer_count; slot = λ d. free }

abbrev pub is_filled : Slot → Bool
is_filled free = false
is_filled (filled l) = true

-- "from the dealer after the one last served, going round, the first with a line waiting"; 0 where none waits
abbrev pub next_of : Waiting → ℕ
next_of w = first_after dealer_count (λ d. is_filled (w.slot d)) w.last

-- "frees its place and counts as served"
abbrev pub freed : Waiting → ℕ → Waiting
freed w d = record { last = d; slot = at w.slot d free }

-- The places after an order with the refusal k. A turn takes its line whatever it answers. (One refused with 1 to 5 or 16 "takes no line": in a
-- list that begins with new sessions and a new state that is 5 alone, for a list of rows of another length, and then every turn gets it.
-- The book enters nothing of a refused turn, so that what waits in it counts for nothing.)
abbrev pub waiting_after : Item → ℕ → Waiting → Waiting
waiting_after (call c) k w = w
waiting_after (place d l) k w = outcome k (record { last = w.last; slot = at w.slot d (filled l) }) w
waiting_after turn k w = whose (next_of w) w (freed w)

-- The D line of row r's dealer is a deal of row r with the c that it says; fixed bytes are a deal of the row that they say, where they are a
-- D line.
abbrev pub line_call : Placed → Comes Fixed
line_call (theirs r) = a_call (deal r (sent r))
line_call (bytes xs) = outcome (taken_refusal xs) (a_call (deal (said_row xs) (Number.fixed (said_number xs)))) no_call

abbrev pub slot_call : Slot → Comes Fixed
slot_call free = no_call
slot_call (filled l) = line_call l

-- The call on a session that an order of the list comes to.
abbrev pub comes_of : Waiting → Item → Comes Fixed
comes_of w (call c) = a_call c
comes_of w (place d l) = no_call
comes_of w turn = whose (next_of w) no_call (λ d. slot_call (w.slot d))
