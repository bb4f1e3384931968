-- Row 0 is dealt by turns (document 02, (xii)), and each post begins with a state of its own: post 1 with a waiting line, post 2 with a new one,
-- post 3 with one that nobody was served from.
use Rattle.std.specs.Prelude.{ℕ, ◌-◌, ◌≡◌, List, [], ◌∷◌, ◌++◌, length, get_or, replicate}
use Rattle.session.specs.Sessions.{mark}
use Rattle.opening.specs.Opening.{open_answer}
use Rattle.dealers.specs.State.{new_state_of}
use Rattle.runs.specs.Calls.{Post, message}
use Rattle.runs.specs.Orders.{place, turn}
use Rattle.correctness.specs.History.{Event, World, history, begin}
use Rattle.correctness.specs.Claim.{Premises}
use Rattle.correctness_examples.specs.Station.{plan, ledger, Everyone, call, load, deal_of, zeros, room, refusals}
use Rattle.correctness_examples.specs.Run.{draw}

-- `D,0,2147483646`: row 0's dealer has 6, and f(0) is 7
abbrev pub line : List ℕ
line = 68 ∷ 44 ∷ 48 ∷ 44 ∷ 50 ∷ 49 ∷ 52 ∷ 55 ∷ 52 ∷ 56 ∷ 51 ∷ 54 ∷ 52 ∷ 54 ∷ 10 ∷ []

-- dealer 5 was served last, and the line waits for dealer 6
abbrev pub waiting : List ℕ
waiting = 5 ∷ (replicate 85 0 ++ (15 ∷ (line ++ replicate 35 0)))

abbrev pub states : ℕ → List ℕ
states i = get_or (waiting ∷ new_state_of ∷ replicate 137 0 ∷ []) (i - 1) []

-- Post 1 takes its line. Post 2 has one placed for dealer 4 and a byte for dealer 1; its first turn takes the byte (10), its second the line, its
-- third finds none. Post 3's turn is refused with 16, and so is a line for it; it deals by a call.
unfoldable pub events : List Event
events =
    load draw 1 0
    ∷ load draw 2 0
    ∷ load draw 3 0
    ∷ record { post = 1; order = turn }
    ∷ record { post = 2; order = place 4 line }
    ∷ record { post = 2; order = place 1 (88 ∷ []) }
    ∷ record { post = 2; order = turn }
    ∷ record { post = 2; order = turn }
    ∷ record { post = 2; order = turn }
    ∷ record { post = 3; order = turn }
    ∷ record { post = 3; order = place 4 line }
    ∷ deal_of draw 3 0 6
    ∷ call 2 (message 0 1 room)
    ∷ []

abbrev pub new : World
new = begin plan draw zeros states

abbrev pub opener : Post
opener = (history events new).posts 1

-- post 2's message
abbrev pub blocks : List ℕ
blocks = 0 ∷ 0 ∷ 0 ∷ 1 ∷ 3 ∷ 1 ∷ 0 ∷ 0 ∷ 0 ∷ []

pub record ByTurns : Type 0 where
  -- all that the theorem asks holds of the run
  pub premises : Premises plan draw ledger Everyone events zeros states
  pub long : length waiting ≡ 137
  pub answers : refusals events new ≡ 0 ∷ 0 ∷ 0 ∷ 0 ∷ 0 ∷ 0 ∷ 10 ∷ 0 ∷ 0 ∷ 16 ∷ 16 ∷ 0 ∷ 0 ∷ []
  -- each post holds row 0
  pub held : (mark ((history events new).posts 1).session 0 ≡ 2)
      × (mark ((history events new).posts 2).session 0 ≡ 2)
      × (mark ((history events new).posts 3).session 0 ≡ 2)
  pub opens : (open_answer opener.session opener.rows 0 blocks).value ≡ 6
