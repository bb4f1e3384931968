-- Between the functions of the code.
use Rattle.std.specs.Prelude.{ℕ, ◌≤◌, ◌≡◌, false, List, length, Option, Some, None, Result, Ok, Err}
use Rattle.refusal.specs.declared.Refusal.{Refusal}
use Rattle.refusal.specs.Numbers.{number}
use Rattle.refusal.specs.Refusal.{outcome}
use Rattle.dealers.specs.declared.Said.{Said}
use Rattle.dealers.specs.State.{state_length, dealer_count, bad_state, chosen}
use Rattle.dealers.specs.Calls.{taken_refusal, said_row, said_number}

-- A state that 5 and 16 leave.
pub record Good (state : List ℕ) : Type 0 where
  pub long : length state ≡ state_length
  pub fine : bad_state state ≡ false

-- A dealer that 16 leaves.
pub record Dealer (d : ℕ) : Type 0 where
  pub low : 1 ≤ d
  pub high : d ≤ dealer_count

-- The dealer that a turn chooses, if a line waits.
abbrev pub Choice : List ℕ → Option ℕ → Type 0
Choice state (Some d) = Dealer d × (d ≡ chosen state)
Choice state None = 0 ≡ chosen state

-- What a line taken says, by the number of its refusal.
pub record Heard : Type 0 where
  pub refusal : ℕ
  pub row : ℕ
  pub c : ℕ

abbrev pub heard : Result Said Refusal → Heard
heard (Ok m) = record { refusal = 0; row = m.row; c = m.c }
heard (Err r) = record { refusal = number r; row = 0; c = 0 }

abbrev pub said_by_of : List ℕ → Heard
said_by_of line =
    outcome (taken_refusal line) (record { refusal = 0; row = said_row line; c = said_number line })
    (record { refusal = taken_refusal line; row = 0; c = 0 })
