-- Demand 1 of the three calls; proved in proofs/Laws.antt.
use Rattle.std.specs.Prelude.{ℕ, suc, ◌≡◌, List, ◌∷◌, length, get_or, replicate}
use Rattle.refusal.specs.Refusal.{first}
use Rattle.session.specs.declared.Session.{Session}
use Rattle.session.specs.Sessions.{holding}
use Rattle.deal.specs.Deal.{deal_answer, deal_rows_of}
use Rattle.forms.specs.Forms.{message, line_tests}
use Rattle.dealers.specs.State.{chosen, line_in, served, placed}
use Rattle.dealers.specs.Calls.{new_state_refusal, new_state_after, place_tests, place_refusal_of, place_after_of, count_refusal, turn_answer, turn_rows, turn_state}
use Rattle.dealers.specs.Table.{new_table, place_table, count_table, turn_table, read_here}

-- "A new state holds 8 as last served, then zeros."
pub record NewStateLawful (state : List ℕ) : Type 0 where
  pub order : new_state_refusal state ≡ first (new_table state)
  pub untouched : (new_state_refusal state ≡ 0 → ⊥) → new_state_after state ≡ state
  pub done : new_state_refusal state ≡ 0 → new_state_after state ≡ 8 ∷ replicate 136 0

abbrev pub NewStatesLawful : Type 0
NewStatesLawful = (state : List ℕ) → NewStateLawful state

pub record PlaceLawful : Type 0 where
  pub order : (state : List ℕ) (d len : ℕ) → place_refusal_of state d len ≡ first (place_table state d len)
  pub table : (state : List ℕ) (d len : ℕ) → place_tests state d len ≡ place_table state d len
  pub untouched : (state : List ℕ) (d : ℕ) (line : List ℕ) → (place_refusal_of state d (length line) ≡ 0 → ⊥) → place_after_of state d line ≡ state
  pub done : (state : List ℕ) (d : ℕ) (line : List ℕ) → place_refusal_of state d (length line) ≡ 0 → place_after_of state d line ≡ placed state d line

-- A turn, as it came, gave and left.
pub record TurnLawful (s : Session) (rows state : List ℕ) : Type 0 where
  pub order : (turn_answer s rows state).refusal ≡ first (turn_table s rows state)
  pub counting : count_refusal s rows state ≡ first (count_table s rows state)
  -- "A turn refused with 1 to 5 or 16 takes no line"
  pub untouched : (count_refusal s rows state ≡ 0 → ⊥)
      → (turn_answer s rows state ≡ holding (count_refusal s rows state) 0 s) × (turn_rows s rows state ≡ rows) × (turn_state s rows state ≡ state)
  -- "If no line waits, the turn isn't refused and changes nothing."
  pub idle : count_refusal s rows state ≡ 0 → chosen state ≡ 0
      → (turn_answer s rows state ≡ holding 0 0 s) × (turn_rows s rows state ≡ rows) × (turn_state s rows state ≡ state)
  -- "the turn returns that refusal, and the place and the last dealer are all that it changes, the one exception to demand 1's untouched
  -- lists"
  pub refused : count_refusal s rows state ≡ 0 → (d : ℕ) → chosen state ≡ suc d → ((turn_answer s rows state).refusal ≡ 0 → ⊥)
      → (turn_answer s rows state ≡ holding (turn_answer s rows state).refusal 0 s) × (turn_rows s rows state ≡ rows)
      × (turn_state s rows state ≡ served state (suc d))
  -- "and dealt", as this station's reader has the line
  pub dealt : count_refusal s rows state ≡ 0 → (d : ℕ) → chosen state ≡ suc d → (turn_answer s rows state).refusal ≡ 0
      → (let m = read_here s (line_in state (suc d)) in
      (turn_answer s rows state ≡ deal_answer s rows m.row (get_or m.numbers 0 0))
      × (turn_rows s rows state ≡ deal_rows_of s rows m.row (get_or m.numbers 0 0)) × (turn_state s rows state ≡ served state (suc d)))

abbrev pub TurnsLawful : Type 0
TurnsLawful = (s : Session) (rows state : List ℕ) → TurnLawful s rows state

-- A line that begins with `D` is read the same whatever n and however many coefficients a message has.
abbrev pub SameEverywhere : Type 0
SameEverywhere =
    (line : List ℕ) → get_or line 0 0 ≡ 68 → (n k n' k' : ℕ)
    → (message k line ≡ message k' line) × (first (line_tests n k line) ≡ first (line_tests n' k' line))
