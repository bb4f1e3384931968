-- Demand 1, of the street program: a refused line changes nothing. Proved in proofs/Keeping.antt.
use Rattle.std.specs.Prelude.{ℕ, ◌≡◌, List, []}
use Rattle.street_states.specs.declared.State.{State}
use Rattle.street_states.specs.States.{After}
use Rattle.street_steps.specs.Stepping.{step}

-- The state with its session and the store with its rows and records are as they were; the number is 0; nothing is printed behind the answer.
pub record Unchanged (st : State) (store : List ℕ) (a : After) : Type 0 where
  pub state : a.given.state ≡ st
  pub store_kept : a.store ≡ store
  pub value : a.given.value ≡ 0
  pub told : a.told ≡ []

abbrev pub Refused : After → Type 0
Refused a = a.given.refusal ≡ 0 → ⊥

-- Whatever the state, the store and the line.
abbrev pub StepKeeps : Type 0
StepKeeps = (st : State) (store line : List ℕ) → Refused (step st store line) → Unchanged st store (step st store line)
