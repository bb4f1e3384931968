-- A session of the street program has none of 1 to 4, which the call of an `A` looks at first: not behind an accepted start line, nor behind any line that
-- follows it. So 10, 11 and 7 are what an `A` can get. Proved in proofs/Passing.antt.
use Rattle.std.specs.Prelude.{ℕ, ◌≡◌, true, false, List, ◌∷◌}
use Rattle.refusal.specs.Refusal.{first}
use Rattle.street_states.specs.declared.State.{State}
use Rattle.street_states.specs.States.{After}
use Rattle.street_steps.specs.Stepping.{step}
use Rattle.performing_law.specs.Lines.{TenDigits, own_table}
use Rattle.performing_law.specs.Starting.{OneOrTwo, figured, settings_table}

-- Of what a line left.
abbrev pub Passes : After → Type 0
Passes a = first (own_table a.given.state a.store) ≡ 0

pub record StreetPasses : Type 0 where
  pub begun : (st : State) (store : List ℕ) → st.started ≡ false → (n t post : ℕ) (ws : List ℕ) → OneOrTwo ws → TenDigits (n ∷ t ∷ post ∷ ws)
      → first (settings_table n t post ws) ≡ 0 → Passes (step st store (figured n t post ws))
  pub kept : (st : State) (store s : List ℕ) → st.started ≡ true → first (own_table st store) ≡ 0 → Passes (step st store s)
