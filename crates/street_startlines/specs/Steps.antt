-- Document 01, "The street program": `S` lines, and the lines before one is accepted. Document 02, (ix): `W` lines, "by all the rules of an `S`".
use Rattle.std.specs.Prelude.{ℕ, Option, Some, None, List, ◌∷◌, cond, length, ltb}
use Rattle.shape.specs.declared.Points.{Points}
use Rattle.refusal.specs.Refusal.{Test, ◌when◌, first, outcome}
use Rattle.session.specs.Sessions.{as_many_of, session_tests, session_of}
use Rattle.street_store.specs.Sizes.{street_posts, longest_line}
use Rattle.street_reading.specs.declared.Settings.{Settings}
use Rattle.street_reading.specs.Starting.{is_start_of, start_said}
use Rattle.street_states.specs.declared.State.{State}
use Rattle.street_states.specs.States.{Stepped, begun_with, refusing}

-- "an `S` gets 10, then 1 to 4", and document 02, (ii): "The street program stays at 32 and gives 1 above that."
abbrev pub start_tests : ℕ → ℕ → ℕ → ℕ → Points → List Test
start_tests n t post points w = 1 when ltb street_posts n ∷ session_tests n t post points w

-- A new session, or the refusal.
abbrev pub begin_step : State → ℕ → ℕ → ℕ → ℕ → Points → Stepped
begin_step st n t post points w =
    outcome (first (start_tests n t post points w)) (refusing (begun_with st (session_of n t post points (as_many_of points w))) 0)
    (refusing st (first (start_tests n t post points w)))

abbrev pub settings_step : State → Option Settings → Stepped
settings_step st (Some f) = begin_step st f.n f.t f.post f.points (record { first = f.first; second = f.second })
settings_step st None = refusing st 10

unfoldable pub start_step : State → List ℕ → Stepped
start_step st s = cond (ltb longest_line (length s)) (refusing st 10) (settings_step st (start_said s))

-- "Until one is accepted any other line gets 1, an overlong one too".
unfoldable pub early_step : State → List ℕ → Stepped
early_step st s = cond (is_start_of s) (start_step st s) (refusing st 1)
