-- The first state.
use mathlib.Core.Path.{◌≡◌, refl, ap, ◌∙◌}
use mathlib.Core.Bool.{false}
use Rattle.refusal.specs.Refusal.{outcome}
use Rattle.session.specs.Sessions.{no_points, session_of, created}
use Rattle.session.specs.declared.Session.{Session}
use Rattle.session.specs.declared.Answer.{Answer}
use Rattle.street_states.specs.declared.State.{State}
use Rattle.street_states.specs.States.{first_state}

pub refused_session : (created 0 0 0 0 no_points).session ≡ session_of 0 0 0 0 no_points
unfolding created outcome
refused_session = refl

pub first_is : (a : Answer) → a ≡ created 0 0 0 0 no_points → ◌≡◌ {A = State} (record { session = a.session; started = false; kept = 0; triple = 0 }) first_state
first_is a e = ap (λ (s : Session). record { session = s; started = false; kept = 0; triple = 0 }) (ap (λ (x : Answer). x.session) e ∙ refused_session)
