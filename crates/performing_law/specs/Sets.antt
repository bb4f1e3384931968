-- Document 02, (xi): "A line `A,row,` and rising post numbers (`A,row,` alone for none) .. sets it on a raw row". What an accepted `A` leaves, post by
-- post. Proved in proofs/Access.antt.
use Rattle.std.specs.Prelude.{ℕ, ◌≤◌, ◌≡◌, ◌≢◌, true, not, List, ◌∷◌, length}
use Rattle.callers.specs.Sets.{bars}
use Rattle.session.specs.declared.Session.{Session}
use Rattle.session.specs.Sessions.{with_barred}
use Rattle.access.specs.Claims.{access_text, listed}
use Rattle.street_states.specs.declared.State.{State}
use Rattle.street_steps.specs.Stepping.{step}
use Rattle.performing_law.specs.Lines.{TenDigits}

-- The row bars just the posts that are not listed, whoever it barred before; every other row bars whom it barred; the rest of the session is as it was.
pub record Admits (own : Session) (row : ℕ) (posts : List ℕ) (left : Session) : Type 0 where
  pub rest : left ≡ with_barred own left.barred
  pub row_is : (c : ℕ) → 1 ≤ c → c ≤ 255 → bars left.barred row c ≡ not (listed c posts)
  pub others : (r c : ℕ) → r ≢ row → 1 ≤ c → c ≤ 255 → bars left.barred r c ≡ bars own.barred r c

-- Once a start line was accepted, whatever the store; a session has 768 numbers for its sets.
abbrev pub StreetAdmits : Type 0
StreetAdmits =
    (st : State) (store : List ℕ) → st.started ≡ true → length st.session.barred ≡ 768 → (row : ℕ) (posts : List ℕ) → TenDigits (row ∷ posts)
    → (let a = step st store (access_text row posts) in a.given.refusal ≡ 0 → Admits st.session row posts a.given.state.session)
