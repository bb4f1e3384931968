-- What the street program keeps between lines, and how a line's answer changes it.
use Rattle.std.specs.Prelude.{ℕ, List, [], ◌++◌, true, false, take, drop}
use Rattle.shape.specs.Lengths.{rows_length}
use Rattle.refusal.specs.Refusal.{outcome}
use Rattle.session.specs.declared.Session.{Session}
use Rattle.session.specs.declared.Answer.{Answer}
use Rattle.session.specs.Sessions.{shape_of, no_points, session_of, answer}
use Rattle.street_states.specs.declared.State.{State}
use Rattle.street_states.specs.declared.Head.{Head}

-- Before the first line: no start line accepted, empty records. These definitions name every field of a state; nothing else does.
abbrev pub first_state : State
first_state = record { session = session_of 0 0 0 0 no_points; started = false; kept = 0; triple = 0 }

abbrev pub begun_with : State → Session → State
begun_with st s = record { session = s; started = true; kept = st.kept; triple = st.triple }

abbrev pub with_session : State → Session → State
with_session st s = record { session = s; started = st.started; kept = st.kept; triple = st.triple }

abbrev pub keeping_row : State → ℕ → State
keeping_row st row = record { session = st.session; started = st.started; kept = row; triple = st.triple }

abbrev pub keeping_triple : State → ℕ → State
keeping_triple st first = record { session = st.session; started = st.started; kept = st.kept; triple = first }

-- The answer to a line, and the state after it.
pub record Stepped : Type 0 where
  pub state : State
  pub refusal : ℕ
  pub value : ℕ

-- What a refused line leaves: the state as it was.
abbrev pub refusing : State → ℕ → Stepped
refusing st refusal = record { state = st; refusal = refusal; value = 0 }

-- What a call's answer makes of the state.
abbrev pub answering : State → Answer → Stepped
answering st a = record { state = with_session st a.session; refusal = a.refusal; value = a.value }

-- The answer, with the store afterwards and the line that is printed behind the answer, [] for none.
pub record After : Type 0 where
  pub given : Stepped
  pub store : List ℕ
  pub told : List ℕ

abbrev pub leaving : Stepped → List ℕ → After
leaving given store = record { given = given; store = store; told = [] }

-- A line with this refusal: what it leads to, or all as it was.
abbrev pub unless : ℕ → State → List ℕ → After → After
unless refusal st store new = outcome refusal new (leaving (refusing st refusal) store)

-- The session's rows stand at the store's start.
abbrev pub rows_of : Session → List ℕ → List ℕ
rows_of s store = take (rows_length (shape_of s)) store

abbrev pub session_rows : State → List ℕ → List ℕ
session_rows st store = rows_of st.session store

-- The store with the rows that a call left.
abbrev pub with_rows : Session → List ℕ → List ℕ → List ℕ
with_rows s rows store = rows ++ drop (rows_length (shape_of s)) store

-- A call on the session's rows: its answer, and the rows that it left.
abbrev pub calling : State → List ℕ → Answer → List ℕ → After
calling st store a rows = leaving (answering st a) (with_rows st.session rows store)

-- What a change leaves of its answer: where it is refused, the session as it was. No change has a number for its answer.
abbrev pub settled : Session → Answer → Answer
settled s a = answer a.refusal 0 a.session s

-- ---- what the code's values stand for
abbrev pub state_of : Session → Head → State
state_of s h = record { session = s; started = h.started; kept = h.kept; triple = h.triple }
