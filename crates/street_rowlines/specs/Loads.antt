-- Document 01, "The street program": what `R` does once a start line was accepted; document 02, (iii): `T`.
use Rattle.std.specs.Prelude.{ℕ, ◌+◌, List, [], ◌∷◌, get_or, drop}
use Rattle.shape.specs.Bounds.{last_row_at, last_triple}
use Rattle.shape.specs.Lengths.{triple_length}
use Rattle.session.specs.Sessions.{shape_of}
use Rattle.session.specs.Rows.{width}
use Rattle.load.specs.Load.{load_row_answer, load_row_rows_of, load_triple_answer, load_triple_rows_of}
use Rattle.street_reading.specs.Numbers.{numbers, read_refusal}
use Rattle.street_states.specs.declared.State.{State}
use Rattle.street_states.specs.States.{After, unless, session_rows, calling}

-- ---- "`R,row,` and a raw row's numbers"
-- the load of the row that the first number names
unfoldable pub loading : State → List ℕ → List ℕ → After
loading st store xs =
    calling st store (load_row_answer st.session (session_rows st store) (get_or xs 0 0) (drop 1 xs))
    (load_row_rows_of st.session (session_rows st store) (get_or xs 0 0) (drop 1 xs))

unfoldable pub load_step : State → List ℕ → List ℕ → After
load_step st store line =
    let k = 1 + width st.session in
    unless (read_refusal (last_row_at ∷ []) k line) st store (loading st store (numbers k line))

-- ---- "`T,first,` and a triple's three rows of numbers"
unfoldable pub loading_triple : State → List ℕ → List ℕ → After
loading_triple st store xs =
    calling st store (load_triple_answer st.session (session_rows st store) (get_or xs 0 0) (drop 1 xs))
    (load_triple_rows_of st.session (session_rows st store) (get_or xs 0 0) (drop 1 xs))

unfoldable pub load_triple_step : State → List ℕ → List ℕ → After
load_triple_step st store line =
    let k = 1 + triple_length (shape_of st.session) in
    unless (read_refusal (last_triple ∷ []) k line) st store (loading_triple st store (numbers k line))
