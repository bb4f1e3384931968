-- Document 01, "The street program": what `G` does once a start line was accepted; document 02, (iii): `L`.
use Rattle.std.specs.Prelude.{ℕ, List, [], ◌∷◌, get_or}
use Rattle.shape.specs.Bounds.{last_row_at}
use Rattle.session.specs.declared.Session.{Session}
use Rattle.session.specs.declared.Answer.{Answer}
use Rattle.session.specs.Sessions.{shape_of}
use Rattle.linear.specs.Linear.{linear_answer, linear_rows_of}
use Rattle.opening.specs.Opening.{open_answer}
use Rattle.street_store.specs.Sizes.{openings_at}
use Rattle.street_store.specs.Records.{record_for}
use Rattle.street_reading.specs.Numbers.{numbers, read_refusal}
use Rattle.street_states.specs.declared.State.{State}
use Rattle.street_states.specs.States.{After, answering, leaving, unless, session_rows, calling}

-- ---- "`L,dest,a,b,s,fee`"
abbrev pub sum_answer : Session → List ℕ → List ℕ → Answer
sum_answer s rows xs = linear_answer s rows (get_or xs 0 0) (get_or xs 1 0) (get_or xs 2 0) (get_or xs 3 0) (get_or xs 4 0)

abbrev pub sum_rows_of : Session → List ℕ → List ℕ → List ℕ
sum_rows_of s rows xs = linear_rows_of s rows (get_or xs 0 0) (get_or xs 1 0) (get_or xs 2 0) (get_or xs 3 0) (get_or xs 4 0)

unfoldable pub adding : State → List ℕ → List ℕ → After
adding st store xs = calling st store (sum_answer st.session (session_rows st store) xs) (sum_rows_of st.session (session_rows st store) xs)

unfoldable pub linear_step : State → List ℕ → List ℕ → After
linear_step st store line =
    unless (read_refusal (last_row_at ∷ last_row_at ∷ last_row_at ∷ []) 5 line) st store (adding st store (numbers 5 line))

-- ---- "and `G,row`, which opens the row": "G leaves the record as it is (a G for another row opens with an empty one)"
abbrev pub openings_for : State → List ℕ → ℕ → List ℕ
openings_for st store row = record_for openings_at (shape_of st.session) st.kept row store

abbrev pub opening : State → List ℕ → List ℕ → After
opening st store xs =
    let row = get_or xs 0 0 in
    leaving (answering st (open_answer st.session (session_rows st store) row (openings_for st store row))) store

unfoldable pub open_step : State → List ℕ → List ℕ → After
open_step st store line = unless (read_refusal (last_row_at ∷ []) 1 line) st store (opening st store (numbers 1 line))
