-- Document 01, "The street program": what a broadcast line, `D`, `O` or `M`, does once a start line was accepted. "`O` lines are kept for one
-- row: one for another row empties the record first, a second from one post replaces the first"; document 02, (iii): "`M` lines, kept
-- for one triple as `O` lines are for a row".
use Rattle.std.specs.Prelude.{ℕ, List, cond, get_or, take, drop, eqb}
use Rattle.shape.specs.Lengths.{v_length}
use Rattle.refusal.specs.Refusal.{first}
use Rattle.forms.specs.Lines.{Message}
use Rattle.forms.specs.Forms.{message, line_tests}
use Rattle.session.specs.declared.Session.{Session}
use Rattle.session.specs.Sessions.{shape_of}
use Rattle.deal.specs.Deal.{deal_answer, deal_rows_of}
use Rattle.street_store.specs.Sizes.{openings_at, masks_a_at, masks_b_at}
use Rattle.street_store.specs.Records.{kept}
use Rattle.street_states.specs.declared.State.{State}
use Rattle.street_states.specs.States.{After, keeping_row, keeping_triple, refusing, leaving, unless, session_rows, calling}

-- 10 and 11, as the reader of broadcast lines has them, and what the line says.
unfoldable pub heard_refusal : Session → List ℕ → ℕ
heard_refusal s line = first (line_tests s.n (v_length (shape_of s)) line)

abbrev pub heard : Session → List ℕ → Message
heard s line = message (v_length (shape_of s)) line

-- ---- "`D,row,c`"
abbrev pub dealing : State → List ℕ → ℕ → ℕ → After
dealing st store row c =
    calling st store (deal_answer st.session (session_rows st store) row c) (deal_rows_of st.session (session_rows st store) row c)

-- ---- "`O,row,post,` t+1 coefficients"
unfoldable pub keep_step : State → List ℕ → ℕ → ℕ → List ℕ → After
keep_step st store row post xs =
    leaving (refusing (keeping_row st row) 0) (kept openings_at (shape_of st.session) (eqb st.kept row) post xs store)

-- ---- "`M,first row of triple,post,` t+1 coefficients of a − l, then t+1 of b − l'": each half goes to its own record
unfoldable pub keep_masks_step : State → List ℕ → ℕ → ℕ → List ℕ → List ℕ → After
keep_masks_step st store first post xs ys =
    let g = shape_of st.session in
    let same = eqb st.triple first in
    leaving (refusing (keeping_triple st first) 0) (kept masks_b_at g same post ys (kept masks_a_at g same post xs store))

unfoldable pub keep_halves_step : State → List ℕ → ℕ → ℕ → List ℕ → After
keep_halves_step st store first post xs =
    let k = v_length (shape_of st.session) in
    keep_masks_step st store first post (take k xs) (drop k xs)

-- By the letter.
abbrev pub saying : State → List ℕ → Message → After
saying st store m =
    cond (eqb m.letter 68) (dealing st store m.row (get_or m.numbers 0 0))
    (cond (eqb m.letter 79) (keep_step st store m.row m.post m.numbers)
    (keep_halves_step st store m.row m.post m.numbers))

unfoldable pub hear_step : State → List ℕ → List ℕ → After
hear_step st store line = unless (heard_refusal st.session line) st store (saying st store (heard st.session line))
