-- Document 02, (iii): "`X,a,b,first`, which makes the masks". "X, when not refused, also prints its M line, after its answer."
use Rattle.std.specs.Prelude.{ℕ, List, [], ◌∷◌, get_or, replicate}
use Rattle.shape.specs.Bounds.{last_row_at, last_triple}
use Rattle.shape.specs.Lengths.{masks_length}
use Rattle.refusal.specs.Refusal.{outcome}
use Rattle.forms.specs.Lines as Lines
use Rattle.session.specs.Sessions.{shape_of, answer}
use Rattle.product_masks.specs.Masks.{masks_refusal_of, masks_answer, mask_numbers_of}
use Rattle.street_reading.specs.Numbers.{numbers, read_refusal}
use Rattle.street_states.specs.declared.State.{State}
use Rattle.street_states.specs.States.{After, answering, leaving, unless, session_rows}

-- ---- "`X,a,b,first`"
-- the M line, as the writer of broadcast lines has it
abbrev pub mask_line : State → ℕ → List ℕ → List ℕ
mask_line st first xs = Lines.text (Lines.masks first st.session.post xs)

-- a list of the masks' length, which the call fills
abbrev pub no_masks : State → List ℕ
no_masks st = replicate (masks_length (shape_of st.session)) 0

unfoldable pub masking : State → List ℕ → ℕ → ℕ → ℕ → After
masking st store a b first =
    let answer = answering st (masks_answer st.session (session_rows st store) a b first (no_masks st)) in
    let line = mask_line st first (mask_numbers_of st.session (session_rows st store) a b first) in
    outcome (masks_refusal_of st.session (session_rows st store) a b first (no_masks st))
    (record { given = answer; store = store; told = line })
    (leaving answer store)

unfoldable pub masking_of : State → List ℕ → List ℕ → After
masking_of st store xs = masking st store (get_or xs 0 0) (get_or xs 1 0) (get_or xs 2 0)

unfoldable pub mask_step : State → List ℕ → List ℕ → After
mask_step st store line =
    unless (read_refusal (last_row_at ∷ last_row_at ∷ last_triple ∷ []) 3 line) st store (masking_of st store (numbers 3 line))
