-- Document 02, (iii): "`F,first`, which finishes". By (viii), "the street program's `F` .. use the pair".
use Rattle.std.specs.Prelude.{ℕ, List, [], ◌∷◌, get_or}
use Rattle.shape.specs.Bounds.{last_triple}
use Rattle.refusal.specs.Refusal.{or_else, outcome}
use Rattle.session.specs.declared.Session.{Session}
use Rattle.session.specs.declared.Answer.{Answer}
use Rattle.session.specs.Sessions.{shape_of, answer}
use Rattle.collect.specs.Collect.{collect_refusal, collect_answer}
use Rattle.multiply.specs.Multiply.{multiply_refusal_of, multiply_answer, multiply_rows_of}
use Rattle.street_store.specs.Sizes.{masks_a_at, masks_b_at}
use Rattle.street_store.specs.Records.{record_for}
use Rattle.street_reading.specs.Numbers.{numbers, read_refusal}
use Rattle.street_states.specs.declared.State.{State}
use Rattle.street_states.specs.States.{After, unless, session_rows, calling}

-- ---- "`F,first`": collect, then multiply with the session that collect hands back. F has the first refusal of the two, and a refused
-- F changes nothing, also where collect was done.
module _ (s : Session) (rows : List ℕ) (first : ℕ) (blocks_a blocks_b : List ℕ) where
  abbrev pub between : Session
  between = (collect_answer s rows first blocks_a blocks_b).session

  abbrev pub pair_refusal : ℕ
  pair_refusal = or_else (collect_refusal s rows first blocks_a blocks_b) (multiply_refusal_of between rows first)

  abbrev pub pair_answer : Answer
  pair_answer = answer pair_refusal 0 (multiply_answer between rows first).session s

  abbrev pub pair_rows : List ℕ
  pair_rows = outcome pair_refusal (multiply_rows_of between rows first) rows

-- with the records that are kept for the triple, or empty ones
abbrev pub masks_for : ℕ → State → List ℕ → ℕ → List ℕ
masks_for at st store first = record_for at (shape_of st.session) st.triple first store

unfoldable pub finishing : State → List ℕ → ℕ → After
finishing st store first =
    let blocks_a = masks_for masks_a_at st store first in
    let blocks_b = masks_for masks_b_at st store first in
    calling st store (pair_answer st.session (session_rows st store) first blocks_a blocks_b)
    (pair_rows st.session (session_rows st store) first blocks_a blocks_b)

unfoldable pub finish_step : State → List ℕ → List ℕ → After
finish_step st store line = unless (read_refusal (last_triple ∷ []) 1 line) st store (finishing st store (get_or (numbers 1 line) 0 0))
