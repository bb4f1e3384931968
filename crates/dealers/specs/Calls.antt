-- Document 02, (xii): the three calls, with their tests in order.
use Rattle.std.specs.Prelude.{ℕ, zero, suc, not, List, [], ◌∷◌, ◌++◌, eqb, length, get_or}
use Rattle.refusal.specs.Refusal.{Test, ◌when◌, first, outcome}
use Rattle.refusal.specs.Conditions.{outside, wrong_length}
use Rattle.session.specs.declared.Session.{Session}
use Rattle.session.specs.declared.Answer.{Answer}
use Rattle.session.specs.Sessions.{holding}
use Rattle.session.specs.Checks.{frame_tests}
use Rattle.deal.specs.Deal.{deal_answer, deal_rows_of}
use Rattle.forms.specs.Forms.{message, line_tests}
use Rattle.dealers.specs.State.{state_length, dealer_count, place_bytes, new_state_of, bad_state, waits, placed, served, chosen, line_in}

-- ---- A new state: 5 for a list of another length.
abbrev pub new_state_refusal : List ℕ → ℕ
new_state_refusal state = first (5 when wrong_length state state_length ∷ [])

abbrev pub new_state_after : List ℕ → List ℕ
new_state_after state = outcome (new_state_refusal state) new_state_of state

-- ---- 5 and 16 of the state handed in: "16 also meets, after 5, a last dealer outside 1..8 or a place over 16 bytes."
abbrev pub state_tests : List ℕ → List Test
state_tests state = 5 when wrong_length state state_length ∷ 16 when bad_state state ∷ []

-- ---- A dealer's line is placed. "It refuses with 16 a dealer outside 1..8, then with 17 a line for a place still filled, then with
-- 10 an empty or longer line."
abbrev pub place_tests : List ℕ → ℕ → ℕ → List Test
place_tests state d len =
    state_tests state ++ (16 when outside 1 dealer_count d ∷ 17 when waits state d ∷ 10 when outside 1 place_bytes len ∷ [])

unfoldable pub place_refusal_of : List ℕ → ℕ → ℕ → ℕ
place_refusal_of state d len = first (place_tests state d len)

abbrev pub place_after_of : List ℕ → ℕ → List ℕ → List ℕ
place_after_of state d line = outcome (place_refusal_of state d (length line)) (placed state d line) state

-- ---- A turn. "A turn refused with 1 to 5 or 16 takes no line and isn't counted."
abbrev pub count_tests : Session → List ℕ → List ℕ → List Test
count_tests s rows state = frame_tests s rows ++ state_tests state

unfoldable pub count_refusal : Session → List ℕ → List ℕ → ℕ
count_refusal s rows state = first (count_tests s rows state)

-- "The line is then read, 10 for any but a D line", as the reader of broadcast lines has 10 and 11. A D line is the same at every station
-- (Claims.antt, `SameEverywhere`): it is read as at one of two posts, where a message has two coefficients.
abbrev pub taken_tests : List ℕ → List Test
taken_tests line = 10 when not (eqb (get_or line 0 0) 68) ∷ line_tests 2 2 line

unfoldable pub taken_refusal : List ℕ → ℕ
taken_refusal line = first (taken_tests line)

abbrev pub said_row : List ℕ → ℕ
said_row line = (message 2 line).row

abbrev pub said_number : List ℕ → ℕ
said_number line = get_or (message 2 line).numbers 0 0

-- "and dealt"; "a line refused once it is taken ...: the turn returns that refusal"
abbrev pub taken_answer : Session → List ℕ → List ℕ → Answer
taken_answer s rows line =
    outcome (taken_refusal line) (deal_answer s rows (said_row line) (said_number line)) (holding (taken_refusal line) 0 s)

abbrev pub taken_rows : Session → List ℕ → List ℕ → List ℕ
taken_rows s rows line = outcome (taken_refusal line) (deal_rows_of s rows (said_row line) (said_number line)) rows

-- What a turn does where dealer d is chosen, or none: "If no line waits, the turn isn't refused and changes nothing."
abbrev pub whose : {A : Type 0} → ℕ → A → (ℕ → A) → A
whose zero none by = none
whose (suc d) none by = by (suc d)

abbrev pub counted_answer : Session → List ℕ → List ℕ → Answer
counted_answer s rows state = whose (chosen state) (holding 0 0 s) (λ d. taken_answer s rows (line_in state d))

abbrev pub counted_rows : Session → List ℕ → List ℕ → List ℕ
counted_rows s rows state = whose (chosen state) rows (λ d. taken_rows s rows (line_in state d))

-- "frees its place and counts as served too: ... the place and the last dealer are all that it changes"
abbrev pub counted_state : List ℕ → List ℕ
counted_state state = whose (chosen state) state (served state)

abbrev pub turn_answer : Session → List ℕ → List ℕ → Answer
turn_answer s rows state = outcome (count_refusal s rows state) (counted_answer s rows state) (holding (count_refusal s rows state) 0 s)

abbrev pub turn_rows : Session → List ℕ → List ℕ → List ℕ
turn_rows s rows state = outcome (count_refusal s rows state) (counted_rows s rows state) rows

abbrev pub turn_state : Session → List ℕ → List ℕ → List ℕ
turn_state s rows state = outcome (count_refusal s rows state) (counted_state state) state
