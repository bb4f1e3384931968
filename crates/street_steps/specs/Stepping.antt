-- Document 01, "The street program": what one line does to the program's state.
use Rattle.std.specs.Prelude.{ℕ, ◌≡◌, List, [], ◌∷◌, true, cond, length, get_or, eqb, ltb}
use Rattle.refusal.specs.Refusal.{◌when◌, first, or_else}
use Rattle.refusal.specs.Conditions.{wrong_length, station_tests}
use Rattle.forms.specs.Forms.{is_letter}
use Rattle.access.specs.Access.{access_answer}
use Rattle.session.specs.Sessions.{shape_of}
use Rattle.street_store.specs.Sizes.{street_posts, store_room, InStreet, longest_line}
use Rattle.street_states.specs.declared.State.{State}
use Rattle.street_states.specs.States.{After, refusing, answering, leaving}
use Rattle.street_startlines.specs.Steps.{early_step}
use Rattle.street_rowlines.specs.Loads.{load_step, load_triple_step}
use Rattle.street_rowlines.specs.Steps.{linear_step, open_step}
use Rattle.street_finishlines.specs.Masks.{mask_step}
use Rattle.street_finishlines.specs.Steps.{finish_step}
use Rattle.street_postlines.specs.Steps.{hear_step}

-- Document 02, (xi): "A line `A,row,` and rising post numbers .., read by a new call on the session that the street program uses too": its form is the
-- call's to look at, and it changes the session alone.
unfoldable pub access_step : State → List ℕ → List ℕ → After
access_step st store s = leaving (answering st (access_answer st.session s)) store

-- By the letter, where a line prints nothing but its answer: "a second `S` then gets 10, as does any other letter"; document 02, (ix): "a second start
-- line of either letter gets 10".
unfoldable pub letters_step : State → List ℕ → List ℕ → After
letters_step st store s =
    let letter = get_or s 0 0 in
    cond (eqb letter 82) (load_step st store s)
    (cond (eqb letter 84) (load_triple_step st store s)
    (cond (eqb letter 71) (open_step st store s)
    (cond (eqb letter 76) (linear_step st store s)
    (cond (eqb letter 70) (finish_step st store s)
    (cond (eqb letter 65) (access_step st store s)
    (cond (is_letter letter) (hear_step st store s)
    (leaving (refusing st 10) store)))))))

-- 10, "any line over" the longest; an `X` prints its M line.
unfoldable pub late_step : State → List ℕ → List ℕ → After
late_step st store s =
    cond (ltb longest_line (length s)) (leaving (refusing st 10) store)
    (cond (eqb (get_or s 0 0) 88) (mask_step st store s) (letters_step st store s))

-- One line.
unfoldable pub step : State → List ℕ → List ℕ → After
step st store s = cond st.started (late_step st store s) (leaving (early_step st s) store)

-- What holds between lines: the store has room for the largest session, and a session that was accepted is one of the street's.
pub record Ready (st : State) (store : List ℕ) : Type 0 where
  pub store_room_is : length store ≡ store_room
  pub in_range : st.started ≡ true → InStreet (shape_of st.session)

-- Before the line is looked at: 1, 2 and 4 of a session that no start line can have made, 5 of the store, which has room for the largest.
abbrev pub station_refusal_of : State → ℕ
station_refusal_of st =
    let s = st.session in
    cond st.started (first (1 when ltb street_posts s.n ∷ station_tests s.n s.t s.points)) 0

unfoldable pub room_refusal_of : State → List ℕ → ℕ
room_refusal_of st store = or_else (station_refusal_of st) (first (5 when wrong_length store store_room ∷ []))
