-- Where exactly eight turns are needed: the dealer just served sends again while the seven others wait.
use Rattle.std.specs.Prelude.{ℕ, ◌≡◌, List, [], ◌∷◌, replicate}
use Rattle.session.specs.declared.Session.{Session}
use Rattle.session.specs.Sessions.{session_of}
use Rattle.dealers.specs.State.{new_state_of, chosen}
use Rattle.dealers.specs.Table.{byte}
use Rattle.dealers.specs.Fairness.{Operation, places, turns, done, done_all, counted_in}

-- Post 1 of two, with t = 1 and one check point, and its list of rows. The lines are one byte long and say nothing: each turn is refused with 10, and counts.
abbrev pub some_session : Session
some_session = session_of 2 1 1 1 (record { first = 1; second = 0 })

abbrev pub a_turn : Operation
a_turn = turns some_session (replicate 576 0)

abbrev pub sends : ℕ → Operation
sends d = places d (88 ∷ [])

abbrev pub busy : List ℕ
busy = done_all (sends 1 ∷ a_turn ∷ sends 1 ∷ sends 2 ∷ sends 3 ∷ sends 4 ∷ sends 5 ∷ sends 6 ∷ sends 7 ∷ sends 8 ∷ []) new_state_of

-- the dealers whose lines a list of turns takes
abbrev pub chosen_in : List Operation → List ℕ → List ℕ
chosen_in [] state = []
chosen_in (o ∷ os) state = chosen state ∷ chosen_in os (done o state)

abbrev pub eight_turns : List Operation
eight_turns = a_turn ∷ a_turn ∷ a_turn ∷ a_turn ∷ a_turn ∷ a_turn ∷ a_turn ∷ a_turn ∷ []

abbrev pub EightNeeded : Type 0
EightNeeded =
    (byte busy 1 ≡ 1) × (counted_in eight_turns busy ≡ 8) × (chosen_in eight_turns busy ≡ 2 ∷ 3 ∷ 4 ∷ 5 ∷ 6 ∷ 7 ∷ 8 ∷ 1 ∷ [])
