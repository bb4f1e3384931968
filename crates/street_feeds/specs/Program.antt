-- Document 01, "The street program", whole: from the bytes that it reads to the bytes that it prints.
use Rattle.std.specs.Prelude.{ℕ, ◌+◌, ◌≡◌, List, [], ◌∷◌, ◌++◌, cond, length, take, replicate, eqb}
use Rattle.street_store.specs.Sizes.{store_room}
use Rattle.street_states.specs.declared.State.{State}
use Rattle.street_states.specs.States.{After, first_state}
use Rattle.street_steps.specs.Stepping.{step}
use Rattle.street_feeds.specs.declared.Feed.{Feed}
use Rattle.street_answers.specs.Text.{header, print_text}
use Rattle.street_splitting.specs.Lines.{cut}

-- The program between two bytes: what it keeps, the line begun, how many lines were answered, and what was printed.
pub record Running : Type 0 where
  pub state : State
  pub store : List ℕ
  pub line : List ℕ
  pub number : ℕ
  pub out : List ℕ

-- The line begun is taken, and its answer printed.
abbrev pub left_by : Running → After → Running
left_by p a =
    record {
      state = a.given.state;
      store = a.store;
      line = [];
      number = p.number + 1;
      out = p.out ++ print_text (p.number + 1) a.given.refusal a.given.value a.told;
    }

unfoldable pub answered : Running → Running
answered p = left_by p (step p.state p.store p.line)

-- Bytes of the line begun.
unfoldable pub grown : Running → List ℕ → Running
grown p s =
    record {
      state = p.state;
      store = p.store;
      line = cut (p.line ++ s);
      number = p.number;
      out = p.out;
    }

-- One byte more: a line feed ends the line.
abbrev pub taken : Running → ℕ → Running
taken p b = cond (eqb b 10) (answered (grown p (b ∷ []))) (grown p (b ∷ []))

unfoldable pub fed : Running → List ℕ → Running
fed p [] = p
fed p (b ∷ s) = fed (taken p b) s

-- An end of input without a line feed ends a line (how the open point is read: docs/DECISIONS.md).
unfoldable pub closed : Running → Running
closed p = cond (eqb (length p.line) 0) p (answered p)

-- Before the first byte: no start line accepted, an empty store, the header printed.
abbrev pub begun : Running
begun =
    record {
      state = first_state;
      store = replicate store_room 0;
      line = [];
      number = 0;
      out = header;
    }

-- The whole program, byte by byte.
unfoldable pub output : List ℕ → List ℕ
output input = (closed (fed begun input)).out

-- ---- the same by chunks
-- What was answered is taken out to be printed; the rest stays.
abbrev pub drained : Running → Running
drained p = record { state = p.state; store = p.store; line = p.line; number = p.number; out = [] }

-- The program after chunks, each of which was taken and its answers printed.
unfoldable pub passed : Running → List (List ℕ) → Running
passed p [] = p
passed p (c ∷ cs) = passed (drained (fed p c)) cs

-- What was printed for them, one after the other.
unfoldable pub printed_for : Running → List (List ℕ) → List ℕ
printed_for p [] = []
printed_for p (c ∷ cs) = (fed p c).out ++ printed_for (drained (fed p c)) cs

unfoldable pub joined : List (List ℕ) → List ℕ
joined [] = []
joined (c ∷ cs) = c ++ joined cs

-- The header, what is printed for the chunks, and the answer to a last line: however the input was cut, the program's output.
abbrev pub ChunksPrint : Type 0
ChunksPrint =
    (chunks : List (List ℕ))
    → header ++ (printed_for (drained begun) chunks ++ (closed (passed (drained begun) chunks)).out) ≡ output (joined chunks)

-- ---- the same by lines
-- The lines of an input, of whose first line these bytes were read before: each up to its line feed, the last one perhaps without.
unfoldable pub lines_from : List ℕ → List ℕ → List (List ℕ)
lines_from line [] = cond (eqb (length line) 0) [] (line ∷ [])
lines_from line (b ∷ s) = cond (eqb b 10) ((line ++ (b ∷ [])) ∷ lines_from [] s) (lines_from (line ++ (b ∷ [])) s)

-- The answers to lines, one after the other, the first of which has this number.
abbrev pub with_answer : ℕ → After → (After → List ℕ) → List ℕ
with_answer number a rest = print_text number a.given.refusal a.given.value a.told ++ rest a

unfoldable pub answers : State → List ℕ → ℕ → List (List ℕ) → List ℕ
answers st store number [] = []
answers st store number (l ∷ ls) =
    with_answer number (step st store l) (λ a. answers a.given.state a.store (number + 1) ls)

-- The header, and an answer to each line.
unfoldable pub printed : List ℕ → List ℕ
printed input = header ++ answers first_state (replicate store_room 0) 1 (lines_from [] input)

-- The definition's output is that, for every input.
abbrev pub PrintsAnswers : Type 0
PrintsAnswers = (input : List ℕ) → output input ≡ printed input

-- ---- what the code's values stand for
abbrev pub running : Feed → List ℕ → List ℕ → List ℕ → Running
running f store line out =
    record {
      state = f.state;
      store = store;
      line = take f.len line;
      number = f.number;
      out = take f.at out;
    }

abbrev pub first_feed : Feed
first_feed = record { state = first_state; number = 0; len = 0; at = 0 }

abbrev pub drained_feed : Feed → Feed
drained_feed f = record { state = f.state; number = f.number; len = f.len; at = 0 }
