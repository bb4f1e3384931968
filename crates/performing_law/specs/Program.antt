-- The whole street program, where its definition is not one step. Document 01: "It prints a header, then per input line its number from 1, the
-- refusal (0 for none) and the number opened (0 if none)." Before the first line no start line is accepted, and the records are empty. Proved in
-- proofs/Program.antt.
use Rattle.std.specs.Prelude.{ℕ, ◌+◌, ◌*◌, ◌/◌, ◌%◌, ◌≤◌, ◌<◌, ◌≡◌, false, List, [], ◌∷◌, ◌++◌, replicate}
use Rattle.shape.specs.Lengths.{shape}
use Rattle.poly.specs.Counting.{All}
use Rattle.decimal.specs.Numeral.{numeral}
use Rattle.street_answers.specs.Text.{long_numeral}
use Rattle.street_answers.specs.Claims.{three_digits}
use Rattle.street_store.specs.Sizes.{openings_at, masks_a_at, masks_b_at, InStreet}
use Rattle.street_store.specs.Records.{record_at}
use Rattle.street_states.specs.declared.State.{State}
use Rattle.street_steps.specs.Stepping.{step}
use Rattle.street_feeds.specs.Program.{begun, answers, lines_from, printed}

-- `line,refusal,value` and a line feed
abbrev pub header_bytes : List ℕ
header_bytes = 108 ∷ 105 ∷ 110 ∷ 101 ∷ 44 ∷ 114 ∷ 101 ∷ 102 ∷ 117 ∷ 115 ∷ 97 ∷ 108 ∷ 44 ∷ 118 ∷ 97 ∷ 108 ∷ 117 ∷ 101 ∷ 10 ∷ []

-- A byte that ends no line.
abbrev pub NoFeed : ℕ → Type 0
NoFeed b = b ≡ 10 → ⊥

pub record ProgramPrints : Type 0 where
  pub not_started : begun.state.started ≡ false
  pub no_openings : (n t points : ℕ) → InStreet (shape n t points)
      → record_at openings_at (shape n t points) begun.store ≡ replicate (n * (points * t + 2)) 0
  pub no_masks_a : (n t points : ℕ) → InStreet (shape n t points)
      → record_at masks_a_at (shape n t points) begun.store ≡ replicate (n * (points * t + 2)) 0
  pub no_masks_b : (n t points : ℕ) → InStreet (shape n t points)
      → record_at masks_b_at (shape n t points) begun.store ≡ replicate (n * (points * t + 2)) 0
  -- `printed` is the program's output (`PrintsAnswers`)
  pub by_lines : (input : List ℕ) → printed input ≡ header_bytes ++ answers begun.state begun.store 1 (lines_from [] input)
  -- the line's number, the refusal, the value; behind them what an `X` prints; then the next line, on what this one left
  pub answer : (st : State) (store : List ℕ) (number : ℕ) (line : List ℕ) (lines : List (List ℕ))
      → (let a = step st store line in
      answers st store number (line ∷ lines)
      ≡ (three_digits (long_numeral number) (numeral a.given.refusal) (numeral a.given.value) ++ a.told)
      ++ answers a.given.state a.store (number + 1) lines)
  pub no_more : (st : State) (store : List ℕ) (number : ℕ) → answers st store number [] ≡ []
  -- a line is what stands up to a line feed, itself included, and nothing else ends one but the input's end, which leaves the last line without
  pub next_line : (s rest : List ℕ) → All NoFeed s → lines_from [] (s ++ (10 ∷ rest)) ≡ (s ++ (10 ∷ [])) ∷ lines_from [] rest
  pub last_line : (b : ℕ) (s : List ℕ) → All NoFeed (b ∷ s) → lines_from [] (b ∷ s) ≡ (b ∷ s) ∷ []
  pub no_lines : lines_from [] [] ≡ []
  -- the line's number: one digit below 10, from there on the digits of a tenth and the last one, for every number of 64 bits
  pub one_digit : (x : ℕ) → x < 10 → long_numeral x ≡ (48 + x) ∷ []
  pub more_digits : (x : ℕ) → 10 ≤ x → x < 18446744073709551616 → long_numeral x ≡ long_numeral (x / 10) ++ ((48 + x % 10) ∷ [])
