-- What was read and printed up to the last chunk, and at the end.
use Rattle.std.specs.Prelude.{ℕ, ◌+◌, ◌<◌, ◌≡◌, Bool, true, false, not, ◌&&◌, cond, List, [], ◌∷◌, ◌++◌, length}
use Rattle.street_answers.specs.Text.{header}
use Rattle.street_feeds.specs.Program.{Running, closed, drained, passed, printed_for, joined, output, begun}
use Rattle.street_port.specs.Counts.{wrapped}
use Rattle.street_serving.specs.Sizes.{all_turns}

-- No chunk is empty.
abbrev pub Filled : List (List ℕ) → Type 0
Filled [] = Unit {0}
Filled (c ∷ cs) = (0 < length c) × Filled cs

-- The program after chunks, each of which was taken and its answers printed; and what was printed up to there.
abbrev pub after : List (List ℕ) → Running
after chunks = passed (drained begun) chunks

abbrev pub printed_up_to : List (List ℕ) → List ℕ
printed_up_to chunks = header ++ printed_for (drained begun) chunks

-- The program at its end, with the answer to a last line or without; and what was printed in all.
abbrev pub finally : Bool → List (List ℕ) → Running
finally closing chunks = cond closing (closed (after chunks)) (after chunks)

abbrev pub printed_in_all : Bool → List (List ℕ) → List ℕ
printed_in_all closing chunks = cond closing (output (joined chunks)) (printed_up_to chunks)

-- The end of the input ends a last line where no read failed and the answers to every chunk were taken.
abbrev pub closes : Bool → Bool → Bool
closes unread taken = not unread && taken

-- How many lines were answered, how many bytes were handed to standard output, whether reading failed, whether printing did, and
-- whether the answers to every chunk were taken, so that only the last line's may not be. No contract says which bytes are read: it is so
-- for some chunks, of which only the last may be empty. Where all answers were taken the last is empty, or the turns ran out; where
-- nothing failed as many bytes as the whole output of these chunks has were handed over.
pub record Ended (lines total : ℕ) (unread unwritten taken : Bool) : Type 0 where
  pub chunks : List (List ℕ)
  pub last : List ℕ
  pub filled : Filled chunks
  pub why : taken ≡ true → 0 < length last → length chunks + 1 ≡ all_turns
  pub told : taken ≡ false → unwritten ≡ true
  pub lines_is : lines ≡ (finally (closes unread taken) (chunks ++ (last ∷ []))).number
  pub count : total ≡ wrapped (length (printed_in_all (closes unread taken) (chunks ++ (last ∷ []))))
