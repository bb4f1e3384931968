-- Between the functions of the code: what one hands to the next, up to the contract of `serve`, which is `Ended` in `Serving.antt`. No
-- theorem is stated with these.
use Rattle.std.specs.Prelude.{ℕ, ◌+◌, ◌≡◌, true, false, List, [], ◌∷◌, ◌++◌, length}
use Rattle.street_answers.specs.Text.{header}
use Rattle.street_splitting.specs.Lines.{kept_length}
use Rattle.street_feeds.specs.Program.{Running, closed, begun}
use Rattle.street_port.specs.declared.Printed.{Printed}
use Rattle.street_port.specs.Counts.{wrapped}
use Rattle.street_chunks.specs.declared.Served.{Served}
use Rattle.street_chunks.specs.Sizes.{chunk_size}
use Rattle.street_chunks.specs.Stopping.{stops_at, broken_off_of}
use Rattle.street_chunks.specs.Between.{Handed}
use Rattle.street_serving.specs.Sizes.{answers_room_of, all_turns}
use Rattle.street_serving.specs.Serving.{Filled, after, printed_up_to}

-- The lent lists before the first chunk.
pub record Fresh (store line chunk out : List ℕ) : Type 0 where
  pub store_zero : store ≡ begun.store
  pub line_room : length line ≡ kept_length
  pub chunk_room : length chunk ≡ chunk_size
  pub out_room : length out ≡ answers_room_of

-- As many bytes as the header has were handed to print, and taken.
pub record Begun (p : Printed) : Type 0 where
  pub total_is : p.total ≡ length header
  pub whole_is : p.whole ≡ true

-- The program stopped after these chunks: the last is empty, its answers were not taken, or the turns ran out.
pub record Stopped (p : Running) (s : Served) : Type 0 where
  pub chunks : List (List ℕ)
  pub last : List ℕ
  pub filled : Filled chunks
  pub read : length last ≡ s.got.count
  pub passes : p ≡ after (chunks ++ (last ∷ []))
  pub count : s.printed.total ≡ wrapped (length (printed_up_to (chunks ++ (last ∷ []))))
  pub why : stops_at s ≡ false → length chunks + 1 ≡ all_turns

-- The end of the input ends a line that was begun. Where the program broke off nothing more is printed, and all stays as it was.
pub record Finished (p q : Running) (out : List ℕ) (s r : Served) : Type 0 where
  pub same : r.got ≡ s.got
  pub broken : broken_off_of s ≡ true → (q ≡ p) × (r.printed ≡ s.printed)
  pub closes : broken_off_of s ≡ false → (q ≡ closed p) × Handed (closed p).out out s.printed r.printed
