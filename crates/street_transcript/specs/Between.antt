-- Between the functions of the code: what one hands to the next. No theorem is stated with these.
use Rattle.std.specs.Prelude.{ℕ, ◌≡◌, List, [], ◌∷◌, Bool, true, cond, Result, length, eqb}
use Rattle.street_feeds.specs.declared.Feed.{Feed}
use Rattle.refusal.specs.declared.Refusal.{Refusal}
use Rattle.refusal.specs.Numbers.{refused}
use Rattle.std.specs.Result.{result_unwrap_or}
use Rattle.street_splitting.specs.Lines.{laid}
use Rattle.street_feeds.specs.Program.{Running, taken, fed, closed, running}
use Rattle.street_feeds.specs.Between.{Added, Fed}

-- The lent line after bytes were taken one by one: a line feed ends a line, and the next is kept from the list's start on.
unfoldable pub line_after_of : Running → List ℕ → List ℕ → List ℕ
line_after_of p line [] = line
line_after_of p line (b ∷ s) = line_after_of (taken p b) (laid (length p.line) (b ∷ []) line) s

-- The program after an answer: as it was, where it is refused.
abbrev pub feed_after : Feed → Result Feed Refusal → Feed
feed_after f r = result_unwrap_or r f

-- The answer to k bytes, with the lists afterwards: all as it was, where they are refused; else the new state and the new line.
pub record Moved (x k : ℕ) (f : Feed) (store line out : List ℕ) (new : Running) (newLine : List ℕ) (r : Result Feed Refusal) (store' line' out' : List ℕ) : Type 0 where
  pub refusal_is : refused r ≡ x
  pub unmoved : (x ≡ 0 → ⊥) → (feed_after f r ≡ f) × (store' ≡ store) × (line' ≡ line) × (out' ≡ out)
  pub says : x ≡ 0 → running (feed_after f r) store' line' out' ≡ new
  pub line_is : x ≡ 0 → line' ≡ newLine
  pub left : x ≡ 0 → Fed f (feed_after f r) store' k
  pub added : x ≡ 0 → Added f (feed_after f r) out out'

-- ---- a chunk, or the end of the input
-- The end of the input comes as one byte, which is not kept.
pub record Closing (closing : Bool) (chunk : List ℕ) : Type 0 where
  pub one : closing ≡ true → length chunk ≡ 1

abbrev pub ran : Bool → Running → List ℕ → Running
ran closing p s = cond closing (cond (eqb (length s) 0) p (closed p)) (fed p s)

abbrev pub line_ran : Bool → Running → List ℕ → List ℕ → List ℕ
line_ran closing p line s = cond closing line (line_after_of p line s)
