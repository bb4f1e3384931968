-- What is claimed of whole lines; proved in proofs/RoundTrip.antt and proofs/Longest.antt. n is the number of posts, and k that of
-- a message's coefficients.
use Rattle.std.specs.Prelude.{ℕ, ◌+◌, ◌*◌, ◌-◌, ◌≤◌, ◌<◌, ◌≡◌, List, length, replicate}
use Rattle.shape.specs.Bounds.{most_posts, last_triple}
use Rattle.shape.specs.Lengths.{shape, v_length}
use Rattle.refusal.specs.Refusal.{first}
use Rattle.decimal.specs.Numeral.{tens, size}
use Rattle.forms.specs.Lines.{Message, masks, text}
use Rattle.forms.specs.Forms.{message, line_tests, Sent}

-- Demand 2: a line that posts write is read, and says the message again.
abbrev pub WrittenReadsBack : Type 0
WrittenReadsBack =
    (n k : ℕ) (m : Message) → n < tens 10 → Sent n k m → (first (line_tests n k (text m)) ≡ 0) × (message k (text m) ≡ m)

-- Every line that is read is the one that is written for what it says, and posts send that.
abbrev pub ReadIsWritten : Type 0
ReadIsWritten =
    (n k : ℕ) (s : List ℕ) → first (line_tests n k s) ≡ 0 → (s ≡ text (message k s)) × Sent n k (message k s)

-- No other bytes are read.
abbrev pub NoOtherLine : Type 0
NoOtherLine =
    (n k : ℕ) (s : List ℕ) → ((m : Message) → Sent n k m → s ≡ text m → ⊥) → first (line_tests n k s) ≡ 0 → ⊥

-- A line has one message.
abbrev pub OneMessage : Type 0
OneMessage = (n k : ℕ) (a b : Message) → n < tens 10 → Sent n k a → Sent n k b → text a ≡ text b → a ≡ b

-- ---- "The longest line has 712 bytes."
-- letter, row, post, 2k coefficients of 10 digits, line feed, and the commas
abbrev pub longest : ℕ → ℕ → ℕ
longest n k = 6 + size n + 22 * k

-- No line is longer.
abbrev pub NoneLonger : Type 0
NoneLonger = (n k : ℕ) (m : Message) → 1 ≤ k → Sent n k m → length (text m) ≤ longest n k

-- One is as long: the last triple's masks from the last post, with every coefficient p - 1.
abbrev pub longest_masks : ℕ → ℕ → Message
longest_masks n k = masks last_triple n (replicate (2 * k) 2147483646)

abbrev pub OneAsLong : Type 0
OneAsLong = (n k : ℕ) → 1 ≤ n → Sent n k (longest_masks n k) × (length (text (longest_masks n k)) ≡ longest n k)

-- No line of a station is longer than the longest of 255 posts with the largest t and as many check points a post.
abbrev pub longest_with : ℕ → ℕ
longest_with points = longest most_posts (v_length (shape most_posts (most_posts - 1) points))

abbrev pub AtMostLongest : Type 0
AtMostLongest =
    (n t points : ℕ) (m : Message) → n ≤ most_posts → t < n → Sent n (v_length (shape n t points)) m → length (text m) ≤ longest_with points

-- Document 01's 712, at 32 posts, is a case of the formula, and so are document 02's 5,619 at 255, and 11,207 with two check points a post.
abbrev pub LongestLines : Type 0
LongestLines = (longest 32 (v_length (shape 32 31 1)) ≡ 712) × (longest_with 1 ≡ 5619) × (longest_with 2 ≡ 11207)
