-- Demand 2 with two check points a post (document 02, (ix)): three posts with the check points 2 and 4, 3 and 5, 5 and 7 hold row 0, and
-- post 1 opens it. A lie passes one of post 1's two values and is refused by the other.
use Rattle.std.specs.Prelude.{ℕ, zero, suc, ◌-◌, ◌≡◌, false, List, [], ◌∷◌, replicate}
use Rattle.shape.specs.Bounds.{row_count_of}
use Rattle.shape.specs.Lengths.{shape, rows_length}
use Rattle.session.specs.Rows.{width, row_at}
use Rattle.opening.specs.Walking.{accepted}
use Rattle.opening.specs.Opening.{open_answer}
use Rattle.runs.specs.Draws.{Plan, Draw, none, by, raw_pack}
use Rattle.runs.specs.Calls.{Post, load_row_of, message}
use Rattle.correctness.specs.History.{Event, World, history, begin}
use Rattle.correctness_examples.specs.Station.{call, deal_of, states}

-- row 0 raw
unfoldable pub pairs : Plan
pairs = record {
  n = 3;
  t = 1;
  points = 2;
  raw = λ r. elim r [ zero ↦ by 0 | suc r ↦ none ];
  triple = λ r. false;
}

-- f = 7 + 4z; v1 = 1 + 2z + zz, v2 = 3 + z + 2zz, v3 = 5 + 6z + 3zz
unfoldable pub draw : Draw
draw = record {
  points = 2 ∷ 4 ∷ 3 ∷ 5 ∷ 5 ∷ 7 ∷ [];
  raws = (7 ∷ 4 ∷ 1 ∷ 2 ∷ 1 ∷ 3 ∷ 1 ∷ 2 ∷ 5 ∷ 6 ∷ 3 ∷ []) ∷ replicate (row_count_of - 1) [];
  triples = replicate row_count_of [];
}

abbrev pub load : ℕ → Event
load i = call i (load_row_of 0 (raw_pack pairs draw i 0))

abbrev pub room : List ℕ
room = 0 ∷ 0 ∷ 0 ∷ []

-- 6 is dealt, and posts 2 and 3 send their messages
unfoldable pub dealing : List Event
dealing = load 1 ∷ load 2 ∷ load 3 ∷ deal_of draw 1 0 6 ∷ deal_of draw 2 0 6 ∷ deal_of draw 3 0 6 ∷ call 2 (message 0 1 room) ∷ call 3 (message 0 1 room) ∷ []

abbrev pub zeros : ℕ → List ℕ
zeros i = replicate (rows_length (shape 3 1 2)) 0

abbrev pub new : World
new = begin pairs draw zeros states

abbrev pub opener : Post
opener = (history dealing new).posts 1

-- What both sent; for post 2 the false 13 + 0z + 0zz, which is v2 at 2 and not at 4, and 39 + 0z + 0zz, which is v2 at 4 and not at 2,
-- each with post 3's; and the first of them alone.
abbrev pub sent_both : List ℕ
sent_both = 0 ∷ 0 ∷ 0 ∷ 0 ∷ 1 ∷ 3 ∷ 1 ∷ 2 ∷ 1 ∷ 5 ∷ 6 ∷ 3 ∷ []

abbrev pub false_first : List ℕ
false_first = 0 ∷ 0 ∷ 0 ∷ 0 ∷ 1 ∷ 13 ∷ 0 ∷ 0 ∷ 1 ∷ 5 ∷ 6 ∷ 3 ∷ []

abbrev pub false_second : List ℕ
false_second = 0 ∷ 0 ∷ 0 ∷ 0 ∷ 1 ∷ 39 ∷ 0 ∷ 0 ∷ 1 ∷ 5 ∷ 6 ∷ 3 ∷ []

abbrev pub alone : List ℕ
alone = 0 ∷ 0 ∷ 0 ∷ 0 ∷ 1 ∷ 13 ∷ 0 ∷ 0 ∷ 0 ∷ 0 ∷ 0 ∷ 0 ∷ []

abbrev pub row_zero : List ℕ
row_zero = row_at (width opener.session) opener.rows 0

abbrev pub refusal_with : List ℕ → ℕ
refusal_with blocks = (open_answer opener.session opener.rows 0 blocks).refusal

abbrev pub value_with : List ℕ → ℕ
value_with blocks = (open_answer opener.session opener.rows 0 blocks).value

-- Either lie is rejected, and the row opens to 6 by the two true ones; with the lie alone too few are accepted.
pub record Rejected : Type 0 where
  pub accepted_both : accepted opener.session row_zero sent_both ≡ 1 ∷ 2 ∷ 3 ∷ []
  pub accepted_first : accepted opener.session row_zero false_first ≡ 1 ∷ 3 ∷ []
  pub accepted_second : accepted opener.session row_zero false_second ≡ 1 ∷ 3 ∷ []
  pub opens_both : (refusal_with sent_both ≡ 0) × (value_with sent_both ≡ 6)
  pub opens_first : (refusal_with false_first ≡ 0) × (value_with false_first ≡ 6)
  pub opens_second : (refusal_with false_second ≡ 0) × (value_with false_second ≡ 6)
  pub too_few : refusal_with alone ≡ 9
