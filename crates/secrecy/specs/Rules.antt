-- Document 01, "What a group of posts sees": "To keep the rules", and that all posts get the same answers. Both are properties
-- of a record, whatever the draw.
use Rattle.std.specs.Prelude.{ℕ, ◌+◌, ◌≤◌, ◌<◌, ◌≡◌, true, ◌≢◌, ◌⊎◌, List, [], ◌∷◌, ◌++◌, take, drop, get_or}
use Rattle.field.specs.Modulus.{p}
use Rattle.poly.specs.Counting.{All}
use Rattle.shape.specs.Marks.{present}
use Rattle.shape.specs.Lengths.{v_length}
use Rattle.opening.specs.Walking.{block_mark, block_coefficients}
use Rattle.forms.specs.Lines as Line
use Rattle.forms.specs.Lines.{text}
use Rattle.runs.specs.Draws.{Plan, IsRaw, plan_shape}
use Rattle.runs.specs.Outline.{Taking, nothing_taken, a_row_pack, a_triple_pack, a_number, a_record, two_records, takes, Given, moves, Every}
use Rattle.runs.specs.Calls.{Among, Told, ToldHalf}
use Rattle.runs.specs.Orders.{call, place, turn, Asked}
use Rattle.secrecy.specs.Steps.{Pack, its, Number, sent, fixed, Fixed, Step, Item}
use Rattle.secrecy.specs.Waiting.{Waiting, waiting_after, comes_of}
use Rattle.secrecy.specs.Seen.{Entry}

-- The refusal of a call, at post 1; and "the same answers" at every post: of them only the refusals are asked for, since the
-- numbers opened are then the same.
abbrev pub refusal_of : Entry → ℕ
refusal_of e = get_or e.refusals 0 0

abbrev pub AllSame : List ℕ → Type 0
AllSame [] = Unit {0}
AllSame (x ∷ xs) = All (λ y. y ≡ x) xs

abbrev pub SameAnswers : List Entry → Type 0
SameAnswers es = All (λ e. AllSame e.refusals) es

-- "to load, where a load isn't refused, nothing but its own part of drawn rows and triples, each at most once, as drawn and into the
-- rows it was drawn for", asked at every post. Once, since a row that was loaded is never empty again.
abbrev pub OwnPack : Plan → Pack → ℕ → Type 0 → Type 0
OwnPack plan pack r Drawn = Drawn × ((i : ℕ) → 1 ≤ i → i ≤ plan.n → pack i ≡ its r)

-- "to deal a row with the c its dealer broadcast", asked of deals that are not refused: of row r the one that follows the draw, or an
-- element c whose line `D,r,c` is among those broadcast. "a row never drawn raw takes any fixed c": by the rule for loads such a row
-- never becomes raw, so its deal is refused, and nothing is asked of its c.
abbrev pub FromDealer : List (List ℕ) → ℕ → Number → Type 0
FromDealer lines r (sent k) = k ≡ r
FromDealer lines r (fixed c) = (c < p) × Among (text (Line.deal r c)) lines

-- "to put in records only what its sender broadcast for that row": each present block, but the post's own. `Shown j xs` says
-- that post j broadcast xs.
abbrev pub OnlySent : Plan → (ℕ → List ℕ → Type 0) → (ℕ → List ℕ) → Type 0
OnlySent plan Shown blocks =
    (i j : ℕ) → 1 ≤ i → i ≤ plan.n → 1 ≤ j → j ≤ plan.n → j ≢ i → block_mark (v_length (plan_shape plan)) (blocks i) j ≡ present
    → Shown j (block_coefficients (v_length (plan_shape plan)) (blocks i) j)

-- An opening that comes to the walk: not refused, or refused with 9 or 13.
abbrev pub Walks : ℕ → Type 0
Walks k = (k ≡ 0) ⊎ ((k ≡ 9) ⊎ (k ≡ 13))

-- The rules for one call with the refusal k, after the lines broadcast before it: what it may be given.
abbrev pub RuleWith : Plan → ℕ → List (List ℕ) → (t : Taking) → Given Fixed t → Type 0
RuleWith plan k lines nothing_taken x = Unit {0}
RuleWith plan k lines (a_row_pack r) pack = k ≡ 0 → OwnPack plan pack r (IsRaw (plan.raw r))
RuleWith plan k lines (a_triple_pack r) pack = k ≡ 0 → OwnPack plan pack r (plan.triple r ≡ true)
RuleWith plan k lines (a_number r) c = k ≡ 0 → FromDealer lines r c
RuleWith plan k lines (a_record r) blocks = Walks k → OnlySent plan (Told lines r) (λ i. blocks i lines)
RuleWith plan k lines (two_records r) blocks =
    Walks k
    → OnlySent plan (ToldHalf (plan_shape plan) (take (v_length (plan_shape plan))) r lines) (λ i. blocks.0 i lines)
    × OnlySent plan (ToldHalf (plan_shape plan) (drop (v_length (plan_shape plan))) r lines) (λ i. blocks.1 i lines)

abbrev pub Rule : Plan → Step → ℕ → List (List ℕ) → Type 0
Rule plan c k lines = Every (λ m. RuleWith plan k lines (takes m.0) m.1) (moves c)

-- The lines that an order of the list broadcast, by the record: a call's.
abbrev pub heard_of : Item → Entry → List (List ℕ)
heard_of (call c) e = e.lines
heard_of (place d l) e = []
heard_of turn e = []

-- Of each order the call that it comes to keeps the rules. What is placed is no broadcast line: a false line does not license itself.
abbrev pub Rules : Plan → List Item → List Entry → List (List ℕ) → Waiting → Type 0
Rules plan [] es lines w = Unit {0}
Rules plan (o ∷ os) [] lines w = Unit {0}
Rules plan (o ∷ os) (e ∷ es) lines w =
    Asked (λ c. Rule plan c (refusal_of e) lines) (comes_of w o) × Rules plan os es (lines ++ heard_of o e) (waiting_after o (refusal_of e) w)
