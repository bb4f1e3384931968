-- Document 01, "To keep the rules", call by call: said beside the outline, in the document's words. A call that is so keeps them: nothing else
-- is asked.
use Rattle.std.specs.Prelude.{ℕ, suc, ◌+◌, ◌*◌, ◌-◌, ◌≤◌, ◌<◌, ◌≡◌, true, ◌≢◌, ◌⊎◌, List, [], ◌∷◌, ◌++◌, length, take, drop, get_or}
use Rattle.shape.specs.Lengths.{v_length}
use Rattle.forms.specs.Lines as Line
use Rattle.forms.specs.Lines.{text}
use Rattle.terms.specs.declared.Term.{Term}
use Rattle.terms.specs.Listed.{products_of}
use Rattle.runs.specs.Draws.{Plan, IsRaw, plan_shape}
use Rattle.runs.specs.Outline.{load_row_of, load_triple_of, deal, message, opening, linear, masks, collect, multiply, relation_masks_of, relation_finish_of, access, cut}
use Rattle.runs.specs.Calls.{Among, Told, ToldHalf}
use Rattle.runs.specs.Orders.{a_call}
use Rattle.secrecy.specs.Steps.{its, Number, sent, Record, Step, Item}
use Rattle.secrecy.specs.Seen.{Entry}
use Rattle.secrecy.specs.Waiting.{Waiting, waiting_after, comes_of}
use Rattle.secrecy.specs.Rules.{Walks, Rule, refusal_of, heard_of, Rules}

-- "to put in records only what its sender broadcast": each block with mark 1 but the post's own, by its place in the record.
abbrev pub OthersSent : Plan → (ℕ → List ℕ → Type 0) → (ℕ → List ℕ) → Type 0
OthersSent plan Shown blocks =
    (i j : ℕ) → 1 ≤ i → i ≤ plan.n → 1 ≤ j → j ≤ plan.n → j ≢ i
    → get_or (blocks i) ((j - 1) * (plan.points * plan.t + 1 + 1)) 0 ≡ 1
    → Shown j (take (plan.points * plan.t + 1) (drop ((j - 1) * (plan.points * plan.t + 1 + 1) + 1) (blocks i)))

-- Records of the two masks of the triple at r show what their senders broadcast for that factor of that triple.
abbrev pub BothSent : Plan → List (List ℕ) → ℕ → (ℕ → List ℕ) → (ℕ → List ℕ) → Type 0
BothSent plan lines r blocks_a blocks_b =
    OthersSent plan (ToldHalf (plan_shape plan) (take (v_length (plan_shape plan))) r lines) blocks_a
    × OthersSent plan (ToldHalf (plan_shape plan) (drop (v_length (plan_shape plan))) r lines) blocks_b

-- Of each product term, from place k on, its two of m records; asked where the call comes to the walk.
abbrev pub TermsSent : Plan → ℕ → List (List ℕ) → (m : ℕ) → Record → (k : ℕ) → List Term → Type 0
TermsSent plan refusal lines m blocks k [] = Unit {0}
TermsSent plan refusal lines m blocks k (t ∷ ts) =
    (Walks refusal → BothSent plan lines t.first (λ i. cut m (2 * k) (blocks i lines)) (λ i. cut m (2 * k + 1) (blocks i lines)))
    × TermsSent plan refusal lines m blocks (suc k) ts

-- "to deal a row with the c its dealer broadcast": the one that follows the draw, or a fixed c whose line is among those broadcast.
abbrev pub Broadcast : List (List ℕ) → ℕ → Number → Type 0
Broadcast lines r number = (number ≡ sent r) ⊎ ((c : ℕ) × (number ≡ Number.fixed c) × (c < 2147483647) × Among (text (Line.deal r c)) lines)

-- Of a call with the refusal k, after these lines.
abbrev pub RuleAsked : Plan → ℕ → List (List ℕ) → Step → Type 0
RuleAsked plan k lines (load_row_of x) = k ≡ 0 → IsRaw (plan.raw x.r) × ((i : ℕ) → 1 ≤ i → i ≤ plan.n → x.pack i ≡ its x.r)
RuleAsked plan k lines (load_triple_of x) = k ≡ 0 → (plan.triple x.r ≡ true) × ((i : ℕ) → 1 ≤ i → i ≤ plan.n → x.pack i ≡ its x.r)
RuleAsked plan k lines (deal x) = k ≡ 0 → Broadcast lines x.r x.c
RuleAsked plan k lines (message x) = Unit {0}
RuleAsked plan k lines (opening x) = Walks k → OthersSent plan (Told lines x.r) (λ i. x.blocks i lines)
RuleAsked plan k lines (linear x) = Unit {0}
RuleAsked plan k lines (masks x) = Unit {0}
RuleAsked plan k lines (collect x) = Walks k → BothSent plan lines x.r (λ i. x.blocks_a i lines) (λ i. x.blocks_b i lines)
RuleAsked plan k lines (multiply x) = Unit {0}
RuleAsked plan k lines (access x) = Unit {0}
RuleAsked plan k lines (relation_masks_of x) = Unit {0}
RuleAsked plan k lines (relation_finish_of x) =
    TermsSent plan k lines (2 * length (products_of x.terms)) x.blocks 0 (products_of x.terms)

abbrev pub RulesAsk : Type 0
RulesAsk = (plan : Plan) (k : ℕ) (lines : List (List ℕ)) (c : Step) → RuleAsked plan k lines c → Rule plan c k lines

-- Of a list nothing where it ends, and then of each order what is asked of the call that it comes to: of lines placed and turns themselves
-- nothing is asked, and of a call that none of the record's answers belongs to neither.
pub record ListAsked (plan : Plan) : Type 0 where
  pub ends : (es : List Entry) (lines : List (List ℕ)) (w : Waiting) → Rules plan [] es lines w
  pub unanswered : (o : Item) (os : List Item) (lines : List (List ℕ)) (w : Waiting) → Rules plan (o ∷ os) [] lines w
  pub next : (o : Item) (os : List Item) (e : Entry) (es : List Entry) (lines : List (List ℕ)) (w : Waiting)
      → ((c : Step) → comes_of w o ≡ a_call c → RuleAsked plan (refusal_of e) lines c)
      → Rules plan os es (lines ++ heard_of o e) (waiting_after o (refusal_of e) w) → Rules plan (o ∷ os) (e ∷ es) lines w

abbrev pub RulesOfLists : Type 0
RulesOfLists = (plan : Plan) → ListAsked plan
