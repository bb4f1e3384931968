-- Demand 2's premises on one call, said beside the outline, call by call and in the document's words: "sessions of one draw", "the same deals,
-- sums and masks", and polynomials that are "truly" their senders'. A call that is so meets them: nothing else is asked. Without this, premises
-- that no run with an opening in it meets were proved.
use Rattle.std.specs.Prelude.{ℕ, ◌+◌, ◌*◌, ◌<◌, ◌≡◌, true, List, [], ◌∷◌, length, take, drop, get_or}
use Rattle.field.specs.Modulus.{p}
use Rattle.poly.specs.Counting.{All}
use Rattle.shape.specs.Lengths.{v_length}
use Rattle.session.specs.Sessions.{shape_of}
use Rattle.factory.specs.Calls.{dealer_number_of}
use Rattle.collect.specs.Collect.{mask_a, mask_b}
use Rattle.terms.specs.Listed.{products_of}
use Rattle.runs.specs.Draws.{Plan, Draw, IsRaw, raw_draw, raw_pack, triple_pack}
use Rattle.runs.specs.Outline.{load_row_of, load_triple_of, deal, message, opening, linear, masks, collect, multiply, relation_masks_of, relation_finish_of, access, cut}
use Rattle.runs.specs.Calls.{Post, Call}
use Rattle.runs.specs.Orders.{a_call, comes_to}
use Rattle.correctness.specs.History.{World, Event, answer_of, step, desk, Each}
use Rattle.correctness.specs.Ledger.{Ledger, dealt, sum, product, Written}
use Rattle.correctness.specs.Truth.{OwnPart, TrueMask, EnoughTrue, TrueFinish}
use Rattle.correctness.specs.Relation.{SumIn, EachAt}

-- What a post loads is its own part of what was drawn for those rows.
abbrev pub PartAsked : Plan → Draw → ℕ → Call → Type 0
PartAsked plan draw i (load_row_of x) = IsRaw (plan.raw x.r) × (x.pack ≡ raw_pack plan draw i x.r)
PartAsked plan draw i (load_triple_of x) = (plan.triple x.r ≡ true) × (x.pack ≡ triple_pack plan draw i x.r)
PartAsked plan draw i (deal x) = Unit {0}
PartAsked plan draw i (message x) = Unit {0}
PartAsked plan draw i (opening x) = Unit {0}
PartAsked plan draw i (linear x) = Unit {0}
PartAsked plan draw i (masks x) = Unit {0}
PartAsked plan draw i (collect x) = Unit {0}
PartAsked plan draw i (multiply x) = Unit {0}
PartAsked plan draw i (access x) = Unit {0}
PartAsked plan draw i (relation_masks_of x) = Unit {0}
PartAsked plan draw i (relation_finish_of x) = Unit {0}

-- A deal of u with c = u − f(0), a sum and masks are those that the ledger has.
abbrev pub LedgerAsked : Draw → Ledger → Call → Type 0
LedgerAsked draw L (load_row_of x) = Unit {0}
LedgerAsked draw L (load_triple_of x) = Unit {0}
LedgerAsked draw L (deal x) = (u : ℕ) × (u < p) × (L x.r ≡ dealt u) × (x.c ≡ (dealer_number_of u (get_or (raw_draw draw x.r) 0 0)).value)
LedgerAsked draw L (message x) = Unit {0}
LedgerAsked draw L (opening x) = Unit {0}
LedgerAsked draw L (linear x) = L x.r ≡ sum x.a x.b x.scale x.fee
LedgerAsked draw L (masks x) = L (x.r + 2) ≡ product x.r x.a x.b
LedgerAsked draw L (collect x) = Unit {0}
LedgerAsked draw L (multiply x) = Unit {0}
LedgerAsked draw L (access x) = Unit {0}
LedgerAsked draw L (relation_masks_of x) = All (λ t. L (t.first + 2) ≡ product t.first t.row t.second) (products_of x.terms)
LedgerAsked draw L (relation_finish_of x) = SumIn L x.r x.terms

-- Of both records of a finish, for the triple at r, at least t+1 polynomials are their senders'.
abbrev pub BothTrue : (ℕ → Type 0) → World → Post → ℕ → List ℕ → List ℕ → Type 0
BothTrue S w q r blocks_a blocks_b =
    let s = q.session in
    EnoughTrue (TrueMask S w (shape_of s) (take (v_length (shape_of s))) r) s (mask_a s q.rows r) blocks_a
    × EnoughTrue (TrueMask S w (shape_of s) (drop (v_length (shape_of s))) r) s (mask_b s q.rows r) blocks_b

-- So of a collect, and of each product term of a relation with its two of the records.
abbrev pub TruthAsked : (ℕ → Type 0) → World → Post → Call → Type 0
TruthAsked S w q (load_row_of x) = Unit {0}
TruthAsked S w q (load_triple_of x) = Unit {0}
TruthAsked S w q (deal x) = Unit {0}
TruthAsked S w q (message x) = Unit {0}
TruthAsked S w q (opening x) = Unit {0}
TruthAsked S w q (linear x) = Unit {0}
TruthAsked S w q (masks x) = Unit {0}
TruthAsked S w q (collect x) = BothTrue S w q x.r x.blocks_a x.blocks_b
TruthAsked S w q (multiply x) = Unit {0}
TruthAsked S w q (access x) = Unit {0}
TruthAsked S w q (relation_masks_of x) = Unit {0}
TruthAsked S w q (relation_finish_of x) =
    let m = 2 * length (products_of x.terms) in
    EachAt (λ k t. BothTrue S w q t.first (cut m (2 * k) x.blocks) (cut m (2 * k + 1) x.blocks)) 0 (products_of x.terms)

pub record AsksOnly (plan : Plan) (draw : Draw) (L : Ledger) (S : ℕ → Type 0) (w : World) (i : ℕ) (q : Post) (c : Call) : Type 0 where
  pub part : PartAsked plan draw i c → OwnPart plan draw i c
  pub ledger : LedgerAsked draw L c → Written draw L c
  pub truth : TruthAsked S w q c → TrueFinish S w q c

abbrev pub PremisesAsk : Type 1
PremisesAsk =
    (plan : Plan) (draw : Draw) (L : Ledger) (S : ℕ → Type 0) (w : World) (i : ℕ) (q : Post) (c : Call) → AsksOnly plan draw L S w i q c

-- Of a run: of each order of the posts S that is not refused what is asked of the call that it comes to, and of nothing else.
pub record RunAsks (S : ℕ → Type 0) (P : ℕ → Call → World → Type 0) : Type 0 where
  pub ends : (w : World) → Each S P [] w
  pub next : (e : Event) (es : List Event) (w : World)
      → (S e.post → (answer_of e w).refusal ≡ 0 → (c : Call) → comes_to e.order (desk w e.post) ≡ a_call c → P e.post c w)
      → Each S P es (step e w) → Each S P (e ∷ es) w

abbrev pub RunsAsk : Type 1
RunsAsk = (S : ℕ → Type 0) (P : ℕ → Call → World → Type 0) → RunAsks S P
