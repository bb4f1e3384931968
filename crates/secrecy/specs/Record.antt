-- Document 01, "The record of demand 3 holds the group's check points, its packs and, after each call, its rows; f of each row whose dealer is a post
-- of the group; every broadcast line; and the answers": place by place, with figures, said beside `seen`. A record with less in it would make demand 3
-- say less and stay proved. (Check points: Points.antt.) Proved in proofs/Record.antt.
use Rattle.std.specs.Prelude.{ℕ, ◌+◌, ◌-◌, ◌≤◌, ◌<◌, ◌≡◌, Bool, true, List, [], ◌∷◌, map, length, take, get_or}
use Rattle.forms.specs.Lines as Line
use Rattle.forms.specs.Lines.{text}
use Rattle.runs.specs.Draws.{Plan, Draw, by, raw_draw, raw_pack, triple_pack}
use Rattle.runs.specs.Outline as Outline
use Rattle.runs.specs.Calls as Calls
use Rattle.runs.specs.Calls.{Among}
use Rattle.runs.specs.Orders.{call, place, turn, Desk, Carried, carry, sent_on}
use Rattle.secrecy.specs.Steps.{Secrets, Following, Number, sent, own, Lent, Record, theirs, bytes, Step, Item, dealt_number, load_row_of, load_triple_of, deal, message, opening, linear, collect, access}
use Rattle.secrecy.specs.Seen.{Seen, order_at, new_desk, entry_of, run, seen}

-- Who makes an order: of an opening message those whom it names ("however few posts send one"), of any other order every post.
abbrev pub CallsIn : Step → ℕ → Type 0
CallsIn (Outline.message x) i = x.heard i ≡ true
CallsIn (Outline.load_row_of x) i = Unit {0}
CallsIn (Outline.load_triple_of x) i = Unit {0}
CallsIn (Outline.deal x) i = Unit {0}
CallsIn (Outline.opening x) i = Unit {0}
CallsIn (Outline.linear x) i = Unit {0}
CallsIn (Outline.masks x) i = Unit {0}
CallsIn (Outline.collect x) i = Unit {0}
CallsIn (Outline.multiply x) i = Unit {0}
CallsIn (Outline.relation_masks_of x) i = Unit {0}
CallsIn (Outline.relation_finish_of x) i = Unit {0}
CallsIn (Outline.access x) i = Unit {0}

abbrev pub Makes : Item → ℕ → Type 0
Makes (call c) i = CallsIn c i
Makes (place d l) i = Unit {0}
Makes turn i = Unit {0}

module _ (plan : Plan) (group : List ℕ) (draw : Draw) (u : Secrets) where
  -- What is seen of one order, after these lines, at posts that stand so.
  module _ (lines : List (List ℕ)) (o : Item) (q : ℕ → Desk) where
    abbrev pub doing : ℕ → Carried
    doing i = carry (order_at plan draw u lines i o) (q i)

    pub record EntryHolds : Type 0 where
      pub refusals : (i : ℕ) → 1 ≤ i → i ≤ plan.n → get_or (entry_of plan group draw u lines o q).refusals (i - 1) 0 ≡ (doing i).done.answer.refusal
      pub values : (i : ℕ) → 1 ≤ i → i ≤ plan.n → get_or (entry_of plan group draw u lines o q).values (i - 1) 0 ≡ (doing i).done.answer.value
      pub rows : (k : ℕ) → k < length group → get_or (entry_of plan group draw u lines o q).rows k [] ≡ (doing (get_or group k 0)).done.rows
      pub every_line : (i : ℕ) → 1 ≤ i → i ≤ plan.n → Makes o i → (line : List ℕ) → Among line (sent_on i (order_at plan draw u lines i o) (doing i))
          → Among line (entry_of plan group draw u lines o q).lines
      pub alone : run plan group draw u (o ∷ []) lines q ≡ entry_of plan group draw u lines o q ∷ []

  module _ (rows : ℕ → List ℕ) (os : List Item) where
    abbrev pub shown : Seen
    shown = seen plan group draw u rows os

    -- row r's in a list of one for each row
    pub record SeenHolds : Type 0 where
      pub raws : (k r dealer : ℕ) → k < length group → r ≤ 95 → plan.raw r ≡ by dealer
          → get_or (get_or shown.raws k []) r [] ≡ raw_pack plan draw (get_or group k 0) r
      pub triples : (k r : ℕ) → k < length group → r ≤ 95 → plan.triple r ≡ true
          → get_or (get_or shown.triples k []) r [] ≡ triple_pack plan draw (get_or group k 0) r
      pub polynomials : (r dealer : ℕ) → r ≤ 95 → plan.raw r ≡ by dealer → Among dealer group
          → get_or shown.polynomials r [] ≡ take (plan.t + 1) (raw_draw draw r)
      pub deals : (r dealer : ℕ) → r ≤ 95 → plan.raw r ≡ by dealer → get_or shown.deals r [] ≡ text (Line.deal r (dealt_number plan draw u r))
      pub entries : shown.entries ≡ run plan group draw u os shown.deals (λ i. new_desk plan draw (rows i) i)

-- What each post is told, whichever it is: "its own part" of what was drawn, the c that the row's dealer broadcast, its own record, who calls; of a
-- line placed (02, (xii)) the dealer's D line or the bytes, the same at every post.
pub record TellsPost (plan : Plan) (draw : Draw) (u : Secrets) (lines : List (List ℕ)) (i : ℕ) : Type 0 where
  pub to_load : (r k : ℕ) → order_at plan draw u lines i (call (load_row_of r (own k))) ≡ call (load_row_of r (raw_pack plan draw i k))
  pub to_load_triple : (r k : ℕ) → order_at plan draw u lines i (call (load_triple_of r (own k))) ≡ call (load_triple_of r (triple_pack plan draw i k))
  pub to_deal : (r k : ℕ) → order_at plan draw u lines i (call (deal r (sent k))) ≡ call (deal r (dealt_number plan draw u k))
  pub to_deal_fixed : (r c : ℕ) → order_at plan draw u lines i (call (deal r (Number.fixed c))) ≡ call (deal r c)
  pub to_send : (r caller : ℕ) (lent : Lent) (heard : ℕ → Bool)
      → order_at plan draw u lines i (call (message r caller lent heard)) ≡ call (Calls.message r caller (map (λ (x : Following). x draw u) (lent i)))
  pub to_open : (r : ℕ) (blocks : Record) → order_at plan draw u lines i (call (opening r blocks)) ≡ call (opening r (blocks i lines))
  pub to_add : (r a b scale fee : ℕ) → order_at plan draw u lines i (call (linear r a b scale fee)) ≡ call (linear r a b scale fee)
  pub to_collect : (r : ℕ) (blocks_a blocks_b : Record)
      → order_at plan draw u lines i (call (collect r blocks_a blocks_b)) ≡ call (collect r (blocks_a i lines) (blocks_b i lines))
  pub to_admit : (line : List ℕ) → order_at plan draw u lines i (call (access line)) ≡ call (access line)
  pub to_place : (d : ℕ) (line : List ℕ) → order_at plan draw u lines i (place d (bytes line)) ≡ place d line
  pub to_place_theirs : (d r dealer : ℕ) → plan.raw r ≡ by dealer
      → order_at plan draw u lines i (place d (theirs r)) ≡ place d (text (Line.deal r (dealt_number plan draw u r)))
  pub to_turn : order_at plan draw u lines i turn ≡ turn

abbrev pub PostsTold : Type 0
PostsTold = (plan : Plan) (draw : Draw) (u : Secrets) (lines : List (List ℕ)) (i : ℕ) → TellsPost plan draw u lines i

-- Entries of longer lists: `RunGoesOn` (Claim.antt).
abbrev pub EntriesHold : Type 0
EntriesHold =
    (plan : Plan) (group : List ℕ) (draw : Draw) (u : Secrets) (lines : List (List ℕ)) (o : Item) (q : ℕ → Desk) → EntryHolds plan group draw u lines o q

abbrev pub RecordHolds : Type 0
RecordHolds = (plan : Plan) (group : List ℕ) (draw : Draw) (u : Secrets) (rows : ℕ → List ℕ) (os : List Item) → SeenHolds plan group draw u rows os
