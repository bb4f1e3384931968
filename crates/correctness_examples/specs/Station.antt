-- The station of demand 2's examples: three posts, two raw rows and a triple; its ledger, and events written short.
use Rattle.std.specs.Prelude.{ℕ, zero, suc, ◌-◌, ◌≢◌, List, [], ◌∷◌, eqb, get_or, replicate}
use Rattle.shape.specs.Bounds.{row_count_of}
use Rattle.shape.specs.Lengths.{shape, rows_length}
use Rattle.factory.specs.Calls.{dealer_number_of}
use Rattle.dealers.specs.State.{new_state_of}
use Rattle.runs.specs.Draws.{Plan, Draw, none, by, raw_draw, raw_pack, triple_pack}
use Rattle.runs.specs.Calls.{Call, load_row_of, load_triple_of, deal}
use Rattle.runs.specs.Orders as Orders
use Rattle.correctness.specs.History.{Event, World, answer_of, step}
use Rattle.correctness.specs.Ledger.{Ledger, nothing, dealt, sum, product}

-- rows 0 and 1 raw, a triple at 2
unfoldable pub plan : Plan
plan = record {
  n = 3;
  t = 1;
  points = 1;
  raw = λ r. elim r [ zero ↦ by 0 | suc r ↦ elim r [ zero ↦ by 0 | suc r ↦ none ] ];
  triple = λ r. eqb r 2;
}

-- with x drawn for the triple
unfoldable pub draw_with : List ℕ → Draw
draw_with x = record {
  points = 2 ∷ 3 ∷ 5 ∷ [];
  raws = (7 ∷ 4 ∷ 1 ∷ 2 ∷ 3 ∷ 1 ∷ 5 ∷ 6 ∷ []) ∷ (3 ∷ 5 ∷ 2 ∷ 1 ∷ 1 ∷ 1 ∷ 4 ∷ 2 ∷ []) ∷ replicate (row_count_of - 2) [];
  triples = [] ∷ [] ∷ x ∷ replicate (row_count_of - 3) [];
}

-- row 0 is 6, row 1 is 7, row 4 their product by the triple at 2, row 5 is 6 + 2 · 7, row 6 is 6 + 2 · (6 · 7), row 7 is 6 + 2 · 6,
-- row 8 is a charge: 6 rides at 7 each, and 8
unfoldable pub ledger : Ledger
ledger r = get_or (dealt 6 ∷ dealt 7 ∷ nothing ∷ nothing ∷ product 2 0 1 ∷ sum 0 1 2 0 ∷ sum 0 4 2 0 ∷ sum 0 0 2 0 ∷ sum 4 4 0 8 ∷ []) r nothing

-- ---- events

abbrev pub call : ℕ → Call → Event
call i c = record { post = i; order = Orders.call c }

abbrev pub load : Draw → ℕ → ℕ → Event
load draw i r = call i (load_row_of r (raw_pack plan draw i r))

abbrev pub load_three : Draw → ℕ → Event
load_three draw i = call i (load_triple_of 2 (triple_pack plan draw i 2))

abbrev pub deal_of : Draw → ℕ → ℕ → ℕ → Event
deal_of draw i r u = call i (deal r (dealer_number_of u (get_or (raw_draw draw r) 0 0)).value)

-- the rows that each post begins with
abbrev pub zeros : ℕ → List ℕ
zeros i = replicate (rows_length (shape 3 1 1)) 0

-- and the states: new ones
abbrev pub states : ℕ → List ℕ
states i = new_state_of

-- room for an opening message and for masks, and a record without blocks
abbrev pub room : List ℕ
room = 0 ∷ 0 ∷ []

abbrev pub rooms : List ℕ
rooms = 0 ∷ 0 ∷ 0 ∷ 0 ∷ []

abbrev pub nobody : List ℕ
nobody = 0 ∷ 0 ∷ 0 ∷ 0 ∷ 0 ∷ 0 ∷ 0 ∷ 0 ∷ 0 ∷ []

unfoldable pub refusals : List Event → World → List ℕ
refusals [] w = []
refusals (e ∷ es) w = (answer_of e w).refusal ∷ refusals es (step e w)

-- all posts, and all but one
abbrev pub Everyone : ℕ → Type 0
Everyone i = Unit {0}

abbrev pub AllBut : ℕ → ℕ → Type 0
AllBut k i = i ≢ k
