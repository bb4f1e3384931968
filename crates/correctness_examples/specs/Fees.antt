-- The run of demand 2's example with relations (document 02, (v)): "A firm wants to show that its shared fee is its rides × its rate".
-- Rides are 6 and the rate is 7; one fee is 42, another 43.
use Rattle.std.specs.Prelude.{ℕ, List, [], ◌∷◌, ◌++◌, get_or}
use Rattle.terms.specs.declared.Term.{Term}
use Rattle.terms.specs.Listed.{no_row}
use Rattle.runs.specs.Outline.{times}
use Rattle.runs.specs.Calls.{Post, message, linear, relation_masks_of, relation_finish_of}
use Rattle.correctness.specs.History.{Event, World, history, begin}
use Rattle.correctness.specs.Ledger.{Ledger, nothing, dealt, sum, summed, product}
use Rattle.correctness_examples.specs.Station.{plan, call, load, load_three, deal_of, zeros, room, rooms, nobody, states}
use Rattle.correctness_examples.specs.Run.{draw}

abbrev plain_term : ℕ → ℕ → Term
plain_term c r = record { coefficient = c; row = r; second = no_row; first = 0 }

-- rides × rate − fee, by the triple at 2; and, of the product that is then in row 4, product − the other fee
abbrev pub fair : List Term
fair = record { coefficient = 1; row = 0; second = 1; first = 2 } ∷ plain_term 2147483646 5 ∷ []

abbrev pub unfair : List Term
unfair = plain_term 1 4 ∷ plain_term 2147483646 6 ∷ []

-- row 0 is 6, row 1 is 7, row 4 their product; row 5 is 7 + 5 · 7, row 6 that and 1; rows 7 and 8 are the relations
unfoldable pub fees : Ledger
fees r =
    get_or
    (dealt 6 ∷ dealt 7 ∷ nothing ∷ nothing ∷ product 2 0 1 ∷ sum 1 1 5 0 ∷ sum 1 1 5 1
    ∷ summed (times 1 4) (times 2147483646 5 ∷ []) ∷ summed (times 1 4) (times 2147483646 6 ∷ []) ∷ []) r nothing

-- posts 1 and 3; post 2 does nothing
unfoldable pub starts : List Event
starts =
    load draw 1 0 ∷ load draw 1 1 ∷ load_three draw 1 ∷ load draw 3 0 ∷ load draw 3 1 ∷ load_three draw 3
    ∷ deal_of draw 1 0 6 ∷ deal_of draw 1 1 7 ∷ deal_of draw 3 0 6 ∷ deal_of draw 3 1 7 ∷ []

unfoldable pub sends : List Event
sends =
    call 1 (linear 5 1 1 5 0) ∷ call 1 (linear 6 1 1 5 1) ∷ call 3 (linear 5 1 1 5 0) ∷ call 3 (linear 6 1 1 5 1)
    ∷ call 1 (relation_masks_of fair rooms) ∷ call 3 (relation_masks_of fair rooms) ∷ []

-- the records of a relation with one product term: of a − l, then of b − l', with the masks of one other post
abbrev from_three : List ℕ
from_three = 0 ∷ 0 ∷ 0 ∷ 0 ∷ 0 ∷ 0 ∷ 1 ∷ 4 ∷ 2147483646 ∷ 0 ∷ 0 ∷ 0 ∷ 0 ∷ 0 ∷ 0 ∷ 1 ∷ 2 ∷ 0 ∷ []

abbrev from_one_of : List ℕ
from_one_of = 1 ∷ 2147483643 ∷ 1 ∷ 0 ∷ 0 ∷ 0 ∷ 0 ∷ 0 ∷ 0 ∷ 1 ∷ 1 ∷ 0 ∷ 0 ∷ 0 ∷ 0 ∷ 0 ∷ 0 ∷ 0 ∷ []

-- post 1 finishes with nobody's masks, then with post 3's
unfoldable pub early : List Event
early = call 1 (relation_finish_of fair 7 (nobody ++ nobody)) ∷ []

abbrev pub closing : Event
closing = call 1 (relation_finish_of fair 7 from_three)

abbrev pub wrong : Event
wrong = call 1 (relation_finish_of unfair 8 [])

unfoldable pub late : List Event
late = call 3 (relation_finish_of fair 7 from_one_of) ∷ call 3 (message 7 1 room) ∷ []

unfoldable pub later : List Event
later = call 3 (relation_finish_of unfair 8 []) ∷ call 3 (message 8 1 room) ∷ []

abbrev pub before : List Event
before = starts ++ (sends ++ early)

abbrev pub events : List Event
events = before ++ (closing ∷ (late ++ (wrong ∷ later)))

abbrev pub new : World
new = begin plan draw zeros states

abbrev pub last : Post
last = (history events new).posts 1

-- post 3's message, of either row
abbrev pub told : List ℕ
told = 0 ∷ 0 ∷ 0 ∷ 0 ∷ 0 ∷ 0 ∷ 1 ∷ 2147483638 ∷ 12 ∷ []

-- the numbers of the rows that the terms name
unfoldable pub numbers : ℕ → ℕ
numbers r = get_or (6 ∷ 7 ∷ 0 ∷ 0 ∷ 42 ∷ 42 ∷ 43 ∷ []) r 0
