-- The run of demand 2's example: three posts, each in its own order, with a deal refused, a lie rejected and a collect that finds too
-- few.
use Rattle.std.specs.Prelude.{ℕ, List, [], ◌∷◌, ◌++◌}
use Rattle.runs.specs.Draws.{Draw}
use Rattle.runs.specs.Calls.{Post, message, linear, masks, collect, multiply}
use Rattle.correctness.specs.History.{Event, World, history, begin}
use Rattle.correctness_examples.specs.Station.{plan, draw_with, call, load, load_three, deal_of, zeros, room, rooms, nobody, states}

unfoldable pub drawn : List ℕ
drawn = 2 ∷ 1 ∷ 5 ∷ 1 ∷ 3 ∷ 2 ∷ 1 ∷ 7 ∷ 5 ∷ 2 ∷ 1 ∷ 1 ∷ 6 ∷ 3 ∷ 2 ∷ 2 ∷ 9 ∷ 4 ∷ 1 ∷ 8 ∷ 3 ∷ 5 ∷ 2 ∷ []

unfoldable pub draw : Draw
draw = draw_with drawn

unfoldable pub loads : List Event
loads =
    load draw 1 0 ∷ load draw 1 1 ∷ load_three draw 1
    ∷ load_three draw 2 ∷ load draw 2 1 ∷ load draw 2 0
    ∷ load draw 3 0 ∷ load draw 3 1 ∷ load_three draw 3 ∷ []

-- post 1 deals row 0 twice
unfoldable pub deals : List Event
deals =
    deal_of draw 1 0 6 ∷ deal_of draw 1 0 6 ∷ deal_of draw 1 1 7 ∷ deal_of draw 2 1 7 ∷ deal_of draw 2 0 6
    ∷ deal_of draw 3 0 6 ∷ deal_of draw 3 1 7 ∷ []

-- post 2 makes no sum
unfoldable pub sums : List Event
sums =
    call 3 (linear 5 0 1 2 0) ∷ call 3 (message 5 1 room) ∷ call 3 (masks 0 1 2 rooms)
    ∷ call 1 (linear 5 0 1 2 0) ∷ call 1 (masks 0 1 2 rooms) ∷ call 2 (masks 0 1 2 rooms) ∷ []

-- of post 2 the false 6 + 0z, of post 3 what it sent
abbrev pub lie : List ℕ
lie = 0 ∷ 0 ∷ 0 ∷ 1 ∷ 6 ∷ 0 ∷ 1 ∷ 4 ∷ 2147483646 ∷ []

-- post 1 collects with nobody's blocks, then with post 3's and the lie, and multiplies once post 2 has collected with post 1's; post 2
-- multiplies too; post 3 does neither
unfoldable pub ends : List Event
ends =
    call 1 (collect 2 nobody nobody)
    ∷ call 1 (collect 2 lie (0 ∷ 0 ∷ 0 ∷ 0 ∷ 0 ∷ 0 ∷ 1 ∷ 2 ∷ 0 ∷ []))
    ∷ call 2 (collect 2 (1 ∷ 2147483643 ∷ 1 ∷ 0 ∷ 0 ∷ 0 ∷ 0 ∷ 0 ∷ 0 ∷ []) (1 ∷ 1 ∷ 0 ∷ 0 ∷ 0 ∷ 0 ∷ 0 ∷ 0 ∷ 0 ∷ []))
    ∷ call 1 (multiply 2) ∷ call 2 (multiply 2)
    ∷ call 2 (message 4 1 room) ∷ []

abbrev pub before : List Event
before = loads ++ (deals ++ sums)

abbrev pub events : List Event
events = before ++ ends

abbrev pub new : World
new = begin plan draw zeros states

-- post 1 at the end, and a record with post 2's message; post 3's block is false, and is looked at and rejected
abbrev pub last : Post
last = (history events new).posts 1

abbrev pub true_record : List ℕ
true_record = 0 ∷ 0 ∷ 0 ∷ 1 ∷ 38 ∷ 19 ∷ 1 ∷ 1 ∷ 1 ∷ []
