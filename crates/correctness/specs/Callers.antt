-- Document 02, (xi), over whole runs: "Each row gets a set of posts that may call for its opening." Whatever calls a post makes, with any
-- lists in them, refused or not, its session bars from a row just the posts that the row's set does not have; and the set follows from the
-- post's own calls and from which of them are refused (runs, Callers.antt). Proved in proofs/Callers.antt.
use Rattle.std.specs.Prelude.{ℕ, ◌≤◌, ◌≡◌, Bool, true, not, cond, ◌||◌, List, [], ◌∷◌, eqb}
use Rattle.shape.specs.Bounds.{last_row_at}
use Rattle.refusal.specs.Conditions.{outside}
use Rattle.session.specs.Sessions.{barred_from}
use Rattle.message.specs.Message.{message_answer}
use Rattle.runs.specs.Draws.{Plan, Draw, IsDraw, Sound}
use Rattle.runs.specs.Calls.{Post}
use Rattle.runs.specs.Callers.{Sets, all_posts}
use Rattle.runs.specs.Orders.{comes_to, sets_after}
use Rattle.correctness.specs.History.{Event, World, desk, answer_of, step, history, begin}

-- The sets of post i after these events: "without that line it is all posts".
abbrev pub sets_from : ℕ → List Event → World → Sets → Sets
sets_from i [] w X = X
sets_from i (e ∷ es) w X =
    sets_from i es (step e w) (cond (eqb i e.post) (sets_after (comes_to e.order (desk w e.post)) (answer_of e w).refusal X) X)

module _ (plan : Plan) (draw : Draw) (rows states : ℕ → List ℕ) (es : List Event) where
  abbrev pub post_of : ℕ → Post
  post_of i = (history es (begin plan draw rows states)).posts i

  abbrev pub in_set : ℕ → ℕ → ℕ → Bool
  in_set i r c = (sets_from i es (begin plan draw rows states) all_posts).has r c

-- 15 meets "a post outside the set, 0 and any above n too", and no other.
abbrev pub SetsFollow : Type 0
SetsFollow =
    (plan : Plan) (draw : Draw) (rows states : ℕ → List ℕ) (es : List Event) → Sound plan → IsDraw plan draw
    → (i r c : ℕ) → 1 ≤ i → i ≤ plan.n → r ≤ last_row_at
    → barred_from (post_of plan draw rows states es i).session r c ≡ (outside 1 plan.n c || not (in_set plan draw rows states es i r c))

-- So an opening message that is made is one that a post of the row's set called for.
abbrev pub OnlyCalled : Type 0
OnlyCalled =
    (plan : Plan) (draw : Draw) (rows states : ℕ → List ℕ) (es : List Event) → Sound plan → IsDraw plan draw
    → (i r c : ℕ) → 1 ≤ i → i ≤ plan.n → (lent : List ℕ)
    → (message_answer (post_of plan draw rows states es i).session (post_of plan draw rows states es i).rows r c lent).refusal ≡ 0
    → (1 ≤ c) × (c ≤ plan.n) × (in_set plan draw rows states es i r c ≡ true)
