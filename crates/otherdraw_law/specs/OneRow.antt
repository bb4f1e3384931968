-- Document 02, (xiv): "For one row only loaded and dealt": demand 3's own record, for a plan with this row alone and a list that does no more.
use Rattle.std.specs.Prelude.{ℕ, ◌≡◌, false, cond, List, [], map, eqb, replicate}
use Rattle.shape.specs.Bounds.{row_count_of}
use Rattle.runs.specs.Draws.{none, by, Plan, Draw, IsDraw}
use Rattle.runs.specs.Orders.{call, place, turn}
use Rattle.secrecy.specs.Steps.{Item, own, sent, theirs, load_row_of, deal}
use Rattle.secrecy.specs.Seen.{Seen, all_rows, seen}

-- Row r is drawn raw, for this dealer, and nothing else is drawn.
abbrev pub one_row : ℕ → ℕ → ℕ → ℕ → ℕ → Plan
one_row n t points r dealer = record { n = n; t = t; points = points; raw = λ q. cond (eqb q r) (by dealer) none; triple = λ q. false }

-- The check points and the row's draw.
unfoldable pub draw_of : ℕ → List ℕ → List ℕ → Draw
draw_of r ws draw = record { points = ws; raws = map (λ q. cond (eqb q r) draw []) all_rows; triples = replicate row_count_of [] }

-- "only loaded and dealt": each post loads its own part; it deals the row with the c that its dealer broadcast, in a call or, by (xii), in a
-- turn behind the dealer's line placed. Any number of these, in any order, refused ones too.
pub data Doing : Type 0 where
  loads : Doing
  deals : Doing
  places : (dealer : ℕ) → Doing
  turns : Doing

abbrev pub order : ℕ → Doing → Item
order r loads = call (load_row_of r (own r))
order r deals = call (deal r (sent r))
order r (places d) = place d (theirs r)
order r turns = turn

-- A station, the row and its dealer, what is done with it, the numbers in the posts' lists of rows at first, the check points, and the posts
-- that are looked at.
pub record Setting : Type 0 where
  pub n : ℕ
  pub t : ℕ
  -- check points of a post
  pub points : ℕ
  pub r : ℕ
  pub dealer : ℕ
  pub todo : List Doing
  pub rows : ℕ → List ℕ
  -- all check points, post 1's first
  pub ws : List ℕ
  pub posts : List ℕ

module _ (S : Setting) where
  abbrev pub plan_in : Plan
  plan_in = one_row S.n S.t S.points S.r S.dealer

  abbrev pub draw_in : List ℕ → Draw
  draw_in draw = draw_of S.r S.ws draw

  -- what the posts see where the row is drawn so and the secret is u
  abbrev pub record_of : List ℕ → ℕ → Seen
  record_of draw u = seen plan_in S.posts (draw_in draw) (λ q. u) S.rows (map (order S.r) S.todo)

  -- "a draw with the same check points that shows those posts the same record for the wanted secret" as this one for the secret.
  pub record Behind (draw : List ℕ) (secret wanted : ℕ) (other : List ℕ) : Type 0 where
    pub is_draw : IsDraw plan_in (draw_in other)
    pub same : record_of other wanted ≡ record_of draw secret
