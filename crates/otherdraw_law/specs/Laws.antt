-- What the setting of (xiv) is, by rows and figures: "one row only loaded and dealt". Proved in proofs/Settled.antt.
use Rattle.std.specs.Prelude.{ℕ, ◌-◌, ◌≤◌, ◌<◌, ◌≡◌, false, ◌≢◌, List, [], map, get_or}
use Rattle.field.specs.Modulus.{p}
use Rattle.field.specs.Arithmetic.{difference}
use Rattle.parts.specs.Draw.{part}
use Rattle.packs.specs.Packs.{points_at_of}
use Rattle.runs.specs.Draws.{none, by, raw_draw, raw_pack}
use Rattle.runs.specs.Calls.{Among}
use Rattle.runs.specs.Orders.{call, place, turn}
use Rattle.secrecy.specs.Steps.{its, sent, theirs, load_row_of, deal, dealt_number}
use Rattle.secrecy.specs.Seen.{seen}
use Rattle.otherdraw_law.specs.OneRow.{loads, deals, places, turns, order, Setting, plan_in, draw_in, record_of}
use Rattle.otherdraw_law.specs.Claims.{Dealt, shape_in}

-- Row r alone is drawn, for its dealer; every post gets its part of this draw and of no other, and the dealer's number is u − f(0).
pub record OneRowDrawn (S : Setting) (draw : List ℕ) : Type 0 where
  pub for_dealer : (plan_in S).raw S.r ≡ by S.dealer
  pub none_else : (q : ℕ) → q ≢ S.r → (plan_in S).raw q ≡ none
  pub no_triple_is : (q : ℕ) → (plan_in S).triple q ≡ false
  pub points : (draw_in S draw).points ≡ S.ws
  pub drawn : S.r ≤ 95 → raw_draw (draw_in S draw) S.r ≡ draw
  pub not_drawn : (q : ℕ) → q ≢ S.r → raw_draw (draw_in S draw) q ≡ []
  pub part_is : S.r ≤ 95 → (i : ℕ) → raw_pack (plan_in S) (draw_in S draw) i S.r ≡ part (shape_in S) i (points_at_of S.points S.ws (i - 1)) draw
  pub number_is : S.r ≤ 95 → (u : ℕ) → u < p → get_or draw 0 0 < p
      → dealt_number (plan_in S) (draw_in S draw) (λ q. u) S.r ≡ difference u (get_or draw 0 0)

abbrev pub OneRowIs : Type 0
OneRowIs = (S : Setting) (draw : List ℕ) → OneRowDrawn S draw

-- What each post is told: to load its own part of the row, to deal the row with the c that its dealer broadcast, to place that dealer's `D` line,
-- to take a turn.
pub record Orders : Type 0 where
  pub to_load : (r : ℕ) → order r loads ≡ call (load_row_of r (λ i. its r))
  pub to_deal : (r : ℕ) → order r deals ≡ call (deal r (sent r))
  pub to_place : (r d : ℕ) → order r (places d) ≡ place d (theirs r)
  pub to_turn : (r : ℕ) → order r turns ≡ turn

-- The record is demand 3's of the whole list, with each post's own numbers in its rows at first.
abbrev pub RecordIs : Type 0
RecordIs =
    (S : Setting) (draw : List ℕ) (u : ℕ)
    → record_of S draw u ≡ seen (plan_in S) S.posts (draw_in S draw) (λ q. u) S.rows (map (order S.r) S.todo)

-- "by none of the posts listed": of the row's number and its dealer no more is asked.
abbrev pub DealtAsks : Type 0
DealtAsks = (S : Setting) → S.r ≤ 95 → (Among S.dealer S.posts → ⊥) → Dealt S
