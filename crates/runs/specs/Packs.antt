-- Document 01, "From the factory": "each post's row is written into its own part of the lent list, post 1 first". A post's packs
-- are its parts of what the factory's calls write for the draw, and those calls are not refused.
use Rattle.std.specs.Prelude.{ℕ, ◌+◌, ◌*◌, ◌-◌, ◌≤◌, ◌≡◌, true, List, ◌++◌, length}
use Rattle.shape.specs.Lengths.{row_length, packs_length}
use Rattle.session.specs.Rows.{row_at}
use Rattle.factory.specs.Calls.{factory_row_refusal, factory_row_out, factory_triple_refusal, factory_triple_out}
use Rattle.runs.specs.Draws.{Plan, plan_shape, Draw, IsRaw, Sound, IsDraw, raw_draw, triple_draw, raw_pack, triple_pack}

-- The call for row r, drawn raw.
abbrev pub row_written_of : Plan → Draw → ℕ → List ℕ → List ℕ
row_written_of plan draw r out = factory_row_out plan.n plan.t plan.points draw.points (raw_draw draw r) out

pub record RowGiven (plan : Plan) (draw : Draw) (r : ℕ) (out : List ℕ) : Type 0 where
  pub done : factory_row_refusal plan.n plan.t plan.points draw.points (raw_draw draw r) out ≡ 0
  pub parts : (i : ℕ) → 1 ≤ i → i ≤ plan.n
      → row_at (row_length (plan_shape plan)) (row_written_of plan draw r out) (i - 1) ≡ raw_pack plan draw i r

-- The call for the triple at r: "all posts' rows of l, then of l', then of l''".
abbrev pub triple_written : Plan → Draw → ℕ → List ℕ → List ℕ
triple_written plan draw r out = factory_triple_out plan.n plan.t plan.points draw.points (triple_draw draw r) out

pub record TripleGiven (plan : Plan) (draw : Draw) (r : ℕ) (out : List ℕ) : Type 0 where
  pub done : factory_triple_refusal plan.n plan.t plan.points draw.points (triple_draw draw r) out ≡ 0
  pub parts : (i : ℕ) → 1 ≤ i → i ≤ plan.n
      → row_at (row_length (plan_shape plan)) (triple_written plan draw r out) (i - 1)
      ++ (row_at (row_length (plan_shape plan)) (triple_written plan draw r out) (plan.n + i - 1)
      ++ row_at (row_length (plan_shape plan)) (triple_written plan draw r out) (2 * plan.n + i - 1))
      ≡ triple_pack plan draw i r

-- Whatever stands in the lent list, which has the length that the call asks for.
abbrev pub FactoryPacks : Type 0
FactoryPacks =
    (plan : Plan) (draw : Draw) → Sound plan → IsDraw plan draw
    → ((r : ℕ) (out : List ℕ) → IsRaw (plan.raw r) → length out ≡ packs_length (plan_shape plan) → RowGiven plan draw r out)
    × ((r : ℕ) (out : List ℕ) → plan.triple r ≡ true → length out ≡ 3 * packs_length (plan_shape plan) → TripleGiven plan draw r out)
