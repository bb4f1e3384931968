-- A post's pack is its row of the drawn vector.
use Prim.Native.Nat.{ℕ, ◌+◌, ◌-◌, ◌≤◌, ◌<◌}
use mathlib.Core.Path.{◌≡◌, refl, ◌∙◌, ap, ap₂}
use mathlib.Core.Bool.{Bool, true, cond}
use mathlib.Core.List.{List, ◌++◌}
use native.Mathlib.Omega.{arith}
use lib.ListN.{length, drop, length-drop}
use lib.Seq.{length-take-le}
use Rattle.field.specs.Element.{element}
use Rattle.field.proofs.Modular.{product_below}
use Rattle.shape.specs.Bounds.{row_count_of}
use Rattle.shape.specs.Lengths.{triple_draw_length}
use Rattle.poly.specs.Counting.{Elements}
use Rattle.parts.proofs.Laws.{elements_take, elements_drop}
use Rattle.vectors.specs.Vector.{Vector, row_of, vector_of}
use Rattle.vectors.proofs.Draws.{part_is_row}
use Rattle.runs.specs.Draws.{Plan, plan_shape, Draw, Raw, none, by, IsRaw, when_raw, IsDraw, drawn_length, point_of, raw_draw, triple_draw, draw_a, draw_b, draw_ab, part_of, raw_pack, triple_pack}
use Rattle.runs.proofs.Marks.{raw_vector, vector_a, vector_b, vector_ab}

-- post i's row of a vector
abbrev pub row_for : Plan → Draw → ℕ → Vector → List ℕ
row_for plan draw i X = row_of (plan_shape plan) i (point_of plan draw i) X

-- as many elements
pub record Drawn (k : ℕ) (xs : List ℕ) : Type 0 where
  pub many : length xs ≡ k
  pub low : Elements xs

module _ (plan : Plan) (draw : Draw) (is : IsDraw plan draw) where
  pub positive : 1 ≤ drawn_length plan
  positive = omega arith

  part_row : (xs : List ℕ) → Drawn (drawn_length plan) xs → (i : ℕ) → i - 1 < plan.n
      → part_of plan draw i xs ≡ row_for plan draw i (vector_of (plan_shape plan) xs)
  part_row xs e i h = part_is_row (plan_shape plan) xs e.low e.many i (point_of plan draw i) h

  pub raw_drawn : (r : ℕ) → r < row_count_of → IsRaw (plan.raw r) → Drawn (drawn_length plan) (raw_draw draw r)
  unfolding raw_draw
  raw_drawn r lr d = let e = is.raws.each r lr in record { many = e.0 ∙ go (plan.raw r) d; low = e.1 }
    where
      go : (k : Raw) → IsRaw k → when_raw k (drawn_length plan) 0 ≡ drawn_length plan
      go none x = absurd x
      go (by m) x = refl

  pub triple_drawn : (r : ℕ) → r < row_count_of → plan.triple r ≡ true → Drawn (triple_draw_length (plan_shape plan)) (triple_draw draw r)
  unfolding triple_draw
  triple_drawn r lr d =
      let e = is.triples.each r lr in
      record { many = e.0 ∙ ap (λ (b : Bool). cond b (triple_draw_length (plan_shape plan)) 0) d; low = e.1 }

  pub a_drawn : (r : ℕ) → r < row_count_of → plan.triple r ≡ true → Drawn (drawn_length plan) (draw_a plan draw r)
  a_drawn r lr d =
      let e = triple_drawn r lr d in
      record {
        many = length-take-le (drawn_length plan) (triple_draw draw r) (omega (arith, e.many, positive));
        low = elements_take (drawn_length plan) (triple_draw draw r) e.low;
      }

  pub b_drawn : (r : ℕ) → r < row_count_of → plan.triple r ≡ true → Drawn (drawn_length plan) (draw_b plan draw r)
  b_drawn r lr d =
      let e = triple_drawn r lr d in
      record {
        many = length-take-le (drawn_length plan) (drop (drawn_length plan) (triple_draw draw r)) (omega (arith, e.many, positive, length-drop (drawn_length plan) (triple_draw draw r)));
        low = elements_take (drawn_length plan) _ (elements_drop (drawn_length plan) (triple_draw draw r) e.low);
      }

  pub ab_drawn : (r : ℕ) → r < row_count_of → plan.triple r ≡ true → Drawn (drawn_length plan) (draw_ab plan draw r)
  ab_drawn r lr d =
      let e = triple_drawn r lr d in
      record {
        many = omega (arith, e.many, positive, length-drop (drawn_length plan + drawn_length plan) (triple_draw draw r));
        low = (product_below _ _, elements_drop (drawn_length plan + drawn_length plan) (triple_draw draw r) e.low);
      }

  pub raw_pack_is : (r : ℕ) → r < row_count_of → IsRaw (plan.raw r) → (i : ℕ) → i - 1 < plan.n
      → raw_pack plan draw i r ≡ row_for plan draw i (raw_vector plan draw r)
  unfolding raw_pack
  raw_pack_is r lr d i h = part_row (raw_draw draw r) (raw_drawn r lr d) i h

  pub triple_pack_is : (r : ℕ) → r < row_count_of → plan.triple r ≡ true → (i : ℕ) → i - 1 < plan.n
      → triple_pack plan draw i r
      ≡ row_for plan draw i (vector_a plan draw r) ++ (row_for plan draw i (vector_b plan draw r) ++ row_for plan draw i (vector_ab plan draw r))
  unfolding triple_pack
  triple_pack_is r lr d i h =
      ap₂ ◌++◌ (part_row (draw_a plan draw r) (a_drawn r lr d) i h)
      (ap₂ ◌++◌ (part_row (draw_b plan draw r) (b_drawn r lr d) i h) (part_row (draw_ab plan draw r) (ab_drawn r lr d) i h))
