-- The lengths in figures.
use Prim.Native.Nat.{ℕ, ◌+◌, ◌*◌, ◌-◌}
use mathlib.Core.Path.{◌≡◌, refl, ap}
use native.Mathlib.Omega.{arith}
use Rattle.shape.specs.Lengths.{shape, v_length, row_length, block_length}
use Rattle.shape.specs.Claims.{OnePoint, TwoPoints, LengthsInFigures}

-- what stands once for each post
module _ (n t : ℕ) where
  each : (k j : ℕ) → k ≡ j → n * k ≡ n * j
  each k j e = ap (λ (i : ℕ). n * i) e

  drawn : (k j : ℕ) → k ≡ j → t + 1 + n * k ≡ t + 1 + n * j
  drawn k j e = ap (λ (i : ℕ). t + 1 + n * i) e

  three : (k j : ℕ) → k ≡ j → 3 * (t + 1 + n * k) - 1 ≡ 3 * (t + 1 + n * j) - 1
  three k j e = ap (λ (i : ℕ). 3 * (t + 1 + n * i) - 1) e

  one_point_is : OnePoint n t
  one_point_is = record {
    row = omega arith;
    rows = omega arith;
    record_long = each (block_length (shape n t 1)) (t + 2) (omega arith);
    draw = drawn (v_length (shape n t 1)) (t + 1) (omega arith);
    triple_draw_is = three (v_length (shape n t 1)) (t + 1) (omega arith);
    packs = each (row_length (shape n t 1)) (t + 1 + 2 * n) (omega arith);
    message = omega arith;
    line_read = omega arith;
    points = omega arith;
  }

  two_points_is : TwoPoints n t
  two_points_is = record {
    row = omega arith;
    rows = omega arith;
    record_long = each (block_length (shape n t 2)) (2 * t + 2) (omega arith);
    draw = refl;
    triple_draw_is = refl;
    packs = each (row_length (shape n t 2)) (2 * t + 1 + 3 * n) (omega arith);
    message = refl;
    line_read = refl;
    points = refl;
  }

pub lengths_in_figures : LengthsInFigures
lengths_in_figures = record {
  kept = λ n t k. record { f = refl; accepted = refl };
  one = one_point_is;
  two = two_points_is;
}
