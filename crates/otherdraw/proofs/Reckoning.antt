-- The examples, by computing.
use mathlib.Core.Path.{refl}
use Rattle.field.specs.Arithmetic.{sum, difference, product, euclid, inverse}
use Rattle.poly.specs.Polynomial.{value}
use Rattle.refusal.specs.Refusal.{outcome}
use Rattle.refusal.specs.Conditions.{any_beyond}
use Rattle.factory.specs.Calls.{any_bad_point}
use Rattle.session.specs.Rows.{combined}
use Rattle.vanishing.specs.Vanishing.{less_before, times_root, times_roots, one, occurs, distinct}
use Rattle.otherdraw.specs.Other.{other_vs, moved, points_of, other_draw, not_rising, other_refusal_of}
use Rattle.otherdraw.specs.Examples.{OnePoint, TwoPoints, Refused}

pub one_point_is : OnePoint
unfolding sum difference product euclid inverse value combined less_before times_root times_roots one occurs distinct other_vs moved points_of other_draw
one_point_is = record { for_three = refl; for_nobody = refl; for_all = refl; equal_points = refl }

pub two_points_is : TwoPoints
unfolding sum difference product euclid inverse value combined less_before times_root times_roots one occurs distinct other_vs moved points_of other_draw
two_points_is = record { for_one = refl; equal_points = refl; for_nobody = refl; for_all = refl }

pub refused : Refused
unfolding any_beyond any_bad_point not_rising other_refusal_of outcome
refused =
    record {
      taken = refl;
      equal_for_all = refl;
      too_many = refl;
      not_rising_is = refl;
      falling = refl;
      no_post = refl;
      no_fourth = refl;
      longer = refl;
      beyond_first = refl;
      secret_beyond = refl;
      three_points = refl;
      two_points_is = refl;
      short = refl;
      short_draw = refl;
      left = refl;
    }
