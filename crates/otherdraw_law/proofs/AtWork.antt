-- The examples: premises and figures by computing, the rest by the theorems.
use Prim.Native.Nat.{ℕ, ◌+◌, ◌*◌, ◌≤◌}
use mathlib.Core.Path.{◌≡◌, refl, subst}
use mathlib.Core.List.{List, [], ◌∷◌}
use native.Mathlib.Omega.{arith}
use lib.ListN.{length}
use Rattle.field.specs.Arithmetic.{sum, difference, product, euclid, inverse}
use Rattle.poly.specs.Polynomial.{value}
use Rattle.refusal.specs.Refusal.{outcome}
use Rattle.refusal.specs.Conditions.{any_beyond}
use Rattle.parts.specs.Draw.{each_from, part}
use Rattle.factory.specs.Calls.{any_bad_point, dealer_refusal}
use Rattle.session.specs.Rows.{combined}
use Rattle.runs.specs.Draws.{point_of, raw_draw, raw_pack}
use Rattle.secrecy.specs.Steps.{dealt_number}
use Rattle.secrecy.specs.Seen.{all_rows}
use Rattle.vanishing.specs.Vanishing.{less_before, times_root, times_roots, one, occurs, distinct}
use Rattle.otherdraw.specs.Other.{points_of, other_vs, moved, other_draw, not_rising, other_refusal_of}
use Rattle.otherdraw_law.specs.OneRow.{loads, deals, Setting, plan_in, draw_in, draw_of, Behind}
use Rattle.otherdraw_law.specs.Claims.{Dealt, refusal_in, returned, AllTaken}
use Rattle.otherdraw_law.specs.Example.{one_point_of, two_points, drawn, drawn_two, Found, ExampleAtWork}
use Rattle.otherdraw_law.proofs.Returned.{shows_the_same}
use Rattle.otherdraw_law.proofs.Taken.{both_taken}

-- what follows from the figures
worked : (S : Setting) (draw out other pack : List ℕ) → Dealt S → refusal_in S draw 100 42 out ≡ 0 → returned S draw 100 42 out ≡ other
    → S.todo ≡ loads ∷ deals ∷ []
    → ((i : ℕ) → 1 ≤ i → i ≤ S.n → length (S.rows i) ≡ 96 * (S.points * S.t + 1 + S.points * S.n + S.n))
    → raw_pack (plan_in S) (draw_in S draw) 3 0 ≡ pack → raw_pack (plan_in S) (draw_in S other) 3 0 ≡ pack
    → dealt_number (plan_in S) (draw_in S draw) (λ q. 100) 0 ≡ 93 → dealt_number (plan_in S) (draw_in S other) (λ q. 42) 0 ≡ 93
    → Found S draw out other pack
worked S draw out other pack h z e twice long a b c d =
    let (given, now) = both_taken S draw 100 42 out h z twice long in
    record {
      dealt = h;
      taken = z;
      found = e;
      behind = subst (Behind S draw 100 42) e (shows_the_same S draw 100 42 out h z);
      answers = (given, subst (λ (o : List ℕ). AllTaken S o 42) e now);
      shown = a;
      shown_too = b;
      number = c;
      number_too = d;
    }

pub example_at_work : ExampleAtWork
unfolding sum difference product euclid inverse value outcome any_beyond each_from part any_bad_point dealer_refusal combined point_of raw_draw raw_pack dealt_number all_rows less_before times_root times_roots one occurs distinct points_of other_vs moved other_draw not_rising other_refusal_of draw_of one_point_of two_points drawn drawn_two
example_at_work =
    record {
      one_point_is = worked _ _ _ _ _ (record { row = omega arith; dealer = refl }) refl refl refl (λ i lo hi. refl) refl refl refl refl;
      two_points_is = worked _ _ _ _ _ (record { row = omega arith; dealer = refl }) refl refl refl (λ i lo hi. refl) refl refl refl refl;
      equal_points = worked _ _ _ _ _ (record { row = omega arith; dealer = refl }) refl refl refl (λ i lo hi. refl) refl refl refl refl;
      nobody = (refl, refl);
      nineteen = refl;
      all_posts_is = (refl, refl);
    }
