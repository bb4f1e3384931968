-- 1, 2, 3 and 4 one after the other, and what they leave: a valid shape, and a post of it.
use Prim.Native.Nat.{ℕ, ◌-◌, ◌≤◌}
use mathlib.Core.Path.{◌≡◌, sym, ◌∙◌}
use mathlib.Core.Bool.{false}
use mathlib.Core.List.{List, [], ◌∷◌}
use Rattle.shape.specs.declared.Points.{Points}
use Rattle.shape.specs.Bounds.{fewest_posts, most_posts, most_points}
use Rattle.shape.specs.Lengths.{shape, Valid}
use Rattle.shape.proofs.Small.{valid_shape}
use Rattle.refusal.specs.Refusal.{Test, ◌when◌, first, AllFail}
use Rattle.refusal.specs.Conditions.{outside, posts_tests, bad_point, bad_point_count, bad_second, bad_points, station_tests, party_tests}
use Rattle.refusal.proofs.Laws.{or_false, inside, all_fail}
use Rattle.refusal.proofs.Groups.{stopped, went_on}

pub posts_valid : (n t points : ℕ) → AllFail (posts_tests n t) → bad_point_count points ≡ false → Valid (shape n t points)
posts_valid n t points h e =
    valid_shape n t points (inside fewest_posts most_posts n h.0) (inside 1 (n - 1) t h.1.0) (inside 1 most_points points e)

-- 1 and 2, then 4 of the number of points: the code stops behind each
module _ (n t points a : ℕ) (e : a ≡ first (posts_tests n t)) where
  pub station_first : (a ≡ 0 → ⊥) → a ≡ first (station_tests n t points)
  station_first = stopped (posts_tests n t) (4 when bad_point_count points ∷ []) tt a e

  pub station_last : (b : ℕ) → a ≡ 0 → b ≡ first (4 when bad_point_count points ∷ []) → b ≡ first (station_tests n t points)
  station_last = went_on (posts_tests n t) (4 when bad_point_count points ∷ []) tt a e

  module _ (post : ℕ) where
    abbrev own : List Test
    own = 3 when outside 1 n post ∷ 4 when bad_point_count points ∷ []

    pub party_first : (a ≡ 0 → ⊥) → a ≡ first (party_tests n t post points)
    party_first = stopped (posts_tests n t) own tt a e

    module _ (b : ℕ) (z : a ≡ 0) (eb : b ≡ first (3 when outside 1 n post ∷ [])) where
      pub party_second : (b ≡ 0 → ⊥) → b ≡ first (party_tests n t post points)
      party_second h = went_on (posts_tests n t) own tt a e b z (stopped (3 when outside 1 n post ∷ []) (4 when bad_point_count points ∷ []) tt b eb h)

      pub party_last : (c : ℕ) → b ≡ 0 → c ≡ first (4 when bad_point_count points ∷ []) → c ≡ first (party_tests n t post points)
      party_last c y ec =
          went_on (posts_tests n t) own tt a e c z (went_on (3 when outside 1 n post ∷ []) (4 when bad_point_count points ∷ []) tt b eb c y ec)

-- and what they leave
pub station_valid : (n t points : ℕ) → AllFail (station_tests n t points) → Valid (shape n t points)
station_valid n t points h = posts_valid n t points (h.0, (h.1.0, tt)) h.1.1.0

pub station_passed : (n t points r : ℕ) → r ≡ first (station_tests n t points) → r ≡ 0 → Valid (shape n t points)
station_passed n t points r e z = station_valid n t points (all_fail (station_tests n t points) tt (sym e ∙ z))

pub party_valid : (n t post points : ℕ) → AllFail (party_tests n t post points) → Valid (shape n t points)
party_valid n t post points h = posts_valid n t points (h.0, (h.1.0, tt)) h.1.1.1.0

pub party_in : (n t post points : ℕ) → AllFail (party_tests n t post points) → (1 ≤ post) × (post ≤ n)
party_in n t post points h = inside 1 n post h.1.1.0

module _ (n t post points r : ℕ) (e : r ≡ first (party_tests n t post points)) (z : r ≡ 0) where
  pub party_passed : Valid (shape n t points)
  party_passed = party_valid n t post points (all_fail (party_tests n t post points) tt (sym e ∙ z))

  pub party_there : (1 ≤ post) × (post ≤ n)
  party_there = party_in n t post points (all_fail (party_tests n t post points) tt (sym e ∙ z))

-- what 4 leaves of a post's check points
pub points_good : (points : ℕ) (w : Points) → bad_points points w ≡ false
    → (bad_point_count points ≡ false) × (bad_point w.first ≡ false) × (bad_second points w.second ≡ false)
unfolding bad_points
points_good points w e =
    let (count, rest) = or_false (bad_point_count points) _ e in
    let (one, two) = or_false (bad_point w.first) _ rest in
    (count, one, two)
