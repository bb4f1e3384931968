-- The lengths of a valid shape are small, so that none wraps.
use Prim.Native.Nat.{ℕ, ◌+◌, ◌*◌, ◌-◌, ◌≤◌}
use mathlib.Core.Path.{◌≡◌, ap}
use native.Mathlib.Nat.{mul-le-mul, le_refl}
use native.Mathlib.Omega.{arith}
use mir.Syntax.{w64}
use mir.Val.{Fits}
use Rattle.shape.specs.declared.Shape.{Shape}
use Rattle.shape.specs.Bounds.{fewest_posts, most_posts, most_points, longest_row}
use Rattle.shape.specs.Lengths.{shape, Valid, f_length, v_length, row_length, block_length, draw_length}

-- products with the number of points
between : (k x : ℕ) → 1 ≤ k → k ≤ most_points → (x ≤ k * x) × (k * x ≤ most_points * x)
between k x lo hi = (omega (arith, mul-le-mul {n₁ = 1} {m₁ = x} {n₂ = k} {m₂ = x} lo (le_refl x)), mul-le-mul {n₁ = k} {m₁ = x} {n₂ = most_points} {m₂ = x} hi (le_refl x))

pub valid_shape : (n t k : ℕ) → (fewest_posts ≤ n) × (n ≤ most_posts) → (1 ≤ t) × (t ≤ n - 1) → (1 ≤ k) × (k ≤ most_points) → Valid (shape n t k)
valid_shape n t k hn ht hk =
    record {
      n_in = hn;
      t_in = ht;
      points_in_is = hk;
      reach_in = between k t hk.0 hk.1;
      checks_in = between k n hk.0 hk.1;
    }

-- k numbers for each post, no more than a row's
pub each_small : (s : Shape) (k : ℕ) → Valid s → k ≤ longest_row → s.n * k ≤ most_posts * longest_row
each_small s k v h = mul-le-mul {n₁ = s.n} {m₁ = k} {n₂ = most_posts} {m₂ = longest_row} (omega (arith, v.n_in)) h

module _ (s : Shape) (k : ℕ) where
  each_fits : Valid s → k ≤ longest_row → Fits w64 (s.n * k)
  each_fits v h = record { fits = omega (arith, each_small s k v h) }

  pub block_each : k ≡ block_length s → Valid s → Fits w64 (s.n * k)
  block_each e v = each_fits v (omega (arith, v.n_in, v.t_in, v.reach_in, v.checks_in))

  pub row_each : k ≡ row_length s → Valid s → Fits w64 (s.n * k)
  row_each e v = each_fits v (omega (arith, v.n_in, v.t_in, v.reach_in, v.checks_in))

  pub v_each : k ≡ v_length s → Valid s → Fits w64 (s.n * k)
  v_each e v = each_fits v (omega (arith, v.n_in, v.t_in, v.reach_in, v.checks_in))

  pub three_draws : k ≡ draw_length s → Valid s → Fits w64 (3 * k)
  three_draws e v = record { fits = omega (arith, each_small s (v_length s) v (omega (arith, v.n_in, v.t_in, v.reach_in, v.checks_in)), v.n_in, v.t_in, v.reach_in, v.checks_in) }

  pub each_is : (j : ℕ) → k ≡ j → s.n * k ≡ s.n * j
  each_is j e = ap (λ (i : ℕ). s.n * i) e

module _ (s : Shape) (f v : ℕ) (ef : f ≡ f_length s) (ev : v ≡ v_length s) where
  pub draw_is : f + s.n * v ≡ draw_length s
  draw_is = rw (ef, ev)

  pub draw_fits : Valid s → Fits w64 (f + s.n * v)
  draw_fits w = record { fits = omega (arith, each_small s v w (omega (arith, w.n_in, w.t_in, w.reach_in, w.checks_in)), w.n_in, w.t_in, w.reach_in, w.checks_in) }

pub ruleset small = (block_each, row_each, v_each, three_draws, draw_fits, each_is, draw_is)
