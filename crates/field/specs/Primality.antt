-- Document 01: "That p is prime is proved, not assumed."
use Rattle.std.specs.Prelude.{ℕ, ◌*◌, ◌<◌, ◌≡◌, ◌⊎◌}

-- A number above 1 that is no product of two others.
pub record Prime (m : ℕ) : Type 0 where
  pub above_one : 1 < m
  pub only : (a b : ℕ) → a * b ≡ m → (a ≡ 1) ⊎ (b ≡ 1)
