-- Demand 1 of the call, with the table for its tests, and what 18 means of a list of posts; proved in proofs/Theorems.antt.
use Rattle.std.specs.Prelude.{ℕ, suc, ◌≤◌, ◌<◌, ◌≡◌, false, List, length, get_or}
use Rattle.refusal.specs.Refusal.{first, Keeps}
use Rattle.otherdraw.specs.Other.{not_rising, other_draw, other_refusal_of, other_out}
use Rattle.otherdraw.specs.Table.{other_table}

-- The answer's refusal, and the lent list: the other draw, or as it came.
pub record OtherLawful : Type 0 where
  pub refusal : (n t points : ℕ) (ws draw : List ℕ) (secret wanted : ℕ) (posts out : List ℕ)
      → other_refusal_of n t points ws draw secret wanted posts out ≡ first (other_table n t points ws draw secret wanted posts out)
  pub draw : (n t points : ℕ) (ws draw : List ℕ) (secret wanted : ℕ) (posts out : List ℕ)
      → Keeps (other_table n t points ws draw secret wanted posts out) (other_draw n t points ws draw secret wanted posts) out
      (other_out n t points ws draw secret wanted posts out)

-- "a list of posts that isn't rising or leaves 1..n": passed exactly where each post is in 1..n and above the one before it. The empty list is.
pub record RisingMeans : Type 0 where
  pub rising_passes : (n : ℕ) (posts : List ℕ) → ((i : ℕ) → i < length posts → (1 ≤ get_or posts i 0) × (get_or posts i 0 ≤ n))
      → ((i : ℕ) → suc i < length posts → get_or posts i 0 < get_or posts (suc i) 0) → not_rising n 0 posts ≡ false
  pub passes_inside : (n : ℕ) (posts : List ℕ) → not_rising n 0 posts ≡ false → (i : ℕ) → i < length posts
      → (1 ≤ get_or posts i 0) × (get_or posts i 0 ≤ n)
  pub passes_rising : (n : ℕ) (posts : List ℕ) → not_rising n 0 posts ≡ false → (i : ℕ) → suc i < length posts
      → get_or posts i 0 < get_or posts (suc i) 0
