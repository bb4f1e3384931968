-- The posts that pass a test rise from the first on, and none is behind the last. So a table of n inverses reaches them.
use Prim.Native.Nat.{ℕ, zero, suc, ◌+◌, ◌≤◌, ◌<◌}
use mathlib.Core.Bool.{Bool, true, false}
use mathlib.Core.List.{List, ◌∷◌}
use native.Mathlib.Omega.{arith}
use Rattle.barycentric.specs.Nodes.{Rising, last_of}
use Rattle.accepting.specs.Accepting.{passing}

module _ (test : ℕ → Bool) where
  pub passing_rises : (a j k : ℕ) → a < j → Rising a (passing test j k)
  unfolding passing
  passing_rises a j zero h = tt
  passing_rises a j (suc k) h = go (test j) (passing_rises j (suc j) k (omega arith)) (passing_rises a (suc j) k (omega arith))
    where
      go : (b : Bool) → Rising j (passing test (suc j) k) → Rising a (passing test (suc j) k)
          → Rising a (elim b as (λ z. List ℕ) [ true ↦ j ∷ passing test (suc j) k | false ↦ passing test (suc j) k ])
      go true r s = (h, r)
      go false r s = s

  pub passing_last : (a j k m : ℕ) → a ≤ m → j + k ≤ suc m → last_of a (passing test j k) ≤ m
  unfolding passing
  passing_last a j zero m h i = h
  passing_last a j (suc k) m h i =
      go (test j) (passing_last j (suc j) k m (omega arith) (omega arith)) (passing_last a (suc j) k m h (omega arith))
    where
      go : (b : Bool) → last_of j (passing test (suc j) k) ≤ m → last_of a (passing test (suc j) k) ≤ m
          → last_of a (elim b as (λ z. List ℕ) [ true ↦ j ∷ passing test (suc j) k | false ↦ passing test (suc j) k ]) ≤ m
      go true r s = r
      go false r s = s
