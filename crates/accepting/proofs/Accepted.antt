-- The posts that a walk accepts: they pass the test, rise, and are no more than are needed.
use Prim.Native.Nat.{ℕ, zero, suc, ◌+◌, ◌≤◌, ◌<◌}
use mathlib.Core.Path.{◌≡◌, refl, ap}
use mathlib.Core.Bool.{Bool, true, false}
use mathlib.Core.List.{List, ◌∷◌}
use native.Mathlib.Omega.{arith}
use borrow.Author.Tests.{ltb-false}
use lib.Dec.{ltb}
use lib.ListN.{length, take}
use Rattle.poly.specs.Counting.{All, Distinct}
use Rattle.poly.proofs.Lists.{all_map}
use Rattle.accepting.specs.Accepting.{walk, passing, TakesFirst}

-- a post that the walk of k posts from j on accepts
pub record Accepted (test : ℕ → Bool) (j k x : ℕ) : Type 0 where
  pub passes : test x ≡ true
  pub from_on : j ≤ x
  pub before : x < j + k

module _ (test : ℕ → Bool) where
  -- one of the posts behind j, as one of the posts from j on
  pub later : (j k x : ℕ) → Accepted test (suc j) k x → Accepted test j (suc k) x
  later j k x a = record { passes = a.passes; from_on = omega (arith, a.from_on); before = omega (arith, a.before) }

  pub all_accepted : (j k need : ℕ) → All (Accepted test j k) (walk test j k need)
  unfolding walk
  all_accepted j zero need = tt
  all_accepted j (suc k) zero = tt
  all_accepted j (suc k) (suc need) =
      go (test j) refl (all_map (later j k) (walk test (suc j) k need) (all_accepted (suc j) k need))
      (all_map (later j k) (walk test (suc j) k (suc need)) (all_accepted (suc j) k (suc need)))
    where
      go : (b : Bool) → test j ≡ b → All (Accepted test j (suc k)) (walk test (suc j) k need)
          → All (Accepted test j (suc k)) (walk test (suc j) k (suc need))
          → All (Accepted test j (suc k)) (elim b as (λ z. List ℕ) [ true ↦ j ∷ walk test (suc j) k need | false ↦ walk test (suc j) k (suc need) ])
      go true e a c = (record { passes = e; from_on = omega arith; before = omega arith }, a)
      go false e a c = c

  pub distinct_accepted : (j k need : ℕ) → Distinct (walk test j k need)
  unfolding walk
  distinct_accepted j zero need = tt
  distinct_accepted j (suc k) zero = tt
  distinct_accepted j (suc k) (suc need) = go (test j) (distinct_accepted (suc j) k need) (distinct_accepted (suc j) k (suc need))
    where
      go : (b : Bool) → Distinct (walk test (suc j) k need) → Distinct (walk test (suc j) k (suc need))
          → Distinct {R = ℕ} (elim b as (λ z. List ℕ) [ true ↦ j ∷ walk test (suc j) k need | false ↦ walk test (suc j) k (suc need) ])
      go true a c = (all_map (λ x h e. omega (arith, h.from_on)) (walk test (suc j) k need) (all_accepted (suc j) k need), a)
      go false a c = c

  pub accepted_most : (j k need : ℕ) → length (walk test j k need) ≤ need
  unfolding walk
  accepted_most j zero need = omega arith
  accepted_most j (suc k) zero = omega arith
  accepted_most j (suc k) (suc need) = go (test j) (accepted_most (suc j) k need) (accepted_most (suc j) k (suc need))
    where
      go : (b : Bool) → length (walk test (suc j) k need) ≤ need → length (walk test (suc j) k (suc need)) ≤ suc need
          → length {A = ℕ} (elim b as (λ z. List ℕ) [ true ↦ j ∷ walk test (suc j) k need | false ↦ walk test (suc j) k (suc need) ]) ≤ suc need
      go true a c = omega arith
      go false a c = c

  pub accepted_enough : (j k need : ℕ) → ltb (length (walk test j k need)) need ≡ false → length (walk test j k need) ≡ need
  accepted_enough j k need e = omega (arith, accepted_most j k need, ltb-false (length (walk test j k need)) need e)

  -- the walk takes the first of all that pass
  pub walk_first : (j k need : ℕ) → walk test j k need ≡ take need (passing test j k)
  unfolding walk passing
  walk_first j zero zero = refl
  walk_first j zero (suc need) = refl
  walk_first j (suc k) zero = refl
  walk_first j (suc k) (suc need) = go (test j) (walk_first (suc j) k need) (walk_first (suc j) k (suc need))
    where
      go : (b : Bool) → walk test (suc j) k need ≡ take need (passing test (suc j) k)
          → walk test (suc j) k (suc need) ≡ take (suc need) (passing test (suc j) k)
          → elim b as (λ z. List ℕ) [ true ↦ j ∷ walk test (suc j) k need | false ↦ walk test (suc j) k (suc need) ]
          ≡ take {A = ℕ} (suc need) (elim b as (λ z. List ℕ) [ true ↦ j ∷ passing test (suc j) k | false ↦ passing test (suc j) k ])
      go true a c = ap (λ (l : List ℕ). j ∷ l) a
      go false a c = c

pub takes_first : TakesFirst
takes_first q row blocks = walk_first _ 1 q.shape.n _
