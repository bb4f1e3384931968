-- Searches that find a proof or nothing; `found` takes the proof out where the search computes to one.
use Prim.Native.Nat.{ℕ, zero, suc, ◌≤◌, ◌<◌}
use mathlib.Core.Path.{◌≡◌, refl}
use mathlib.Core.Bool.{Bool, true, false}
use mathlib.Core.List.{List, [], ◌∷◌}
use mathlib.Core.Logic.{inl, inr}
use mathlib.Core.Option.{Option, none, some, IsSome}
use native.Mathlib.Omega.{arith}
use borrow.Author.Tests.{eqb-true, eqb-false, ltb-true, leb-true}
use lib.Dec.{eqb, leb, ltb}
use Rattle.poly.specs.Counting.{All}
use Rattle.runs.specs.Calls.{Among}
use Rattle.secrecy.specs.Count.{same_list, same_numbers}
use Rattle.secrecy.proofs.Tests.{numbers_lists_right}

pub found : {A : Type 0} (o : Option A) → IsSome o → A
found none s = absurd s
found (some a) s = a

infixl 5 ◌also◌
module _ {A B : Type 0} where
  unfoldable pub ◌also◌ : Option (A → B) → Option A → Option B
  ◌also◌ none o = none
  ◌also◌ (some f) none = none
  ◌also◌ (some f) (some a) = some (f a)

  unfoldable pub both : Option A → Option B → Option (A × B)
  both none o = none
  both (some a) none = none
  both (some a) (some b) = some (a, b)

unfoldable pub either : {A : Type 0} → Option A → Option A → Option A
either none b = b
either (some a) b = some a

-- what a test that passes says
unfoldable pub tested : {A : Type 0} (b : Bool) → (b ≡ true → A) → Option A
tested true f = some (f refl)
tested false f = none

unfoldable pub equal : (a b : ℕ) → Option (a ≡ b)
unfolding tested
equal a b = tested (eqb a b) (eqb-true a b)

unfoldable pub at_most : (a b : ℕ) → Option (a ≤ b)
unfolding tested
at_most a b = tested (leb a b) (leb-true a b)

unfoldable pub below : (a b : ℕ) → Option (a < b)
unfolding tested
below a b = tested (ltb a b) (ltb-true a b)

-- a fact that is asked only where two numbers are equal
unfoldable pub where_equal : {A : Type 0} (a b : ℕ) → Option A → Option (a ≡ b → A)
unfolding ◌also◌
where_equal {A} a b o = go (eqb a b) refl
  where
    go : (c : Bool) → eqb a b ≡ c → Option (a ≡ b → A)
    go true e = some (λ x q. x) also o
    go false e = some (λ q. absurd (eqb-false a b e q))

-- all of a list
module _ {A : Type 0} {P : A → Type 0} where
  unfoldable pub each : ((a : A) → Option (P a)) → (xs : List A) → Option (All P xs)
  unfolding both
  each f [] = some tt
  each f (x ∷ xs) = both (f x) (each f xs)

-- all numbers below k; all posts 1 to n
module _ (P : ℕ → Type 0) where
  pub from_one : (n : ℕ) → ((i : ℕ) → i < n → P (suc i)) → (i : ℕ) → 1 ≤ i → i ≤ n → P i
  from_one n h zero lo hi = absurd (omega arith)
  from_one n h (suc i) lo hi = h i (omega arith)

  pub from_zero : (k : ℕ) → P 0 → ((i : ℕ) → i < k → P (suc i)) → (i : ℕ) → i < suc k → P i
  from_zero k z h zero l = z
  from_zero k z h (suc i) l = h i (omega arith)

unfoldable pub each_below : (P : ℕ → Type 0) (k : ℕ) → ((i : ℕ) → Option (P i)) → Option ((i : ℕ) → i < k → P i)
unfolding ◌also◌ both
each_below P zero f = some (λ i l. absurd (omega arith))
each_below P (suc k) f = some (from_zero P k) also f 0 also each_below (λ i. P (suc i)) k (λ i. f (suc i))

unfoldable pub each_post_lem : (P : ℕ → Type 0) (n : ℕ) → ((i : ℕ) → Option (P i)) → Option ((i : ℕ) → 1 ≤ i → i ≤ n → P i)
unfolding ◌also◌ each_below
each_post_lem P n f = some (from_one P n) also each_below (λ i. P (suc i)) n (λ i. f (suc i))

-- a list of numbers and another; among others
unfoldable pub same : (xs ys : List ℕ) → Option (xs ≡ ys)
unfolding tested same_list
same xs ys = tested (same_numbers xs ys) (numbers_lists_right.equal xs ys)

unfoldable pub among : (l : List ℕ) (ls : List (List ℕ)) → Option (Among l ls)
unfolding either ◌also◌ same
among l [] = none
among l (x ∷ xs) = either (some inl also same l x) (some inr also among l xs)
