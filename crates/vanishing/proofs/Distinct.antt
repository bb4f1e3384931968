-- A list with each number once: no two are equal, and it has the same numbers.
use Prim.Native.Nat.{ℕ, ◌≤◌}
use mathlib.Core.Path.{◌≡◌, refl, sym, subst}
use mathlib.Core.Bool.{Bool, true, false, cond, ◌||◌, false≢true}
use mathlib.Core.Logic.{◌≢◌}
use mathlib.Core.List.{List, [], ◌∷◌}
use native.Mathlib.Omega.{arith}
use borrow.Author.Tests.{eqb-true, eqb-false}
use lib.Dec.{eqb}
use lib.ListN.{length}
use Rattle.poly.specs.Counting.{All, Distinct}
use Rattle.vanishing.specs.Vanishing.{occurs, distinct}

module _ (P : ℕ → Type 0) where
  pub of_occurs : (x : ℕ) (ys : List ℕ) → occurs x ys ≡ true → All P ys → P x
  unfolding occurs
  of_occurs x [] e a = absurd (false≢true e)
  of_occurs x (y ∷ ys) e a = go (eqb x y) refl e (λ f. of_occurs x ys f a.1)
    where
      go : (b : Bool) → eqb x y ≡ b → (b || occurs x ys) ≡ true → (occurs x ys ≡ true → P x) → P x
      go true q f r = subst P (sym (eqb-true x y q)) a.0
      go false q f r = r f

  -- what holds of the numbers left holds of all, and back
  pub of_distinct : (xs : List ℕ) → All P (distinct xs) → All P xs
  unfolding distinct
  of_distinct [] a = tt
  of_distinct (x ∷ xs) a = go (occurs x xs) refl a (of_distinct xs)
    where
      go : (b : Bool) → occurs x xs ≡ b → All P (cond b (distinct xs) (x ∷ distinct xs)) → (All P (distinct xs) → All P xs) → All P (x ∷ xs)
      go true q h r = (of_occurs x xs q (r h), r h)
      go false q h r = (h.0, r h.1)

  pub to_distinct : (xs : List ℕ) → All P xs → All P (distinct xs)
  unfolding distinct
  to_distinct [] a = tt
  to_distinct (x ∷ xs) a = go (occurs x xs) (to_distinct xs a.1)
    where
      go : (b : Bool) → All P (distinct xs) → All P (cond b (distinct xs) (x ∷ distinct xs))
      go true h = h
      go false h = (a.0, h)

pub length_distinct : (xs : List ℕ) → length (distinct xs) ≤ length xs
unfolding distinct
length_distinct [] = omega arith
length_distinct (x ∷ xs) = go (occurs x xs) (length_distinct xs)
  where
    go : (b : Bool) → length (distinct xs) ≤ length xs → length (cond b (distinct xs) (x ∷ distinct xs)) ≤ length (x ∷ xs)
    go true h = omega arith
    go false h = omega arith

not_occurs : (x : ℕ) (ys : List ℕ) → occurs x ys ≡ false → All (λ y. y ≢ x) ys
unfolding occurs
not_occurs x [] e = tt
not_occurs x (y ∷ ys) e = go (eqb x y) refl e (not_occurs x ys)
  where
    go : (b : Bool) → eqb x y ≡ b → (b || occurs x ys) ≡ false → (occurs x ys ≡ false → All (λ z. z ≢ x) ys) → All (λ z. z ≢ x) (y ∷ ys)
    go true q f r = absurd (false≢true (sym f))
    go false q f r = ((λ w. eqb-false x y q (sym w)), r f)

pub apart : (xs : List ℕ) → Distinct (distinct xs)
unfolding distinct
apart [] = tt
apart (x ∷ xs) = go (occurs x xs) refl (apart xs)
  where
    go : (b : Bool) → occurs x xs ≡ b → Distinct (distinct xs) → Distinct (cond b (distinct xs) (x ∷ distinct xs))
    go true q h = h
    go false q h = (to_distinct (λ y. y ≢ x) xs (not_occurs x xs q), h)
