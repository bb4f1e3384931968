-- 11: the range of a line's row, post and numbers.
use Prim.Native.Nat.{ℕ, ◌≤◌}
use mathlib.Core.Path.{◌≡◌, refl, sym, ◌∙◌}
use mathlib.Core.List.{List, [], ◌∷◌}
use mathlib.Core.Bool.{Bool, true, false, not, cond, ◌||◌}
use native.Mathlib.Omega.{arith}
use borrow.Author.Tests.{lt-ltb, ltb-true, ltb-false}
use lib.Dec.{ltb, eqb}
use Rattle.field.specs.Modulus.{p}
use Rattle.shape.specs.Bounds.{last_row_at, last_triple}
use Rattle.refusal.specs.Conditions.{beyond, any_beyond}
use Rattle.csv_fields.specs.Fields.{largest_from}
use Rattle.forms.specs.Lines.{last_row_of}

pub last_row_le : (letter : ℕ) → last_row_of letter ≤ last_row_at
last_row_le letter = go (eqb letter 77)
  where
    go : (b : Bool) → cond b last_triple last_row_at ≤ last_row_at
    go true = omega arith
    go false = omega arith

-- the largest number is an element where all are
pub largest_any : (m : ℕ) (xs : List ℕ) → beyond m || any_beyond xs ≡ beyond (largest_from m xs)
unfolding any_beyond
largest_any m [] = go (beyond m)
  where
    go : (b : Bool) → b || false ≡ b
    go true = refl
    go false = refl
largest_any m (x ∷ xs) = larger (ltb m x) refl ∙ largest_any (cond (ltb m x) x m) xs
  where
    both : (a b : Bool) (c : Bool) → (a ≡ true → b ≡ true) → a || (b || c) ≡ b || c
    both true true c h = refl
    both true false c h = let z : false ≡ true = h refl in cc
    both false b c h = refl

    other : (a b c : Bool) → (b ≡ true → a ≡ true) → a || (b || c) ≡ a || c
    other true b c h = refl
    other false true c h = let z : false ≡ true = h refl in cc
    other false false c h = refl

    up : (a b : ℕ) → a ≤ b → beyond a ≡ true → beyond b ≡ true
    up a b h e = go (ltb b p) refl
      where
        go : (t : Bool) → ltb b p ≡ t → not t ≡ true
        go true q = let z : not (ltb a p) ≡ false = rw (lt-ltb a p (omega (arith, ltb-true b p q))) in sym z ∙ e
        go false q = refl

    larger : (t : Bool) → ltb m x ≡ t → beyond m || (beyond x || any_beyond xs) ≡ beyond (cond t x m) || any_beyond xs
    larger true e = both (beyond m) (beyond x) (any_beyond xs) (up m x (omega (arith, ltb-true m x e)))
    larger false e = other (beyond m) (beyond x) (any_beyond xs) (up x m (ltb-false m x e))
