-- What stands at a position of a list, and from there on.
use Prim.Native.Nat.{ℕ, suc, ◌+◌, ◌<◌}
use mathlib.Core.Path.{◌≡◌, refl, ap, sym, ◌∙◌}
use mathlib.Core.List.{List, ◌∷◌, ◌++◌}
use mathlib.Core.Bool.{Bool, true, false}
use native.Mathlib.Omega.{arith}
use native.Mathlib.Numerals.{add-one}
use borrow.Author.Tests.{ltb-true, ltb-false}
use lib.ListN.{length, get_or, drop, get_or-eq_default}
use lib.Seq.{drop_at, drop-drop, drop-cons, get_or-drop}
use lib.Dec.{ltb}

pub head_at : (s : List ℕ) (at : ℕ) → get_or s at 0 ≡ get_or (drop at s) 0 0
head_at s at = sym (get_or-drop at s 0 0 ∙ ap (λ (n : ℕ). get_or s n 0) (omega arith))

pub drop_past : (s : List ℕ) (at k : ℕ) (p q : List ℕ) → drop at s ≡ p ++ q → length p ≡ k → drop (at + k) s ≡ q
drop_past s at k p q e n = sym (drop-drop k at s) ∙ rw e (drop_at p q k n)

-- a byte that is not 0 stands inside
pub inside : (s : List ℕ) (at b : ℕ) → get_or s at 0 ≡ suc b → at < length s
inside s at b e = by_place (ltb at (length s)) refl
  where
    by_place : (t : Bool) → ltb at (length s) ≡ t → at < length s
    by_place true h = ltb-true at (length s) h
    by_place false h = absurd (omega (arith, get_or-eq_default s 0 (ltb-false at (length s) h)))

pub drop_head : (s : List ℕ) (at b : ℕ) → get_or s at 0 ≡ suc b → drop at s ≡ suc b ∷ drop (at + 1) s
drop_head s at b e = rw (drop-cons s at 0 (inside s at b e), e, add-one at)
