-- Where 19 is not given: the two secrets are one, or the posts are few.
use Prim.Native.Nat.{ℕ, ◌≤◌}
use mathlib.Core.Path.{◌≡◌, refl}
use mathlib.Core.Bool.{Bool, true, false, not, ◌&&◌}
use mathlib.Core.Logic.{◌⊎◌, inl, inr}
use mathlib.Core.List.{List}
use borrow.Author.Tests.{ltb-false, eqb-true}
use lib.Dec.{eqb, ltb}
use lib.ListN.{length}
use Rattle.otherdraw.specs.Other.{too_many_of}

module _ (t secret wanted : ℕ) (posts : List ℕ) where
  pub few_or_equal : too_many_of t secret wanted posts ≡ false → (secret ≡ wanted) ⊎ (length posts ≤ t)
  few_or_equal e = go (eqb secret wanted) refl e
    where
      go : (b : Bool) → eqb secret wanted ≡ b → (not b && ltb t (length posts)) ≡ false → (secret ≡ wanted) ⊎ (length posts ≤ t)
      go true q f = inl (eqb-true secret wanted q)
      go false q f = inr (ltb-false t (length posts) f)
