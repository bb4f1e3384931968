-- The turns of loops over a list of terms, one term at a time. A loop asks tests of each term up to the first
-- refusal, or it does something with each term, which leads to what is done with all of them.
use Prim.Native.Nat.{ℕ, zero, suc, ◌+◌, ◌≤◌, ◌<◌}
use mathlib.Core.Path.{◌≡◌, refl, ◌∙◌}
use mathlib.Core.List.{List, [], ◌∷◌}
use native.Mathlib.Numerals.{add-one}
use native.Mathlib.Nat.{le_of_suc-le-suc, not-suc-le-zero}
use lib.ListN.{length, drop, get_or, drop_of_length-le}
use lib.Seq.{drop-cons}
use Rattle.refusal.specs.Refusal.{Test, first}
use Rattle.refusal.proofs.Laws.{Numbered}
use Rattle.refusal.proofs.Groups.{stopped, went_on}
use Rattle.terms.specs.declared.Term.{Term}
use Rattle.terms.specs.Listed.{blank}
use Rattle.relation.specs.Tests.{each_at_of, Every}

-- the term at a place, and the rest behind it
pub at_place : (l : List Term) (i : ℕ) → i < length l → drop i l ≡ get_or l i blank ∷ drop (i + 1) l
at_place l i h = rw (add-one i) (drop-cons l i blank h)

-- tests of each term, of which those of the terms from i on decide
module _ (f : ℕ → Term → List Test) (l : List Term) (i : ℕ) where
  abbrev pub Left : Type 0
  Left = first (each_at_of f i (drop i l)) ≡ first (each_at_of f 0 l)

  module _ (e : Left) where
    module _ (h : i < length l) (numbered : (k : ℕ) (t : Term) → Numbered (f k t)) (u : ℕ) (eu : u ≡ first (f i (get_or l i blank))) where
      pub stops : (u ≡ 0 → ⊥) → u ≡ first (each_at_of f 0 l)
      unfolding each_at_of
      stops n =
          stopped (f i (get_or l i blank)) (each_at_of f (suc i) (drop (suc i) l)) (numbered i (get_or l i blank)) u eu n
          ∙ (rw (at_place l i h, add-one i) at e)

      pub goes_on : u ≡ 0 → first (each_at_of f (i + 1) (drop (i + 1) l)) ≡ first (each_at_of f 0 l)
      unfolding each_at_of
      goes_on z =
          rw (add-one i)
          (went_on (f i (get_or l i blank)) (each_at_of f (suc i) (drop (suc i) l)) (numbered i (get_or l i blank)) u eu (first (each_at_of f (suc i) (drop (suc i) l))) z refl
          ∙ (rw (at_place l i h, add-one i) at e))

    pub ends : length l ≤ i → 0 ≡ first (each_at_of f 0 l)
    unfolding each_at_of
    ends h = rw (drop_of_length-le l h) at e

-- something done with each term
module _ {X : Type 0} (f : ℕ → Term → X → X) where
  abbrev pub walked : ℕ → List Term → X → X
  walked k [] x = x
  walked k (t ∷ ts) x = walked (suc k) ts (f k t x)

  module _ (l : List Term) where
    abbrev pub Leads : X → ℕ → X → Type 0
    Leads x i whole = walked i (drop i l) x ≡ whole

    pub goes : (x y : X) (i : ℕ) (whole : X) → i < length l → y ≡ f i (get_or l i blank) x → Leads x i whole → Leads y (i + 1) whole
    goes x y i whole h ey e = rw (ey, add-one i) (rw (at_place l i h, add-one i) at e)

    pub gone : (x : X) (i : ℕ) (whole : X) → length l ≤ i → Leads x i whole → x ≡ whole
    gone x i whole h e = rw (drop_of_length-le l h) at e

-- what holds of every term holds of the one at a place
pub every_at : (P : Term → Type 0) (l : List Term) (i : ℕ) → i < length l → Every P l → P (get_or l i blank)
unfolding Every
every_at P [] i h e = absurd (not-suc-le-zero h)
every_at P (t ∷ l) zero h e = e.0
every_at P (t ∷ l) (suc i) h e = every_at P l i (le_of_suc-le-suc h) e.1
