-- The search for a number that is no element: its turns, and what it says where it finds none.
use Prim.Native.Nat.{ℕ, ◌+◌, ◌≤◌, ◌<◌}
use mathlib.Core.Path.{◌≡◌, refl, sym, ◌∙◌, ap}
use mathlib.Core.Logic.{inl, inr}
use mathlib.Core.Bool.{Bool, true, false, not, ◌||◌}
use mathlib.Core.List.{List}
use native.Mathlib.Numerals.{add-one}
use borrow.Author.Tests.{lt-ltb, le-ltb, ltb-true, not-false}
use lib.Dec.{leb, ltb}
use Rattle.std.proofs.lemmas.Bool.Decides.{leb_tells}
use lib.ListN.{length, drop, get_or, drop_of_length-le}
use lib.Seq.{drop-cons}
use Rattle.field.specs.Modulus.{p}
use Rattle.refusal.specs.Conditions.{beyond, any_beyond}

-- what was found so far, or else is in the rest of the list, is what is in the whole
abbrev pub SoFar : List ℕ → Bool → ℕ → Type 0
SoFar l r i = (r || any_beyond (drop i l)) ≡ any_beyond l

or_assoc : (a b c : Bool) → ((a || b) || c) ≡ (a || (b || c))
or_assoc true b c = refl
or_assoc false b c = refl

alone : (r : Bool) → (r || false) ≡ r
alone true = refl
alone false = refl

-- as the code asks: p is at most x
at_least : (x : ℕ) → leb p x ≡ beyond x
at_least x = elim (leb_tells p x) [ inl h ↦ h.0 ∙ sym (ap not (le-ltb x p h.1)) | inr h ↦ h.0 ∙ sym (ap not (lt-ltb x p h.1)) ]

module _ (l : List ℕ) (r : Bool) (i : ℕ) where
  pub turned : i < length l → SoFar l r i → SoFar l (r || leb p (get_or l i 0)) (i + 1)
  unfolding any_beyond
  turned h e =
      ap (λ (b : Bool). (r || b) || any_beyond (drop (i + 1) l)) (at_least (get_or l i 0))
      ∙ or_assoc r (beyond (get_or l i 0)) (any_beyond (drop (i + 1) l))
      ∙ ap (λ (k : ℕ). r || (beyond (get_or l i 0) || any_beyond (drop k l))) (add-one i)
      ∙ rw (drop-cons l i 0 h) at e

  pub ended : length l ≤ i → SoFar l r i → r ≡ any_beyond l
  unfolding any_beyond
  ended h e = sym (alone r) ∙ rw (drop_of_length-le l h) at e

-- elements only
pub below_p : (x : ℕ) → beyond x ≡ false → x < p
below_p x e = ltb-true x p (not-false (ltb x p) e)

pub element_test : (x : ℕ) → x < p → beyond x ≡ false
element_test x h = ap not (lt-ltb x p h)
