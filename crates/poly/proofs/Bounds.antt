-- Every value, sum and interpolation is an element; a number that is not 0 is an element that is not 0; lengths.
use Prim.Native.Nat.{ℕ, zero, suc, ◌<◌}
use mathlib.Core.Path.{◌≡◌, refl, sym, ◌∙◌, ap}
use mathlib.Core.Logic.{◌≢◌}
use mathlib.Core.List.{List, [], ◌∷◌}
use native.Mathlib.Omega.{arith}
use lib.Dec.{lit<}
use lib.ListN.{length}
use Rattle.field.specs.Modulus.{p}
use Rattle.field.specs.Arithmetic.{product}
use Rattle.field.specs.Algebra.{CommutativeRing}
use Rattle.field.specs.Element.{element}
use Rattle.field.proofs.Elements.{𝓡, element_zero, element_injective}
use Rattle.field.proofs.Modular.{sum_below, product_below}
use Rattle.poly.specs.Polynomial.{value, powers_from, powers, weighted}
use Rattle.poly.specs.Interpolation.{nodal, terms, interpolated}
use Rattle.poly.specs.Counting.{Elements}

pub value_below : (cs : List ℕ) (x : ℕ) → value cs x < p
unfolding value
value_below [] x = lit< tt
value_below (c ∷ cs) x = sum_below _ _

pub weighted_below : (cs ws : List ℕ) → weighted cs ws < p
unfolding weighted
weighted_below [] ws = lit< tt
weighted_below (c ∷ cs) [] = lit< tt
weighted_below (c ∷ cs) (w ∷ ws) = sum_below _ _

pub nodal_below : (xs : List ℕ) (z : ℕ) → nodal xs z < p
unfolding nodal
nodal_below [] z = lit< tt
nodal_below (x ∷ xs) z = product_below _ _

pub terms_below : (z : ℕ) (passed xs ys : List ℕ) → terms z passed xs ys < p
unfolding terms
terms_below z passed [] ys = lit< tt
terms_below z passed (x ∷ xs) [] = lit< tt
terms_below z passed (x ∷ xs) (y ∷ ys) = sum_below _ _

pub interpolated_below : (xs ys : List ℕ) (z : ℕ) → interpolated xs ys z < p
unfolding interpolated
interpolated_below xs ys z = terms_below z [] xs ys

pub length_powers_from : (y x k : ℕ) → length (powers_from y x k) ≡ k
unfolding powers_from
length_powers_from y x zero = refl
length_powers_from y x (suc k) = ap suc (length_powers_from (product y x) x k)

-- powers are elements
powers_from_below : (y x k : ℕ) → y < p → Elements (powers_from y x k)
unfolding powers_from
powers_from_below y x zero h = tt
powers_from_below y x (suc k) h = (h, powers_from_below (product y x) x k (product_below y x))

pub powers_below : (x k : ℕ) → Elements (powers x k)
powers_below x k = powers_from_below 1 x k (lit< tt)

pub nonzero : (x : ℕ) → 0 < x → x < p → element x ≢ CommutativeRing.zero 𝓡
nonzero x some low e = absurd (omega (arith, element_injective x 0 low (lit< tt) (e ∙ sym element_zero)))
