-- Numbers that pass test 8 are elements, and elements pass it; for the crates above.
use Prim.Native.Nat.{ℕ}
use mathlib.Core.Path.{◌≡◌, refl, ap₂}
use mathlib.Core.Bool.{false, ◌||◌}
use mathlib.Core.List.{List, [], ◌∷◌}
use Rattle.poly.specs.Counting.{Elements}
use Rattle.refusal.specs.Conditions.{beyond, any_beyond}
use Rattle.refusal.proofs.Elements.{below_p, element_test}
use Rattle.refusal.proofs.Laws.{or_false}

pub elements_pass : (xs : List ℕ) → Elements xs → any_beyond xs ≡ false
unfolding any_beyond
elements_pass [] e = refl
elements_pass (x ∷ xs) e = ap₂ ◌||◌ (element_test x e.0) (elements_pass xs e.1)

pub passes_elements : (xs : List ℕ) → any_beyond xs ≡ false → Elements xs
unfolding any_beyond
passes_elements [] e = tt
passes_elements (x ∷ xs) e = let h = or_false (beyond x) (any_beyond xs) e in (below_p x h.0, passes_elements xs h.1)
