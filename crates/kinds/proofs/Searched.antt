-- A search among all rows finds a row exactly where there is one.
use Prim.Native.Nat.{ℕ, zero, suc, ◌+◌, ◌<◌}
use mathlib.Core.Path.{◌≡◌, refl, sym, ◌∙◌, ap}
use mathlib.Core.Bool.{Bool, true, false, ◌||◌, or-true}
use mathlib.Core.List.{List, [], ◌∷◌}
use native.Mathlib.Omega.{arith}
use lib.ListN.{length, drop, get_or}
use Rattle.kinds.specs.Kinds.{any_row}
use Rattle.kinds.specs.Claims.{Passes, AnyRowMeans}

found : (test : ℕ → ℕ → List ℕ → Bool) (row : ℕ) (kinds : List ℕ) → any_row test row kinds ≡ true → Passes test row kinds
unfolding any_row
found test row [] e = let z : ◌≡◌ {A = ℕ} 0 1 = cc in absurd (omega arith)
found test row (k ∷ ks) e = by_first (test row k ks) refl e (found test (suc row) ks)
  where
    by_first : (b : Bool) → test row k ks ≡ b → b || any_row test (suc row) ks ≡ true
        → (any_row test (suc row) ks ≡ true → Passes test (suc row) ks) → Passes test row (k ∷ ks)
    by_first true f e g =
        let z : row + 0 ≡ row = omega arith in
        record { place = 0; within = omega arith; passed = ap (λ (r : ℕ). test r k ks) z ∙ f }
    by_first false f e g =
        let h = g e in
        let z : row + suc h.place ≡ suc row + h.place = omega arith in
        record {
          place = suc h.place;
          within = omega (arith, h.within);
          passed = ap (λ (r : ℕ). test r (get_or ks h.place 0) (drop (suc h.place) ks)) z ∙ h.passed;
        }

finds : (test : ℕ → ℕ → List ℕ → Bool) (row : ℕ) (kinds : List ℕ) (i : ℕ) → i < length kinds
    → test (row + i) (get_or kinds i 0) (drop (suc i) kinds) ≡ true → any_row test row kinds ≡ true
unfolding any_row
finds test row [] i h e = absurd (omega arith)
finds test row (k ∷ ks) zero h e =
    let z : row + 0 ≡ row = omega arith in
    let f : test row k ks ≡ true = ap (λ (r : ℕ). test r k ks) (sym z) ∙ e in
    rw f
finds test row (k ∷ ks) (suc i) h e =
    let z : suc row + i ≡ row + suc i = omega arith in
    let f : any_row test (suc row) ks ≡ true =
    finds test (suc row) ks i (omega arith) (ap (λ (r : ℕ). test r (get_or ks i 0) (drop (suc i) ks)) z ∙ e) in
    rw f (or-true (test row k ks))

pub any_row_means : AnyRowMeans
any_row_means test row kinds =
    (found test row kinds, λ h. finds test row kinds h.place h.within h.passed)
