-- The bound on roots, over any field: as many distinct roots as coefficients, and all coefficients are zero. So the values at
-- as many distinct points determine the coefficients.
use mathlib.Core.Path.{◌≡◌, refl, sym, ◌∙◌, ap, ap₂}
use mathlib.Core.Logic.{◌≢◌}
use mathlib.Core.List.{List, [], ◌∷◌}
use Prim.Native.Nat.{◌≤◌, ◌<◌}
use native.Mathlib.Nat.{suc_inj, not-suc-le-zero}
use native.Mathlib.Decide.{dec_le}
use native.Mathlib.Omega.{arith}
use lib.ListN.{length}
use Rattle.field.specs.Algebra.{Field}
use Rattle.field.proofs.Ring.{zero_add, mul_zero}
use Rattle.field.proofs.Expression.{A, B, 𝟙, ◌:+◌, ◌:*◌, ◌:-◌, :-◌, Same}
use Rattle.field.proofs.Solver.{solve}
use Rattle.field.proofs.Fields.{equal_of_difference_zero, zero_of_product_zero, difference_nonzero}
use Rattle.poly.specs.Counting.{All, Distinct}
use Rattle.poly.proofs.Lists.{all_map, all_zip}
use Rattle.poly.proofs.Coefficients.{ev, plus, times, quotient, ev_plus, ev_times, ev_zeros, length_plus, length_times, length_quotient, division}

module _ {R : Type 0} (𝓕 : Field R) where
  open 𝓕 use {ring}
  open ring use {add as ◌⊕◌, mul as ◌⊗◌, neg, zero, one, add_zero, add_neg}

  infixl 65 ◌⊕◌
  infixl 70 ◌⊗◌
  abbrev AllZero : List R → Type 0
  AllZero f = All (λ c. c ≡ zero) f

  -- the other roots of a polynomial are roots of its quotient
  root_of_quotient : (r c : R) (cs : List R) → ev ring (c ∷ cs) r ≡ zero → (s : R) → ev ring (c ∷ cs) s ≡ zero → s ≢ r
      → ev ring (quotient ring r cs) s ≡ zero
  root_of_quotient r c cs z s e ne =
      zero_of_product_zero 𝓕 (s ⊕ neg r) (ev ring (quotient ring r cs) s) (difference_nonzero 𝓕 s r ne)
      (sym (zero_add ring _) ∙ ap (λ (y : R). y ⊕ (s ⊕ neg r) ⊗ ev ring (quotient ring r cs) s) (sym z)
      ∙ sym (division ring r s c cs) ∙ e)

  head_zero : (c x : R) (cs : List R) → AllZero cs → ev ring (c ∷ cs) x ≡ zero → c ≡ zero
  unfolding ev
  head_zero c x cs z e =
      sym (ap (λ (y : R). c ⊕ x ⊗ y) (ev_zeros ring cs z x) ∙ ap (λ (y : R). c ⊕ y) (mul_zero ring x) ∙ add_zero c) ∙ e

  zero_of_quotient_zero : (r : R) (f : List R) → AllZero (quotient ring r f) → AllZero f
  unfolding quotient
  zero_of_quotient_zero r [] z = tt
  zero_of_quotient_zero r (d ∷ ds) z = let t = zero_of_quotient_zero r ds z.1 in (head_zero d r ds t z.0, t)

  pub zero_of_roots : (rs : List R) → Distinct rs → (f : List R) → length f ≤ length rs → All (λ r. ev ring f r ≡ zero) rs
      → All (λ c. c ≡ zero) f
  zero_of_roots [] d [] l z = tt
  zero_of_roots [] d (c ∷ cs) l z = absurd (not-suc-le-zero l)
  zero_of_roots (r ∷ rs) d [] l z = tt
  zero_of_roots (r ∷ rs) d (c ∷ cs) l z =
      let others = all_zip (root_of_quotient r c cs z.0) rs z.1 d.0 in
      let q = zero_of_roots rs d.1 (quotient ring r cs) (omega (arith, length_quotient ring r cs)) others in
      let t = zero_of_quotient_zero r cs q in
      (head_zero c r cs t z.0, t)

  -- at most m - 1 distinct roots, unless all m coefficients are zero
  pub roots_few : (rs : List R) → Distinct rs → (f : List R) → All (λ r. ev ring f r ≡ zero) rs → (AllZero f → ⊥)
      → length rs < length f
  roots_few rs d f z n = go (dec_le (length f) (length rs))
    where
      go : Dec (length f ≤ length rs) → length rs < length f
      go (yes l) = absurd (n (zero_of_roots rs d f l z))
      go (no l) = omega arith

  -- the difference of two polynomials
  minus : List R → List R → List R
  minus f g = plus ring f (times ring (neg one) g)

  ev_minus : (f g : List R) (x : R) → ev ring (minus f g) x ≡ ev ring f x ⊕ neg (ev ring g x)
  unfolding minus Same
  ev_minus f g x =
      ev_plus ring f (times ring (neg one) g) x
      ∙ ap (λ (z : R). ev ring f x ⊕ z)
      (ev_times ring (neg one) g x ∙ solve ring (ev ring g x ∷ []) (:- 𝟙 :* A) (:- A) refl)

  zero_of_agreement : (rs : List R) → Distinct rs → (f g : List R) → length f ≤ length rs → length g ≤ length rs
      → All (λ r. ev ring f r ≡ ev ring g r) rs → AllZero (minus f g)
  unfolding minus
  zero_of_agreement rs d f g lf lg h =
      zero_of_roots rs d (minus f g)
      (length_plus ring f (times ring (neg one) g) (length rs) lf (omega (arith, length_times ring (neg one) g)))
      (all_map (λ s e. ev_minus f g s ∙ ap (λ (y : R). y ⊕ neg (ev ring g s)) e ∙ add_neg (ev ring g s)) rs h)

  -- equal values at as many points as coefficients: equal values everywhere
  pub agree : (rs : List R) → Distinct rs → (f g : List R) → length f ≤ length rs → length g ≤ length rs
      → All (λ r. ev ring f r ≡ ev ring g r) rs → (x : R) → ev ring f x ≡ ev ring g x
  agree rs d f g lf lg h x =
      equal_of_difference_zero ring (ev ring f x) (ev ring g x)
      (sym (ev_minus f g x) ∙ ev_zeros ring (minus f g) (zero_of_agreement rs d f g lf lg h) x)

  equal_of_minus_zero : (f g : List R) → length f ≡ length g → AllZero (minus f g) → f ≡ g
  unfolding minus plus times Same
  equal_of_minus_zero [] [] e z = refl
  equal_of_minus_zero [] (d ∷ ds) e z = absurd (omega arith)
  equal_of_minus_zero (c ∷ cs) [] e z = absurd (omega arith)
  equal_of_minus_zero (c ∷ cs) (d ∷ ds) e z =
      ap₂ ◌∷◌
      (equal_of_difference_zero ring c d (solve ring (c ∷ d ∷ []) (A :- B) (A :+ :- 𝟙 :* B) refl ∙ z.0))
      (equal_of_minus_zero cs ds (suc_inj e) z.1)

  -- and, where the lengths are equal, equal coefficients
  pub equal_of_agreement : (rs : List R) → Distinct rs → (f g : List R) → length f ≡ length g → length f ≤ length rs
      → All (λ r. ev ring f r ≡ ev ring g r) rs → f ≡ g
  equal_of_agreement rs d f g e l h =
      equal_of_minus_zero f g e (zero_of_agreement rs d f g l (omega arith) h)
