-- Laws that hold in every field: what is not zero may be cancelled, and quotients add up.
use mathlib.Core.Path.{◌≡◌, refl, sym, ◌∙◌, ap, ap₂}
use mathlib.Core.Logic.{◌≢◌}
use mathlib.Core.List.{[], ◌∷◌}
use Rattle.field.specs.Algebra.{CommutativeRing, Field}
use Rattle.field.proofs.Ring.{zero_add, one_mul, mul_zero}
use Rattle.field.proofs.Expression.{A, B, C, D, E, F, 𝟙, ◌:+◌, ◌:*◌, ◌:-◌, Same}
use Rattle.field.proofs.Solver.{solve}

module _ {R : Type 0} (𝓡 : CommutativeRing R) where
  open 𝓡 use {add as ◌⊕◌, neg, zero}

  infixl 65 ◌⊕◌
  pub equal_of_difference_zero : (a b : R) → a ⊕ neg b ≡ zero → a ≡ b
  unfolding Same
  equal_of_difference_zero a b h =
      solve 𝓡 (a ∷ b ∷ []) A ((A :- B) :+ B) refl ∙ ap (λ (z : R). z ⊕ b) h ∙ zero_add 𝓡 b

module _ {R : Type 0} (𝓕 : Field R) where
  open 𝓕 use {ring, inv, mul_inv}
  open ring use {add as ◌⊕◌, mul as ◌⊗◌, neg, zero}

  infixl 65 ◌⊕◌
  infixl 70 ◌⊗◌
  -- no zero divisors
  pub zero_of_product_zero : (a b : R) → a ≢ zero → a ⊗ b ≡ zero → b ≡ zero
  unfolding Same
  zero_of_product_zero a b h e =
      sym (one_mul ring b) ∙ ap (λ (z : R). z ⊗ b) (sym (mul_inv a h))
      ∙ solve ring (a ∷ inv a ∷ b ∷ []) (A :* B :* C) (B :* (A :* C)) refl
      ∙ ap (λ (z : R). inv a ⊗ z) e ∙ mul_zero ring (inv a)

  pub product_nonzero : (a b : R) → a ≢ zero → b ≢ zero → a ⊗ b ≢ zero
  product_nonzero a b h k e = k (zero_of_product_zero a b h e)

  pub difference_nonzero : (a b : R) → a ≢ b → a ⊕ neg b ≢ zero
  difference_nonzero a b h e = h (equal_of_difference_zero ring a b e)

  -- the inverse of a product
  pub inv_product : (b d : R) → b ≢ zero → d ≢ zero → inv (b ⊗ d) ≡ inv b ⊗ inv d
  unfolding Same
  inv_product b d hb hd =
      solve ring (inv (b ⊗ d) ∷ []) A (A :* (𝟙 :* 𝟙)) refl
      ∙ sym (ap₂ (λ (x y : R). inv (b ⊗ d) ⊗ (x ⊗ y)) (mul_inv b hb) (mul_inv d hd))
      ∙ solve ring (b ∷ d ∷ inv b ∷ inv d ∷ inv (b ⊗ d) ∷ []) (E :* (A :* C :* (B :* D))) (A :* B :* E :* (C :* D)) refl
      ∙ ap (λ (x : R). x ⊗ (inv b ⊗ inv d)) (mul_inv (b ⊗ d) (product_nonzero b d hb hd)) ∙ one_mul ring (inv b ⊗ inv d)

  -- (t d + a b) / (b d) = t / b + a / d
  pub quotients : (t b a d : R) → b ≢ zero → d ≢ zero → (t ⊗ d ⊕ a ⊗ b) ⊗ inv (b ⊗ d) ≡ t ⊗ inv b ⊕ a ⊗ inv d
  unfolding Same
  quotients t b a d hb hd =
      ap (λ (x : R). (t ⊗ d ⊕ a ⊗ b) ⊗ x) (inv_product b d hb hd)
      ∙ solve ring (t ∷ b ∷ a ∷ d ∷ inv b ∷ inv d ∷ []) ((A :* D :+ C :* B) :* (E :* F)) (A :* E :* (D :* F) :+ C :* F :* (B :* E)) refl
      ∙ ap₂ (λ (x y : R). t ⊗ inv b ⊗ x ⊕ a ⊗ inv d ⊗ y) (mul_inv d hd) (mul_inv b hb)
      ∙ solve ring (t ⊗ inv b ∷ a ⊗ inv d ∷ []) (A :* 𝟙 :+ B :* 𝟙) (A :+ B) refl
