-- Laws that hold in every commutative ring.
use mathlib.Core.Path.{◌≡◌, sym, ◌∙◌, ap, ap₂}
use Rattle.field.specs.Algebra.{CommutativeRing}

module _ {R : Type 0} (𝓡 : CommutativeRing R) where
  open 𝓡 use {add as ◌⊕◌, mul as ◌⊗◌, neg, zero, one, add_assoc, add_comm, add_zero, add_neg, mul_assoc, mul_comm, mul_one, mul_add}

  infixl 65 ◌⊕◌
  infixl 70 ◌⊗◌
  pub zero_add : (a : R) → zero ⊕ a ≡ a
  zero_add a = add_comm zero a ∙ add_zero a

  pub one_mul : (a : R) → one ⊗ a ≡ a
  one_mul a = mul_comm one a ∙ mul_one a

  pub add_mul : (a b c : R) → (a ⊕ b) ⊗ c ≡ a ⊗ c ⊕ b ⊗ c
  add_mul a b c = mul_comm (a ⊕ b) c ∙ mul_add c a b ∙ ap₂ ◌⊕◌ (mul_comm c a) (mul_comm c b)

  pub add_left_comm : (a b c : R) → a ⊕ (b ⊕ c) ≡ b ⊕ (a ⊕ c)
  add_left_comm a b c = sym (add_assoc a b c) ∙ ap (λ (x : R). x ⊕ c) (add_comm a b) ∙ add_assoc b a c

  pub mul_left_comm : (a b c : R) → a ⊗ (b ⊗ c) ≡ b ⊗ (a ⊗ c)
  mul_left_comm a b c = sym (mul_assoc a b c) ∙ ap (λ (x : R). x ⊗ c) (mul_comm a b) ∙ mul_assoc b a c

  pub add_cancel : (a b c : R) → a ⊕ c ≡ b ⊕ c → a ≡ b
  add_cancel a b c h = sym (off a) ∙ ap (λ (x : R). x ⊕ neg c) h ∙ off b
    where
      off : (x : R) → (x ⊕ c) ⊕ neg c ≡ x
      off x = add_assoc x c (neg c) ∙ ap (λ (y : R). x ⊕ y) (add_neg c) ∙ add_zero x

  pub mul_zero : (a : R) → a ⊗ zero ≡ zero
  mul_zero a =
      add_cancel (a ⊗ zero) zero (a ⊗ zero)
      (sym (mul_add a zero zero) ∙ ap (λ (x : R). a ⊗ x) (add_zero zero) ∙ sym (zero_add (a ⊗ zero)))

  pub zero_mul : (a : R) → zero ⊗ a ≡ zero
  zero_mul a = mul_comm zero a ∙ mul_zero a
