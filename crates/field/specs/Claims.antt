-- What is claimed of p and of the arithmetic modulo p; proved in proofs/ (Primality, Euclid, Elements).
use Rattle.std.specs.Prelude.{ℕ, ◌≡◌}
use Rattle.field.specs.Modulus.{p}
use Rattle.field.specs.Primality.{Prime}
use Rattle.field.specs.Arithmetic.{sum, difference, product, inverse, IsInverse}
use Rattle.field.specs.Algebra.{Field}
use Rattle.field.specs.Element.{Element, element, ◌⊕◌, ◌⊗◌, 0ᴱ, 1ᴱ}

-- "That p is prime is proved, not assumed."
abbrev pub PrimeModulus : Type 0
PrimeModulus = Prime p

-- `inverse` gives an inverse of every number, and there is no other.
abbrev pub InverseIs : Type 0
InverseIs = (x : ℕ) → IsInverse x (inverse x)

abbrev pub InverseUnique : Type 0
InverseUnique = (x r s : ℕ) → IsInverse x r → IsInverse x s → r ≡ s

-- The p elements are a field, with the sums and products modulo p; and the arithmetic on plain numbers, which the contracts
-- cite, is this field's on the elements that they stand for.
pub record ElementsField : Type 0 where
  pub field : Field Element
  pub add_is : field.ring.add ≡ ◌⊕◌
  pub mul_is : field.ring.mul ≡ ◌⊗◌
  pub zero_is : field.ring.zero ≡ 0ᴱ
  pub one_is : field.ring.one ≡ 1ᴱ
  pub sums : (a b : ℕ) → element (sum a b) ≡ element a ⊕ element b
  pub products : (a b : ℕ) → element (product a b) ≡ element a ⊗ element b
  pub differences : (a b : ℕ) → element (difference a b) ≡ element a ⊕ field.ring.neg (element b)
  pub inverses : (a : ℕ) → element (inverse a) ≡ field.inv (element a)
