-- The p elements are a field, and arithmetic on plain numbers is arithmetic on the elements that they stand for.
use mathlib.Core.Path.{◌≡◌, refl, sym, ◌∙◌, ap}
use mathlib.Core.Logic.{◌≢◌}
use Prim.Native.Nat.{ℕ, ◌+◌, ◌*◌, ◌-◌, ◌%◌, ◌<◌}
use native.Mathlib.Nat.{mod-eq_of_lt, mod-mod, add-mod}
use native.Mathlib.Fin
use native.Mathlib.Decide.{ℕ_discrete}
use native.Mathlib.Omega.{arith}
use Rattle.field.specs.Modulus.{p}
use Rattle.field.specs.Arithmetic.{sum, difference, product, inverse, IsInverse}
use Rattle.field.specs.Algebra.{CommutativeRing, Field}
use Rattle.field.specs.Element.{Element, element, ◌⊕◌, ◌⊗◌, negative, reciprocal, 0ᴱ, 1ᴱ}
use Rattle.field.specs.Claims.{ElementsField}
use Rattle.field.proofs.Ring.{zero_add}
use Rattle.field.proofs.Residues.{mod_mul_mod, mul_mod_mod}
use Rattle.field.proofs.Modular.{sum_comm, sum_assoc, sum_zero, sum_opposite, product_comm, product_assoc, product_one, product_sum_lem}
use Rattle.field.proofs.Euclid.{inverse_is, inverse_unique}

-- the elements' numbers
pub element_path : (x y : Element) → x.0 ≡ y.0 → x ≡ y
element_path x y e = Fin.val_path e

pub number_below : (x : ℕ) → x < p → (element x).0 ≡ x
unfolding element
number_below x h = mod-eq_of_lt h

pub element_of_number : (x : Element) → element x.0 ≡ x
element_of_number x = element_path (element x.0) x (number_below x.0 x.1)

pub element_injective : (x y : ℕ) → x < p → y < p → element x ≡ element y → x ≡ y
element_injective x y h k e =
    sym (number_below x h) ∙ ap (λ (z : Element). z.0) e ∙ number_below y k

-- the field
pub plus_assoc : (a b c : Element) → a ⊕ b ⊕ c ≡ a ⊕ (b ⊕ c)
unfolding ◌⊕◌ element sum
plus_assoc a b c = element_path _ _ (sum_assoc a.0 b.0 c.0)

pub plus_comm : (a b : Element) → a ⊕ b ≡ b ⊕ a
unfolding ◌⊕◌ element sum
plus_comm a b = element_path _ _ (sum_comm a.0 b.0)

pub plus_zero : (a : Element) → a ⊕ 0ᴱ ≡ a
unfolding ◌⊕◌ 0ᴱ element sum
plus_zero a = element_path _ _ (sum_comm a.0 0 ∙ sum_zero a.0 a.1)

pub plus_negative : (a : Element) → a ⊕ negative a ≡ 0ᴱ
unfolding ◌⊕◌ 0ᴱ negative element sum
plus_negative a = element_path _ _ (sum_opposite a.0 a.1)

pub times_assoc : (a b c : Element) → a ⊗ b ⊗ c ≡ a ⊗ (b ⊗ c)
unfolding ◌⊗◌ element product
times_assoc a b c = element_path _ _ (product_assoc a.0 b.0 c.0)

pub times_comm : (a b : Element) → a ⊗ b ≡ b ⊗ a
unfolding ◌⊗◌ element product
times_comm a b = element_path _ _ (product_comm a.0 b.0)

pub times_one : (a : Element) → a ⊗ 1ᴱ ≡ a
unfolding ◌⊗◌ 1ᴱ element product
times_one a = element_path _ _ (product_one a.0 a.1)

pub times_plus : (a b c : Element) → a ⊗ (b ⊕ c) ≡ a ⊗ b ⊕ a ⊗ c
unfolding ◌⊕◌ ◌⊗◌ element sum product
times_plus a b c = element_path _ _ (product_sum_lem a.0 b.0 c.0)

pub times_reciprocal : (a : Element) → a ≢ 0ᴱ → a ⊗ reciprocal a ≡ 1ᴱ
unfolding ◌⊗◌ reciprocal 0ᴱ 1ᴱ element product
times_reciprocal a h =
    element_path _ _
    (mul_mod_mod a.0 (inverse a.0) p ∙ (inverse_is a.0).times (positive (ℕ_discrete (a.0 % p) 0)))
  where
    positive : Dec (a.0 % p ≡ 0) → 0 < a.0 % p
    positive (yes e) = absurd (h (element_path a 0ᴱ (sym (mod-eq_of_lt a.1) ∙ e)))
    positive (no f) = omega arith

pub one_ne_zero : 1ᴱ ≢ 0ᴱ
unfolding 0ᴱ 1ᴱ element
one_ne_zero e = omega (arith, ap (λ (z : Element). z.0) e)

abbrev pub 𝓡 : CommutativeRing Element
𝓡 = record {
  add = ◌⊕◌;
  mul = ◌⊗◌;
  neg = negative;
  zero = 0ᴱ;
  one = 1ᴱ;
  add_assoc = plus_assoc;
  add_comm = plus_comm;
  add_zero = plus_zero;
  add_neg = plus_negative;
  mul_assoc = times_assoc;
  mul_comm = times_comm;
  mul_one = times_one;
  mul_add = times_plus;
}

abbrev pub elements : Field Element
elements = record { ring = 𝓡; inv = reciprocal; mul_inv = times_reciprocal; one_ne_zero = one_ne_zero }

-- the bridge: each operation on numbers is the field's on their elements
pub element_zero : element 0 ≡ 0ᴱ
unfolding 0ᴱ
element_zero = refl

pub element_one : element 1 ≡ 1ᴱ
unfolding 1ᴱ
element_one = refl

pub element_sum : (a b : ℕ) → element (sum a b) ≡ element a ⊕ element b
unfolding ◌⊕◌ element sum
element_sum a b = element_path _ _ (mod-mod (a + b) p ∙ add-mod a b p)

pub element_product : (a b : ℕ) → element (product a b) ≡ element a ⊗ element b
unfolding ◌⊗◌ element product
element_product a b = element_path _ _ (mod-mod (a * b) p ∙ sym (mod_mul_mod a (b % p) p ∙ mul_mod_mod a b p))

pub element_difference : (a b : ℕ) → element (difference a b) ≡ element a ⊕ negative (element b)
unfolding ◌⊕◌ negative element difference
element_difference a b = element_path _ _ (mod-mod (a + (p - b % p)) p ∙ add-mod a (p - b % p) p)

-- a plain sum, with no remainder taken
pub element_add : (a b : ℕ) → element (a + b) ≡ element a ⊕ element b
unfolding element sum
element_add a b = element_path (element (a + b)) (element (sum a b)) (sym (mod-mod (a + b) p)) ∙ element_sum a b

-- 0 - n
pub element_negative : (n : ℕ) → element (difference 0 n) ≡ negative (element n)
element_negative n =
    element_difference 0 n ∙ ap (λ (u : Element). u ⊕ negative (element n)) element_zero ∙ zero_add 𝓡 (negative (element n))

pub element_inverse : (a : ℕ) → element (inverse a) ≡ reciprocal (element a)
unfolding reciprocal element product
element_inverse a = ap element (inverse_unique a (inverse a) (inverse (a % p)) (inverse_is a) reduced)
  where
    reduced : IsInverse a (inverse (a % p))
    reduced = record {
      below = (inverse_is (a % p)).below;
      of_zero = λ e. (inverse_is (a % p)).of_zero (mod-mod a p ∙ e);
      times = λ h. sym (mod_mul_mod a (inverse (a % p)) p) ∙ (inverse_is (a % p)).times (rw mod-mod h);
    }

pub elements_field : ElementsField
elements_field = record {
  field = elements;
  add_is = refl;
  mul_is = refl;
  zero_is = refl;
  one_is = refl;
  sums = element_sum;
  products = element_product;
  differences = element_difference;
  inverses = element_inverse;
}
