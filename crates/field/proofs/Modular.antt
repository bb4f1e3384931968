-- Laws of the arithmetic on plain numbers: every result is an element, and order and grouping do not matter.
use mathlib.Core.Path.{◌≡◌, sym, ◌∙◌, ap}
use Prim.Native.Nat.{ℕ, ◌+◌, ◌*◌, ◌-◌, ◌/◌, ◌%◌, ◌<◌}
use native.Mathlib.Nat.{div-add-mod', mul-add-mod_self_right, mod-lt, mod-eq_of_lt, mod-add-mod, add-mod-mod, mod_self, add_assoc, add_comm, zero-add, mul-one, mul_comm, mul_assoc, mul-add}
use native.Mathlib.Omega.{arith}
use lib.Dec.{lit<}
use Rattle.field.specs.Modulus.{p}
use Rattle.field.specs.Arithmetic.{sum, difference, product}
use Rattle.field.proofs.Residues.{mod_mul_mod, mul_mod_mod}

pub sum_below : (a b : ℕ) → sum a b < p
unfolding sum
sum_below a b = mod-lt (a + b) (lit< tt)

pub difference_below : (a b : ℕ) → difference a b < p
unfolding difference
difference_below a b = mod-lt (a + (p - b % p)) (lit< tt)

pub product_below : (a b : ℕ) → product a b < p
unfolding product
product_below a b = mod-lt (a * b) (lit< tt)

pub sum_comm : (a b : ℕ) → sum a b ≡ sum b a
unfolding sum
sum_comm a b = ap (λ (z : ℕ). z % p) (add_comm a b)

pub sum_assoc : (a b c : ℕ) → sum (sum a b) c ≡ sum a (sum b c)
unfolding sum
sum_assoc a b c =
    mod-add-mod (a + b) p c ∙ ap (λ (z : ℕ). z % p) (add_assoc a b c) ∙ sym (add-mod-mod a (b + c) p)

pub sum_zero : (x : ℕ) → x < p → sum 0 x ≡ x
unfolding sum
sum_zero x h = ap (λ (z : ℕ). z % p) (zero-add x) ∙ mod-eq_of_lt h

pub product_comm : (a b : ℕ) → product a b ≡ product b a
unfolding product
product_comm a b = ap (λ (z : ℕ). z % p) (mul_comm a b)

pub product_assoc : (a b c : ℕ) → product (product a b) c ≡ product a (product b c)
unfolding product
product_assoc a b c =
    mod_mul_mod (a * b) c p ∙ ap (λ (z : ℕ). z % p) (mul_assoc a b c) ∙ sym (mul_mod_mod a (b * c) p)

pub product_one : (x : ℕ) → x < p → product x 1 ≡ x
unfolding product
product_one x h = ap (λ (z : ℕ). z % p) (mul-one x) ∙ mod-eq_of_lt h

pub product_mod_left : (x y : ℕ) → product (x % p) y ≡ product x y
unfolding product
product_mod_left x y = mod_mul_mod x y p

pub product_sum_lem : (a b c : ℕ) → product a (sum b c) ≡ sum (product a b) (product a c)
unfolding sum product
product_sum_lem a b c =
    mul_mod_mod a (b + c) p ∙ ap (λ (z : ℕ). z % p) (mul-add a b c)
    ∙ sym (mod-add-mod (a * b) p (a * c % p) ∙ add-mod-mod (a * b) (a * c) p)

pub sum_opposite : (x : ℕ) → x < p → sum x ((p - x) % p) ≡ 0
unfolding sum
sum_opposite x h = add-mod-mod x (p - x) p ∙ ap (λ (y : ℕ). y % p) whole ∙ mod_self p
  where
    whole : x + (p - x) ≡ p
    whole = omega arith

-- one remainder is enough: of a sum with a whole product, and of a difference to which 3p is added

pub add_product_by_one : (a b c x : ℕ) → x ≡ a * b → (x + c) % p ≡ sum c (product a b)
unfolding sum product
add_product_by_one a b c x e = ap (λ (y : ℕ). y % p) (add_comm x c ∙ ap (λ (y : ℕ). c + y) e) ∙ sym (add-mod-mod c (a * b) p)

pub difference_by_one : (a b : ℕ) → b < 4294967296 → (a + (6442450941 - b)) % p ≡ difference a b
unfolding difference
difference_by_one a b h = ap (λ (x : ℕ). x % p) split ∙ mul-add-mod_self_right (2 - b / p) p (a + (p - b % p))
  where
    -- b is p times at most 2, and a remainder
    split : a + (6442450941 - b) ≡ (2 - b / p) * p + (a + (p - b % p))
    split =
        let b-below : b % p < p = mod-lt b (omega arith) in
        omega (arith, div-add-mod' b p)
