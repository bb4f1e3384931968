-- What a commutative ring and a field are.
use Rattle.std.specs.Prelude.{◌≡◌, ◌≢◌}

pub record CommutativeRing (R : Type 0) : Type 0 where
  pub add : R → R → R
  pub mul : R → R → R
  pub neg : R → R
  pub zero : R
  pub one : R
  pub add_assoc : (a b c : R) → add (add a b) c ≡ add a (add b c)
  pub add_comm : (a b : R) → add a b ≡ add b a
  pub add_zero : (a : R) → add a zero ≡ a
  pub add_neg : (a : R) → add a (neg a) ≡ zero
  pub mul_assoc : (a b c : R) → mul (mul a b) c ≡ mul a (mul b c)
  pub mul_comm : (a b : R) → mul a b ≡ mul b a
  pub mul_one : (a : R) → mul a one ≡ a
  pub mul_add : (a b c : R) → mul a (add b c) ≡ add (mul a b) (mul a c)

-- `inv` is total, so that what is defined with it needs no side condition; its value at zero is free.
pub record Field (R : Type 0) : Type 0 where
  pub ring : CommutativeRing R
  pub inv : R → R
  pub mul_inv : (a : R) → a ≢ ring.zero → ring.mul a (inv a) ≡ ring.one
  pub one_ne_zero : ring.one ≢ ring.zero
