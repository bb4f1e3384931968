-- Remainders modulo p by adding halves: 2^31 is 1 modulo p.
use Prim.Native.Nat.{ℕ, ◌+◌, ◌*◌, ◌%◌}
use mathlib.Core.Path.{◌≡◌, sym, ◌∙◌, ap}
use native.Mathlib.Nat.{mul-add-mod_self_right}
use native.Mathlib.Omega.{arith}
use Rattle.field.specs.Modulus.{p}

pub folded : (low high : ℕ) → (low + high) % p ≡ (low + high * 2147483648) % p
folded low high = sym (ap (λ (x : ℕ). x % p) split ∙ mul-add-mod_self_right high p (low + high))
  where
    split : low + high * 2147483648 ≡ high * p + (low + high)
    split = omega arith
