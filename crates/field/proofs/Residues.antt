-- Products of remainders.
use mathlib.Core.Path.{◌≡◌, sym, ◌∙◌, ap}
use Prim.Native.Nat.{ℕ, ◌+◌, ◌*◌, ◌/◌, ◌%◌}
use native.Mathlib.Nat.{mul_assoc, mul_comm, add-mul, div-add-mod', mul-add-mod_self_right}

pub mod_mul_mod : (a b m : ℕ) → (a % m * b) % m ≡ (a * b) % m
mod_mul_mod a b m = sym (ap (λ (x : ℕ). x % m) split ∙ mul-add-mod_self_right (a / m * b) m (a % m * b))
  where
    split : a * b ≡ a / m * b * m + a % m * b
    split =
        ap (λ (x : ℕ). x * b) (sym (div-add-mod' a m)) ∙ add-mul (a / m * m) (a % m) b
        ∙ ap (λ (x : ℕ). x + a % m * b)
        (mul_assoc (a / m) m b ∙ ap (λ (x : ℕ). a / m * x) (mul_comm m b) ∙ sym (mul_assoc (a / m) b m))

pub mul_mod_mod : (a b m : ℕ) → (a * (b % m)) % m ≡ (a * b) % m
mul_mod_mod a b m =
    ap (λ (x : ℕ). x % m) (mul_comm a (b % m)) ∙ mod_mul_mod b a m ∙ ap (λ (x : ℕ). x % m) (mul_comm b a)
