-- A numeral digit by digit: the last one behind those of a tenth of the number.
use Prim.Native.Nat.{ℕ, zero, suc, ◌+◌, ◌/◌, ◌%◌, ◌≤◌, ◌<◌}
use mathlib.Core.Path.{◌≡◌, refl, sym, ap}
use mathlib.Core.Bool.{cond}
use mathlib.Core.List.{[], ◌∷◌}
use native.Mathlib.Omega.{arith}
use borrow.Author.Tests.{lt-ltb, le-ltb}
use lib.Dec.{ltb}
use Rattle.decimal.specs.Numeral.{tens, last_digits, size_within, size}
use Rattle.decimal.specs.Claims.{NumeralDigits}
use Rattle.decimal.proofs.Sizes.{size_one}

-- room for one digit more than there are changes nothing
size_room : (f x : ℕ) → x < tens (suc f) → size_within (suc f) x ≡ size_within f x
unfolding size_within
size_room zero x h = rw (lt-ltb x 10 (omega arith))
size_room (suc f) x h = ap (λ (n : ℕ). cond (ltb x 10) 1 (suc n)) (size_room f (x / 10) (omega arith))

size_more : (x : ℕ) → 10 ≤ x → x < tens 10 → size x ≡ suc (size (x / 10))
unfolding size_within
size_more x l h = rw (le-ltb x 10 l) (ap suc (sym (size_room 8 (x / 10) (omega arith))))

pub numeral_digits : NumeralDigits
unfolding last_digits
numeral_digits = record {
  ten_digits_is = refl;
  one = λ x h.
      let e : x % 10 ≡ x = omega arith in
      rw (size_one 9 x h) (ap (λ (d : ℕ). (48 + d) ∷ []) e);
  more = λ x l h. ap (λ (k : ℕ). last_digits k x) (size_more x l h);
}
