-- How many digits a number has.
use Prim.Native.Nat.{ℕ, zero, suc, ◌+◌, ◌-◌, ◌*◌, ◌/◌, ◌≤◌, ◌<◌}
use mathlib.Core.Path.{◌≡◌, refl, sym, ◌∙◌}
use mathlib.Core.List.{List, [], ◌∷◌}
use mathlib.Core.Bool.{Bool, true, false, cond}
use native.Mathlib.Omega.{arith}
use borrow.Author.Tests.{lt-ltb, le-ltb, ltb-true, ltb-false}
use lib.ListN.{length, get_or, get_or-append}
use lib.Dec.{ltb}
use Rattle.decimal.specs.Numeral.{tens, last_digits, size_within, value_after}
use Rattle.decimal.proofs.Digits.{Digits, tens_pos, length_digits}

pub size_pos : (f x : ℕ) → 1 ≤ size_within f x
unfolding size_within
size_pos zero x = omega arith
size_pos (suc f) x = by_one_digit (ltb x 10)
  where
    by_one_digit : (t : Bool) → 1 ≤ cond t 1 (suc (size_within f (x / 10)))
    by_one_digit true = omega arith
    by_one_digit false = omega arith

pub size_le : (f x : ℕ) → size_within f x ≤ suc f
unfolding size_within
size_le zero x = omega arith
size_le (suc f) x = by_one_digit (ltb x 10) (size_le f (x / 10))
  where
    by_one_digit : (t : Bool) → size_within f (x / 10) ≤ suc f → cond t 1 (suc (size_within f (x / 10))) ≤ suc (suc f)
    by_one_digit true h = omega arith
    by_one_digit false h = omega arith

pub size_grows : (f x y : ℕ) → x ≤ y → size_within f x ≤ size_within f y
unfolding size_within
size_grows zero x y h = omega arith
size_grows (suc f) x y h = by_one_digit (ltb x 10) (ltb y 10) refl refl (size_grows f (x / 10) (y / 10) (omega arith))
  where
    by_one_digit : (a b : Bool) → ltb x 10 ≡ a → ltb y 10 ≡ b → size_within f (x / 10) ≤ size_within f (y / 10)
        → cond a 1 (suc (size_within f (x / 10))) ≤ cond b 1 (suc (size_within f (y / 10)))
    by_one_digit true true d e g = omega arith
    by_one_digit true false d e g = omega arith
    by_one_digit false true d e g = absurd (omega (arith, ltb-false x 10 d, ltb-true y 10 e))
    by_one_digit false false d e g = omega arith

pub size_bound : (f x : ℕ) → x < tens (suc f) → x < tens (size_within f x)
unfolding size_within
size_bound zero x h = h
size_bound (suc f) x h = by_one_digit (ltb x 10) refl (size_bound f (x / 10) (omega arith))
  where
    by_one_digit : (t : Bool) → ltb x 10 ≡ t → x / 10 < tens (size_within f (x / 10)) → x < tens (cond t 1 (suc (size_within f (x / 10))))
    by_one_digit true e g = omega (arith, ltb-true x 10 e)
    by_one_digit false e g = omega arith

pub size_one : (f x : ℕ) → x < 10 → size_within f x ≡ 1
unfolding size_within
size_one zero x h = refl
size_one (suc f) x h = rw (lt-ltb x 10 h)

-- each digit behind a number that is not 0 makes it longer by one
pub size_value : (ds : List ℕ) (f a : ℕ) → Digits ds → 1 ≤ a → size_within (length ds + f) (value_after a ds) ≡ length ds + size_within f a
unfolding value_after size_within
size_value [] f a h g = let e : 0 + f ≡ f = omega arith in rw e (omega arith)
size_value (d ∷ ds) f a h g =
    let e : suc (length ds) + f ≡ length ds + suc f = omega arith in
    let q : (a * 10 + (d - 48)) / 10 ≡ a = omega arith in
    rw e
    (size_value ds (suc f) (a * 10 + (d - 48)) h.1 (omega arith)
    ∙ rw (le-ltb (a * 10 + (d - 48)) 10 (omega arith), q) (omega arith))

-- no leading zero but that of 0
pub first_digit : (f x : ℕ) → 1 ≤ x → x < tens (suc f) → get_or (last_digits (size_within f x) x) 0 0 ≡ 48 → ⊥
unfolding size_within last_digits
first_digit zero x h l = λ e. omega arith
first_digit (suc f) x h l = by_one_digit (ltb x 10) refl (first_digit f (x / 10))
  where
    by_one_digit : (t : Bool) → ltb x 10 ≡ t → (1 ≤ x / 10 → x / 10 < tens (suc f) → get_or (last_digits (size_within f (x / 10)) (x / 10)) 0 0 ≡ 48 → ⊥)
        → get_or (last_digits (cond t 1 (suc (size_within f (x / 10)))) x) 0 0 ≡ 48 → ⊥
    by_one_digit true e g z = omega (arith, ltb-true x 10 e)
    by_one_digit false e g z =
        let b = ltb-false x 10 e in
        let j : ℕ = size_within f (x / 10) in
        let n : 0 < length (last_digits j (x / 10)) = omega (arith, length_digits j (x / 10), size_pos f (x / 10)) in
        g (omega arith) (omega arith) (sym (get_or-append (last_digits j (x / 10)) _ 0 0 n) ∙ z)

-- a number of so many places has so many digits
pub size_places : (f k x : ℕ) → k ≤ f → tens k ≤ x → x < tens (suc k) → size_within f x ≡ suc k
unfolding size_within
size_places f zero x h l u = size_one f x (omega arith)
size_places zero (suc k) x h l u = absurd (omega arith)
size_places (suc f) (suc k) x h l u =
    rw (le-ltb x 10 (omega (arith, tens_pos k))) (omega (arith, size_places f k (x / 10) (omega arith) (omega arith) (omega arith)))
