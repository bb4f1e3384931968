-- Runs of digits: how many there are, and what they say.
use Prim.Native.Nat.{ℕ, zero, suc, ◌+◌, ◌-◌, ◌*◌, ◌/◌, ◌%◌, ◌≤◌, ◌<◌}
use mathlib.Core.Path.{◌≡◌, refl, sym, ◌∙◌}
use mathlib.Core.List.{List, [], ◌∷◌, ◌++◌, append_assoc, append-nil}
use mathlib.Core.Bool.{Bool, true, false, ◌&&◌, cond}
use native.Mathlib.Omega.{arith}
use borrow.Author.Tests.{le-leb, leb-true}
use lib.ListN.{length, take, length-append}
use lib.Dec.{leb}
use Rattle.decimal.specs.Numeral.{tens, last_digits, is_digit_of, leading, value_after}
pub use Rattle.decimal.specs.Between.{Digits}

pub and_true : (a b : Bool) → (a && b) ≡ true → (a ≡ true) × (b ≡ true)
and_true true b e = (refl, e)
and_true false b e = (e, cc)

pub is_digit : (b : ℕ) → 48 ≤ b → b ≤ 57 → is_digit_of b ≡ true
is_digit b h g = rw (le-leb 48 b h, le-leb b 57 g)

pub digit_is : (b : ℕ) → is_digit_of b ≡ true → (48 ≤ b) × (b ≤ 57)
digit_is b e = let h = and_true (leb 48 b) (leb b 57) e in (leb-true 48 b h.0, leb-true b 57 h.1)

pub tens_grow : (k m : ℕ) → tens k ≤ tens (m + k)
tens_grow k zero = let e : 0 + k ≡ k = omega arith in rw e (omega arith)
tens_grow k (suc m) = let e : suc m + k ≡ suc (m + k) = omega arith in rw e (omega (arith, tens_grow k m))

pub tens_pos : (k : ℕ) → 0 < tens k
tens_pos zero = omega arith
tens_pos (suc k) = omega (arith, tens_pos k)

-- how many
pub length_digits : (k x : ℕ) → length (last_digits k x) ≡ k
unfolding last_digits
length_digits zero x = refl
length_digits (suc k) x = simp length-append (omega (arith, length_digits k (x / 10)))

digits_snoc : (ds : List ℕ) (d : ℕ) → Digits ds → 48 ≤ d → d ≤ 57 → Digits (ds ++ (d ∷ []))
digits_snoc [] d h g l = ((g, l), tt)
digits_snoc (e ∷ ds) d h g l = (h.0, digits_snoc ds d h.1 g l)

pub digits_are_digits : (k x : ℕ) → Digits (last_digits k x)
unfolding last_digits
digits_are_digits zero x = tt
digits_are_digits (suc k) x =
    digits_snoc (last_digits k (x / 10)) (48 + x % 10) (digits_are_digits k (x / 10)) (omega arith) (omega arith)

pub leading_append : (ds rest : List ℕ) → Digits ds → leading (ds ++ rest) ≡ length ds + leading rest
unfolding leading
leading_append [] rest h = omega arith
leading_append (d ∷ ds) rest h = rw (is_digit d h.0.0 h.0.1) (omega (arith, leading_append ds rest h.1))

pub leading_le : (s : List ℕ) → leading s ≤ length s
unfolding leading
leading_le [] = omega arith
leading_le (b ∷ s) = by_digit (is_digit_of b) (leading_le s)
  where
    by_digit : (t : Bool) → leading s ≤ length s → cond t (suc (leading s)) 0 ≤ suc (length s)
    by_digit true h = omega arith
    by_digit false h = omega arith

pub leading_are_digits : (s : List ℕ) → Digits (take (leading s) s)
unfolding leading
leading_are_digits [] = tt
leading_are_digits (b ∷ s) = by_digit (is_digit_of b) refl (leading_are_digits s)
  where
    by_digit : (t : Bool) → is_digit_of b ≡ t → Digits (take (leading s) s) → Digits (take (cond t (suc (leading s)) 0) (b ∷ s))
    by_digit true e h = (digit_is b e, h)
    by_digit false e h = tt

-- what they say
value_snoc : (a : ℕ) (ds : List ℕ) (d : ℕ) → value_after a (ds ++ (d ∷ [])) ≡ value_after a ds * 10 + (d - 48)
unfolding value_after
value_snoc a [] d = refl
value_snoc a (e ∷ ds) d = value_snoc (a * 10 + (e - 48)) ds d

pub value_digits : (k x : ℕ) → x < tens k → value_after 0 (last_digits k x) ≡ x
unfolding value_after last_digits
value_digits zero x h = omega arith
value_digits (suc k) x h =
    value_snoc 0 (last_digits k (x / 10)) (48 + x % 10) ∙ omega (arith, value_digits k (x / 10) (omega arith))

-- digits behind a number are the digits of what they say together
pub digits_value : (ds : List ℕ) (k a : ℕ) → Digits ds → last_digits (length ds + k) (value_after a ds) ≡ last_digits k a ++ ds
unfolding value_after last_digits
digits_value [] k a h = let e : 0 + k ≡ k = omega arith in rw e (sym (append-nil (last_digits k a)))
digits_value (d ∷ ds) k a h =
    let e : suc (length ds) + k ≡ length ds + suc k = omega arith in
    let q : (a * 10 + (d - 48)) / 10 ≡ a = omega arith in
    let r : 48 + (a * 10 + (d - 48)) % 10 ≡ d = omega arith in
    rw e (digits_value ds (suc k) (a * 10 + (d - 48)) h.1 ∙ rw (q, r) (append_assoc (last_digits k a) (d ∷ []) ds))

pub value_below : (ds : List ℕ) (a k : ℕ) → Digits ds → a < tens k → value_after a ds < tens (length ds + k)
unfolding value_after
value_below [] a k h l = let e : 0 + k ≡ k = omega arith in rw e l
value_below (d ∷ ds) a k h l =
    let e : suc (length ds) + k ≡ length ds + suc k = omega arith in
    rw e (value_below ds (a * 10 + (d - 48)) (suc k) h.1 (omega arith))
