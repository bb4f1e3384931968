-- How many digits a number has, and the loop that writes them from the last to the first.
use Prim.Native.Nat.{ℕ, zero, suc, ◌+◌, ◌-◌, ◌*◌, ◌/◌, ◌%◌, ◌≤◌, ◌<◌}
use mathlib.Core.Path.{◌≡◌, refl, sym, ◌∙◌}
use mathlib.Core.List.{List, [], ◌∷◌, ◌++◌, append_assoc, append-nil}
use mathlib.Core.Bool.{Bool, true, false, cond}
use native.Mathlib.Omega.{arith}
use borrow.Author.Tests.{lt-ltb, le-ltb, ltb-true, ltb-false}
use lib.ListN.{length, set, drop, length-set}
use lib.Seq.{drop-cons, get_or-set_same, drop-set-lt, drop-length}
use lib.Dec.{ltb}
use Rattle.decimal.specs.Numeral.{last_digits, size_within, size}
use Rattle.decimal.specs.Between.{reached}
use Rattle.decimal.proofs.Sizes.{size_places}

-- how many of f powers of ten from b on a number reaches
abbrev above : ℕ → ℕ → ℕ → ℕ
above zero b x = 0
above (suc f) b x = reached x b + above f (10 * b) x

above_none : (f b x : ℕ) → x < b → above f b x ≡ 0
above_none zero b x h = refl
above_none (suc f) b x h = rw (lt-ltb x b h) (omega (arith, above_none f (10 * b) x (omega arith)))

reached_tenth : (b x : ℕ) → reached x (10 * b) ≡ reached (x / 10) b
reached_tenth b x = by_test (ltb (x / 10) b) refl
  where
    by_test : (t : Bool) → ltb (x / 10) b ≡ t → reached x (10 * b) ≡ cond t 0 1
    by_test true e = rw (lt-ltb x (10 * b) (omega (arith, ltb-true (x / 10) b e)))
    by_test false e = rw (le-ltb x (10 * b) (omega (arith, ltb-false (x / 10) b e)))

above_tenth : (f b x : ℕ) → above f (10 * b) x ≡ above f b (x / 10)
above_tenth zero b x = refl
above_tenth (suc f) b x = rw (reached_tenth b x, above_tenth f (10 * b) x)

size_above : (f x : ℕ) → size_within f x ≡ 1 + above f 10 x
unfolding size_within
size_above zero x = refl
size_above (suc f) x = by_test (ltb x 10) refl (size_above f (x / 10))
  where
    by_test : (t : Bool) → ltb x 10 ≡ t → size_within f (x / 10) ≡ 1 + above f 10 (x / 10) → cond t 1 (suc (size_within f (x / 10))) ≡ 1 + (cond t 0 1 + above f 100 x)
    by_test true e g = omega (arith, above_none f 100 x (omega (arith, ltb-true x 10 e)))
    by_test false e g = omega (arith, above_tenth f 10 x)

pub size_counted : (x a b c d e f g h i : ℕ) → a ≡ reached x 10 → b ≡ reached x 100 → c ≡ reached x 1000 → d ≡ reached x 10000
    → e ≡ reached x 100000 → f ≡ reached x 1000000 → g ≡ reached x 10000000 → h ≡ reached x 100000000 → i ≡ reached x 1000000000
    → 1 + a + b + c + d + (e + f + g) + h + i ≡ size x
size_counted x a b c d e f g h i p q r s t u v w z = omega (arith, size_above 9 x)

pub nine_places : (x : ℕ) → 100000000 ≤ x → x < 1000000000 → 9 ≡ size x
nine_places x h g = sym (size_places 9 8 x (omega arith) h g)

pub ten_places : (x : ℕ) → 1000000000 ≤ x → x < 4294967296 → 10 ≡ size x
ten_places x h g = sym (size_places 9 9 x (omega arith) h (omega arith))

-- the n last digits of x: those before i are the last digits of y, and the others stand in the list
module _ (n x : ℕ) (l : List ℕ) (i y v : ℕ) where
  pub digits_start : i ≡ length l → n ≡ length l → x ≡ y → last_digits i y ++ drop i l ≡ last_digits n x
  digits_start a b c = rw (a, b, c, drop-length l) (append-nil (last_digits (length l) y))

  pub digits_more : 0 < i → i ≤ n → length l ≡ n → v ≡ 48 + y % 10 → last_digits i y ++ drop i l ≡ last_digits n x
      → last_digits (i - 1) (y / 10) ++ drop (i - 1) (set l (i - 1) v) ≡ last_digits n x
  unfolding last_digits
  digits_more p h g e q =
      let j : ℕ = i - 1 in
      let k : i ≡ suc j = omega arith in
      let w : j < length l = omega arith in
      let w' : j < length (set l j v) = rw (length-set l j v) w in
      let a : drop j (set l j v) ≡ (48 + y % 10) ∷ drop (suc j) l =
      drop-cons (set l j v) j 0 w' ∙ rw (get_or-set_same l j v 0 w, drop-set-lt (suc j) l j v (omega arith), e) in
      rw a (sym (append_assoc (last_digits j (y / 10)) ((48 + y % 10) ∷ []) (drop (suc j) l)) ∙ (rw k at q))

  pub digits_end : i ≤ 0 → last_digits i y ++ drop i l ≡ last_digits n x → l ≡ last_digits n x
  unfolding last_digits
  digits_end h q = let z : i ≡ 0 = omega arith in rw z at q
