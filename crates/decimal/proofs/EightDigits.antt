-- Eight bytes in one number: the test that each is a digit, and the bytes of a line that they are.
use Prim.Native.Nat.{ℕ, zero, suc, ◌+◌, ◌-◌, ◌*◌, ◌/◌, ◌%◌, ◌≤◌, ◌<◌, ◌^◌}
use mathlib.Core.Path.{◌≡◌, refl, ap, sym, ◌∙◌}
use mathlib.Core.List.{List}
use mathlib.Core.Bool.{Bool, true, false}
use native.Mathlib.Omega.{arith}
use borrow.Author.Tests.{eqb-true, ltb-true, ltb-false}
use mir.Syntax.{w64}
use mir.Val.{Fits}
use lib.ListN.{length, get_or, take, drop, length-drop, get_or-eq_default}
use lib.Seq.{length-take-le, get_or-drop, get_or-take}
use lib.Dec.{eqb, ltb}
use lib.Bits.{bit_and, and_block, and_high}
use native.Mathlib.Nat.{div-div-eq-div-mul}
use Rattle.std.specs.Int.{to_le_bytes, from_le_bytes}
use Rattle.std.proofs.lemmas.Nat.{le_bytes_8}
use Rattle.decimal.specs.Between.{Digits, DigitsIf, bytes_of}

-- a byte, k times
abbrev pub every : ℕ → ℕ → ℕ
every zero b = 0
every (suc k) b = every k b * 256 + b

-- each of a number's k lowest bytes lies in a range
abbrev pub Within : ℕ → ℕ → ℕ → ℕ → Type 0
Within lo hi zero x = Unit {0}
Within lo hi (suc k) x = ((lo ≤ x % 256) × (x % 256 ≤ hi)) × Within lo hi k (x / 256)

-- ---- the test: the upper halves of bytes are looked at in all of them at once
upper : (b : ℕ) → bit_and b 240 ≡ b / 16 % 16 * 16
upper b = and_high b 4 4

-- the lowest byte by itself
apart : (m a b : ℕ) → b < 256 → bit_and (a * 256 + b) (m * 256 + 240) ≡ bit_and a m * 256 + b / 16 % 16 * 16
apart m a b h = and_block 8 a m b 240 h (omega arith) ∙ ap (λ (u : ℕ). bit_and a m * 256 + u) (upper b)

same_high : (u v n : ℕ) → n < 16 → u * 256 + n * 16 ≡ v * 256 + 48 → u ≡ v
same_high u v n h e = omega arith

is_three : (u v n : ℕ) → u ≡ v → u * 256 + n * 16 ≡ v * 256 + 48 → n ≡ 3
is_three u v n p e = omega arith

lowest : (u v b : ℕ) → b < 256 → u * 256 + b / 16 % 16 * 16 ≡ v * 256 + 48 → (u ≡ v) × (48 ≤ b) × (b ≤ 63)
lowest u v b h e =
    let p : u ≡ v = same_high u v (b / 16 % 16) (omega arith) e in
    let q : b / 16 % 16 ≡ 3 = is_three u v (b / 16 % 16) p e in
    let r : b / 16 ≡ 3 = three (b / 16) (omega arith) q in
    (p, omega (arith, r), omega (arith, r))
  where
    three : (n : ℕ) → n < 16 → n % 16 ≡ 3 → n ≡ 3
    three n h e = omega arith

pub near_digits : (k x : ℕ) → bit_and x (every k 240) ≡ every k 48 → Within 48 63 k x
near_digits zero x e = tt
near_digits (suc k) x e =
    let s : x ≡ x / 256 * 256 + x % 256 = omega arith in
    let b : x % 256 < 256 = omega arith in
    let q = lowest (bit_and (x / 256) (every k 240)) (every k 48) (x % 256) b
    (sym (apart (every k 240) (x / 256) (x % 256) b) ∙ ap (λ (y : ℕ). bit_and y (every (suc k) 240)) (sym s) ∙ e) in
    ((q.1, q.2), near_digits k (x / 256) q.0)

pub are_digits : (k x : ℕ) → Within 48 63 k x → bit_and (x + every k 6) (every k 240) ≡ every k 48 → Digits (bytes_of k x)
unfolding bytes_of
are_digits zero x w e = tt
are_digits (suc k) x w e =
    let s : x + (every k 6 * 256 + 6) ≡ (x / 256 + every k 6) * 256 + (x % 256 + 6) = omega arith in
    let b : x % 256 + 6 < 256 = omega arith in
    let q = lowest (bit_and (x / 256 + every k 6) (every k 240)) (every k 48) (x % 256 + 6) b
    (sym (apart (every k 240) (x / 256 + every k 6) (x % 256 + 6) b) ∙ ap (λ (y : ℕ). bit_and y (every (suc k) 240)) (sym s) ∙ e) in
    ((w.0.0, omega (arith, q.2)), are_digits k (x / 256) w.1 q.0)

-- ---- a word of eight bytes
shrinks : (y c : ℕ) → y < c * 256 → y / 256 < c
shrinks y c h = omega arith

grows : (y c : ℕ) → y / 256 < c → y < c * 256
grows y c h = omega arith

module _ (x : ℕ) where
  abbrev behind_six : ℕ
  behind_six = x / 256 / 256 / 256 / 256 / 256 / 256

  pub top_byte : x < 2 ^ 64 → behind_six / 256 < 256
  top_byte h =
      let s₁ = shrinks x 72057594037927936 h in
      let s₂ = shrinks (x / 256) 281474976710656 s₁ in
      let s₃ = shrinks (x / 256 / 256) 1099511627776 s₂ in
      let s₄ = shrinks (x / 256 / 256 / 256) 4294967296 s₃ in
      let s₅ = shrinks (x / 256 / 256 / 256 / 256) 16777216 s₄ in
      let s₆ = shrinks (x / 256 / 256 / 256 / 256 / 256) 65536 s₅ in
      shrinks behind_six 256 s₆

  low_word : behind_six / 256 < 64 → x < 4611686018427387904
  low_word h =
      let s₆ = grows behind_six 64 h in
      let s₅ = grows (x / 256 / 256 / 256 / 256 / 256) 16384 s₆ in
      let s₄ = grows (x / 256 / 256 / 256 / 256) 4194304 s₅ in
      let s₃ = grows (x / 256 / 256 / 256) 1073741824 s₄ in
      let s₂ = grows (x / 256 / 256) 274877906944 s₃ in
      let s₁ = grows (x / 256) 70368744177664 s₂ in
      grows x 18014398509481984 s₁

-- 6 more in each byte stays within a word
pub six_fits : (x : ℕ) → x < 2 ^ 64 → bit_and x 17361641481138401520 ≡ 3472328296227680304 → Fits w64 (x + 434041037028460038)
six_fits x h e =
    let w : behind_six x / 256 % 256 ≤ 63 = (near_digits 8 x e).1.1.1.1.1.1.1.0.1 in
    let l : x < 4611686018427387904 = low_word x (small (behind_six x / 256) (top_byte x h) w) in
    record { fits = more x l }
  where
    small : (y : ℕ) → y < 256 → y % 256 ≤ 63 → y < 64
    small y h e = omega arith

    more : (y : ℕ) → y < 4611686018427387904 → y + 434041037028460038 < 2 ^ 64
    more y h = omega arith

pub digits_told : (x : ℕ) → bit_and x 17361641481138401520 ≡ 3472328296227680304
    → DigitsIf (eqb (bit_and (x + 434041037028460038) 17361641481138401520) 3472328296227680304) (bytes_of 8 x)
digits_told x e = by_test (eqb (bit_and (x + 434041037028460038) 17361641481138401520) 3472328296227680304) refl
  where
    by_test : (t : Bool) → eqb (bit_and (x + 434041037028460038) 17361641481138401520) 3472328296227680304 ≡ t → DigitsIf t (bytes_of 8 x)
    by_test true q = are_digits 8 x (near_digits 8 x e) (eqb-true _ _ q)
    by_test false q = tt

pub told_digits : (r : Bool) (ds : List ℕ) → DigitsIf r ds → r ≡ true → Digits ds
told_digits r ds h e = rw e at h

-- ---- the bytes of a word
bytes_le : (x : ℕ) → to_le_bytes w64 x ≡ bytes_of 8 x
unfolding bytes_of
bytes_le x =
    rw (
      div-div-eq-div-mul x 256 256,
      div-div-eq-div-mul x 65536 256,
      div-div-eq-div-mul x 16777216 256,
      div-div-eq-div-mul x 4294967296 256,
      div-div-eq-div-mul x 1099511627776 256,
      div-div-eq-div-mul x 281474976710656 256,
    )

part_small : (s : List ℕ) (at i : ℕ) → length (take 8 (drop at s)) ≡ 8 → ((j : ℕ) → get_or s j 0 < 256) → get_or (take 8 (drop at s)) i 0 < 256
part_small s at i n h = by_place (ltb i 8) refl
  where
    by_place : (t : Bool) → ltb i 8 ≡ t → get_or (take 8 (drop at s)) i 0 < 256
    by_place true e = rw (get_or-take 8 (drop at s) i 0 (ltb-true i 8 e), get_or-drop at s i 0) (h (at + i))
    by_place false e =
        let l : length (take 8 (drop at s)) ≤ i = omega (arith, ltb-false i 8 e) in
        rw (get_or-eq_default (take 8 (drop at s)) 0 l) (omega arith)

pub eight_there : (s bs : List ℕ) (at x : ℕ) → at + 8 ≤ length s → ((i : ℕ) → get_or s i 0 < 256) → bs ≡ take (at + 8 - at) (drop at s)
    → x ≡ from_le_bytes w64 bs → bytes_of 8 x ≡ take 8 (drop at s)
eight_there s bs at x room small e read =
    let k : at + 8 - at ≡ 8 = omega arith in
    let d : bs ≡ take 8 (drop at s) = rw k at e in
    let n : length (take 8 (drop at s)) ≡ 8 = length-take-le 8 (drop at s) (rw (length-drop at s) (omega arith)) in
    sym (bytes_le x) ∙ le_bytes_8 (take 8 (drop at s)) x n (λ i. part_small s at i n small) (rw d at read)
