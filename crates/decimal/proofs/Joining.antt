-- Digits of a number that is written in two parts, and bytes taken from one number.
use Prim.Native.Nat.{ℕ, zero, suc, ◌+◌, ◌-◌, ◌*◌, ◌/◌, ◌%◌, ◌<◌}
use mathlib.Core.Path.{◌≡◌, refl, ap, sym, ◌∙◌}
use mathlib.Core.List.{List, [], ◌∷◌, ◌++◌, append_assoc, append-nil}
use native.Mathlib.Omega.{arith}
use native.Mathlib.Nat.{div-add-mod', mod-lt, mul_left_comm, div-div-eq-div-mul}
use borrow.Rule.Slice.PartMut.{put_mid}
use lib.ListN.{length, set}
use lib.Seq.{drop-length}
use Rattle.std.specs.Int.{w64, to_le_bytes}
use Rattle.decimal.specs.Numeral.{tens, last_digits}
use Rattle.decimal.specs.Lanes.{packed}
use Rattle.decimal.proofs.Digits.{Digits, tens_pos, length_digits, digits_are_digits}

-- the digits of a, and behind them k digits of b
pub digits_join : (j k a b : ℕ) → b < tens k → last_digits (k + j) (a * tens k + b) ≡ last_digits j a ++ last_digits k b
unfolding last_digits
digits_join j zero a b h =
    let e : 0 + j ≡ j = omega arith in
    let f : a * 1 + b ≡ a = omega arith in
    rw (e, f) (sym (append-nil (last_digits j a)))
digits_join j (suc k) a b h =
    let e : suc k + j ≡ suc (k + j) = omega arith in
    let m : ℕ = a * tens k in
    let f : a * (10 * tens k) ≡ 10 * m = mul_left_comm a 10 (tens k) in
    let q : (10 * m + b) / 10 ≡ m + b / 10 = omega arith in
    let r : (10 * m + b) % 10 ≡ b % 10 = omega arith in
    rw (e, f, q, r, digits_join j k a (b / 10) (omega arith)) (append_assoc (last_digits j a) (last_digits k (b / 10)) ((48 + b % 10) ∷ []))

-- the first j digits of x, and the k behind them
digits_split : (j k x : ℕ) → last_digits (k + j) x ≡ last_digits j (x / tens k) ++ last_digits k (x % tens k)
digits_split j k x =
    ap (last_digits (k + j)) (sym (div-add-mod' x (tens k))) ∙ digits_join j k (x / tens k) (x % tens k) (mod-lt x (tens_pos k))

one_zero : last_digits 1 0 ≡ 48 ∷ []
unfolding last_digits
one_zero = refl

two_digits : (z : ℕ) → z < 100 → last_digits 2 z ≡ (48 + z / 10) ∷ (48 + z % 10) ∷ []
unfolding last_digits
two_digits z h = let e : z / 10 % 10 ≡ z / 10 = omega arith in rw e

four_digits : (y : ℕ) → y < 10000 → last_digits 4 y ≡ (48 + y / 100 / 10) ∷ (48 + y / 100 % 10) ∷ (48 + y % 100 / 10) ∷ (48 + y % 100 % 10) ∷ []
four_digits y h =
    digits_split 2 2 y
    ∙ rw (two_digits (y / 100) (omega arith), two_digits (y % 100) (omega arith))

-- eight digits, as pairs have them
abbrev pub spread : ℕ → ℕ → ℕ → ℕ → List ℕ
spread a b c d =
    (48 + a / 10) ∷ (48 + a % 10) ∷ (48 + b / 10) ∷ (48 + b % 10) ∷ (48 + c / 10) ∷ (48 + c % 10) ∷ (48 + d / 10) ∷ (48 + d % 10) ∷ []

pub eight_digits : (x : ℕ) → x < 100000000 → last_digits 8 x ≡ spread (x / 10000 / 100) (x / 10000 % 100) (x % 10000 / 100) (x % 10000 % 100)
eight_digits x h =
    digits_split 4 4 x
    ∙ rw (four_digits (x / 10000) (omega arith), four_digits (x % 10000) (omega arith))

ten_digits_is : (x : ℕ) → last_digits 10 x ≡ last_digits 2 (x / 100000000) ++ last_digits 8 (x % 100000000)
ten_digits_is x = digits_split 2 8 x

-- a leading zero
pub nine_of_ten : (x : ℕ) → x < 1000000000 → last_digits 10 x ≡ 48 ∷ last_digits 9 x
nine_of_ten x h =
    let q : x / 1000000000 ≡ 0 = omega arith in
    let r : x % 1000000000 ≡ x = omega arith in
    digits_split 1 9 x ∙ rw (q, r, one_zero)

-- ---- two bytes, and the others behind them
written_behind : (l bs : List ℕ) (a b : ℕ) → length l ≡ 10 → put_mid 2 (length (set (set l 0 a) 1 b) - 2) (set (set l 0 a) 1 b) bs ≡ a ∷ b ∷ bs
written_behind [] bs a b n = absurd (omega arith)
written_behind (c ∷ []) bs a b n = absurd (omega arith)
written_behind (c ∷ d ∷ r) bs a b n =
    let k : suc (suc (length r)) - 2 ≡ length r = omega arith in
    rw (k, drop-length r) (ap (λ (t : List ℕ). a ∷ b ∷ t) (append-nil bs))

-- ---- bytes taken from one number, the lowest first
abbrev bytes : ℕ → ℕ → List ℕ
bytes zero v = []
bytes (suc k) v = v % 256 ∷ bytes k (v / 256)

unpacked : (bs : List ℕ) → Digits bs → bytes (length bs) (packed bs) ≡ bs
unfolding packed
unpacked [] h = refl
unpacked (b ∷ bs) h =
    let z : ℕ = packed bs in
    let l : (b + 256 * z) % 256 ≡ b = omega (arith, h.0.1) in
    let q : (b + 256 * z) / 256 ≡ z = omega (arith, h.0.1) in
    rw (l, q, unpacked bs h.1)

bytes_digits : (k v y : ℕ) → v ≡ packed (last_digits k y) → bytes k v ≡ last_digits k y
bytes_digits k v y e =
    rw e (ap (λ (n : ℕ). bytes n (packed (last_digits k y))) (sym (length_digits k y)) ∙ unpacked (last_digits k y) (digits_are_digits k y))

bytes_of_eight : (v : ℕ) → bytes 8 v ≡ to_le_bytes w64 v
bytes_of_eight v =
    rw (
      div-div-eq-div-mul v 256 256,
      div-div-eq-div-mul v 65536 256,
      div-div-eq-div-mul v 16777216 256,
      div-div-eq-div-mul v 4294967296 256,
      div-div-eq-div-mul v 1099511627776 256,
      div-div-eq-div-mul v 281474976710656 256,
    )

-- ten bytes
module _ (l : List ℕ) (x v : ℕ) (n : length l ≡ 10) (h : x < 4294967296) where
  abbrev high : ℕ
  high = x / 100000000

  first_tens : high * 13 / 128 ≡ high / 10
  first_tens = omega arith

  first_ones : high - 10 * (high * 13 / 128) ≡ high % 10
  first_ones = omega (arith, first_tens)

  pub ten_put : (bs : List ℕ) → v ≡ packed (last_digits 8 (x % 100000000)) → bs ≡ to_le_bytes w64 v
      → put_mid 2 (length (set (set l 0 (48 + high * 13 / 128)) 1 (48 + (high - 10 * (high * 13 / 128)))) - 2)
      (set (set l 0 (48 + high * 13 / 128)) 1 (48 + (high - 10 * (high * 13 / 128)))) bs ≡ last_digits 10 x
  ten_put bs e q =
      let a : (48 + high * 13 / 128) ∷ (48 + (high - 10 * (high * 13 / 128))) ∷ [] ≡ last_digits 2 high =
      rw (first_ones, first_tens) (sym (two_digits high (omega arith))) in
      let b : bs ≡ last_digits 8 (x % 100000000) = q ∙ sym (bytes_of_eight v) ∙ bytes_digits 8 v (x % 100000000) e in
      written_behind l bs (48 + high * 13 / 128) (48 + (high - 10 * (high * 13 / 128))) n
      ∙ rw b (ap (λ (r : List ℕ). r ++ last_digits 8 (x % 100000000)) a ∙ sym (ten_digits_is x))
