-- Numbers side by side in one: what a product, a division and a mask make of each; and their digits.
use Prim.Native.Nat.{ℕ, ◌+◌, ◌-◌, ◌*◌, ◌/◌, ◌%◌, ◌^◌, ◌≤◌, ◌<◌}
use mathlib.Core.Path.{◌≡◌, refl, ap, sym, ◌∙◌}
use native.Mathlib.Omega.{arith}
use native.Mathlib.Nat.{div-add-mod', mod-lt, add-mul-div_right}
use lib.Bits.{bit_and, and_block, and_mask, and_zero_r}
use lib.Pow.{pow_pos}
use Rattle.decimal.specs.Numeral.{last_digits}
use Rattle.decimal.specs.Lanes.{quarters, packed}
use Rattle.decimal.proofs.Joining.{spread, eight_digits}

-- a mask of two sides masks each
and_sides : (k q m s : ℕ) → s < 2 ^ k → bit_and q (m * 2 ^ k + s) ≡ bit_and (q / 2 ^ k) m * 2 ^ k + bit_and (q % 2 ^ k) s
and_sides k q m s h =
    ap (λ (n : ℕ). bit_and n (m * 2 ^ k + s)) (sym (div-add-mod' q (2 ^ k))) ∙ and_block k (q / 2 ^ k) m (q % 2 ^ k) s (mod-lt q (pow_pos k)) h

-- the two sides of such a product; 42950656 is 10486 * 2^32 / 2^20
module _ (q u b : ℕ) (e : q ≡ u + b * 42950656) (h : u < 100) where
  low_side : q % 4294967296 % 128 ≡ u
  low_side =
      let w = div-add-mod' q 4294967296 in
      let m : q % 4294967296 % 128 ≡ q % 128 = omega arith in
      m ∙ rw e (omega arith)

  high_side : b < 10000 → q / 4294967296 % 128 ≡ b / 100
  high_side g = let d : q / 4294967296 ≡ b / 100 = omega arith in rw d (omega arith)

-- ---- two numbers of four digits: each is divided by 100
module _ (a b : ℕ) (h : a < 10000) (g : b < 10000) where
  abbrev product : ℕ
  product = (a + b * 4294967296) * 10486 / 1048576

  product_is : product ≡ a / 100 + b * 42950656
  product_is = omega arith

  abbrev hundreds : ℕ
  hundreds = bit_and product 545460846719

  hundreds_is : hundreds ≡ a / 100 + b / 100 * 4294967296
  hundreds_is =
      let l = low_side product (a / 100) b product_is (omega arith) in
      let u = high_side product (a / 100) b product_is (omega arith) g in
      and_sides 32 product 127 127 (omega arith)
      ∙ rw (and_mask (product / 4294967296) 7, and_mask (product % 4294967296) 7, l, u) (omega arith)

  pub hundreds_below : 6553599 * hundreds ≤ (a + b * 4294967296) * 65536
  hundreds_below = omega (arith, hundreds_is)

  pub pairs_are : (a + b * 4294967296) * 65536 - 6553599 * hundreds ≡ quarters (a / 100) (a % 100) (b / 100) (b % 100)
  pairs_are = omega (arith, hundreds_is)

abbrev tens_in : ℕ → ℕ
tens_in r = bit_and (r * 103 / 1024) 4222189076152335

-- ---- four numbers of two digits: each is divided by 10; 6592 is 103 * 65536 / 1024
module _ (t z : ℕ) (h : t < 10) where
  last_tens : (t + 6592 * z) % 65536 % 16 ≡ t
  last_tens = let w = div-add-mod' (t + 6592 * z) 65536 in omega arith

  other_tens : (p y : ℕ) → z ≡ p + 65536 * y → p < 100 → (t + 6592 * z) / 65536 ≡ p / 10 + 6592 * y
  other_tens p y e g = omega arith

  -- one of them is masked
  and_tens : (m : ℕ) → bit_and (t + 6592 * z) (m * 65536 + 15) ≡ bit_and ((t + 6592 * z) / 65536) m * 65536 + t
  and_tens m =
      and_sides 16 (t + 6592 * z) m 15 (omega arith)
      ∙ ap (λ (n : ℕ). bit_and ((t + 6592 * z) / 65536) m * 65536 + n) (and_mask ((t + 6592 * z) % 65536) 4 ∙ last_tens)

module _ (a b c d : ℕ) (ha : a < 100) (hb : b < 100) (hc : c < 100) (hd : d < 100) where
  abbrev product_ten : ℕ
  product_ten = quarters a b c d * 103 / 1024

  product_ten_is : product_ten ≡ a / 10 + 6592 * (b + 65536 * (c + 65536 * d))
  product_ten_is =
      let w : ℕ = 6592 * (b + 65536 * (c + 65536 * d)) in
      let e : quarters a b c d * 103 ≡ a * 103 + w * 1024 = omega arith in
      let f : a * 103 / 1024 ≡ a / 10 = omega arith in
      rw e (add-mul-div_right (a * 103) w (omega arith) ∙ rw f)

  abbrev tens_of : ℕ
  tens_of = bit_and product_ten 4222189076152335

  tens_are : tens_of ≡ quarters (a / 10) (b / 10) (c / 10) (d / 10)
  tens_are =
      let z₁ : ℕ = b + 65536 * (c + 65536 * d) in
      let z₂ : ℕ = c + 65536 * d in
      let z₃ : ℕ = d + 65536 * 0 in
      let a₁ : a / 10 < 10 = omega arith in
      let b₁ : b / 10 < 10 = omega arith in
      let c₁ : c / 10 < 10 = omega arith in
      let d₁ : d / 10 < 10 = omega arith in
      let e₃ : d ≡ z₃ = omega arith in
      rw product_ten_is
      (and_tens (a / 10) z₁ a₁ 64425492495
      ∙ rw (
        other_tens (a / 10) z₁ a₁ b z₂ refl hb,
        and_tens (b / 10) z₂ b₁ 983055,
        other_tens (b / 10) z₂ b₁ c d refl hc,
        and_tens (c / 10) d c₁ 15,
        other_tens (c / 10) d c₁ d 0 e₃ hd,
        and_tens (d / 10) 0 d₁ 0,
        and_zero_r,
      ) (omega arith))

  -- a quarter's tens and ones stand in its two bytes
  spread_packed : quarters a b c d * 256 + 3472328296227680304 - 2559 * tens_of ≡ packed (spread a b c d)
  unfolding packed
  spread_packed = rw tens_are (omega arith)

  -- of a number r that is these four
  module _ (r : ℕ) (e : r ≡ quarters a b c d) where
    tens_packed : r * 256 + 3472328296227680304 - 2559 * tens_in r ≡ packed (spread a b c d)
    tens_packed = rw e spread_packed

-- ---- the digits of a number of eight
module _ (x : ℕ) (h : x < 100000000) where
  first_pair : x / 10000 / 100 < 100
  first_pair = omega arith

  second_pair : x / 10000 % 100 < 100
  second_pair = omega arith

  third_pair : x % 10000 / 100 < 100
  third_pair = omega arith

  last_pair : x % 10000 % 100 < 100
  last_pair = omega arith

  module _ (r : ℕ) (e : r ≡ quarters (x / 10000 / 100) (x / 10000 % 100) (x % 10000 / 100) (x % 10000 % 100)) where
    pub eight_are : r * 256 + 3472328296227680304 - 2559 * tens_in r ≡ packed (last_digits 8 x)
    eight_are = rw (eight_digits x h) (tens_packed _ _ _ _ first_pair second_pair third_pair last_pair r e)
