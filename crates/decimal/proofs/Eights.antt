-- Eight digits in one number: no step of the code that puts them together wraps, and the last one says their number.
use Prim.Native.Nat.{ℕ, suc, ◌+◌, ◌-◌, ◌*◌, ◌/◌, ◌%◌, ◌≤◌, ◌<◌, ◌^◌}
use mathlib.Core.Path.{◌≡◌, refl, ap, ◌∙◌}
use native.Mathlib.Omega.{arith}
use mir.Syntax.{w64}
use mir.Val.{Fits}
use lib.Bits.{bit_and, and_block, and_mask}
use Rattle.decimal.specs.Numeral.{value_after}
use Rattle.decimal.specs.Between.{Digits, bytes_of}
use Rattle.decimal.proofs.EightDigits.{top_byte}

-- every second byte is kept
kept : (a m p q : ℕ) → p < 256 → q < 256 → bit_and (a * 65536 + (q * 256 + p)) (m * 65536 + 255) ≡ bit_and a m * 65536 + p
kept a m p q h g =
    and_block 16 a m (q * 256 + p) 255 (omega arith) (omega arith)
    ∙ ap (λ (u : ℕ). bit_and a m * 65536 + u) (and_mask (q * 256 + p) 8 ∙ omega arith)

module _ (p₀ p₁ p₂ p₃ p₄ p₅ p₆ p₇ : ℕ) (h₀ : p₀ < 256) (h₁ : p₁ < 256) (h₂ : p₂ < 256) (h₃ : p₃ < 256) (h₄ : p₄ < 256) (h₅ : p₅ < 256) (h₆ : p₆ < 256) (h₇ : p₇ < 256) where
  kept_four : bit_and ((((p₇ * 256 + p₆) * 65536 + (p₅ * 256 + p₄)) * 65536 + (p₃ * 256 + p₂)) * 65536 + (p₁ * 256 + p₀)) 71777214294589695
      ≡ ((p₆ * 65536 + p₄) * 65536 + p₂) * 65536 + p₀
  kept_four =
      kept (((p₇ * 256 + p₆) * 65536 + (p₅ * 256 + p₄)) * 65536 + (p₃ * 256 + p₂)) 1095233372415 p₀ p₁ h₀ h₁
      ∙ ap (λ (u : ℕ). u * 65536 + p₀)
      (kept ((p₇ * 256 + p₆) * 65536 + (p₅ * 256 + p₄)) 16711935 p₂ p₃ h₂ h₃
      ∙ ap (λ (u : ℕ). u * 65536 + p₂)
      (kept (p₇ * 256 + p₆) 255 p₄ p₅ h₄ h₅
      ∙ ap (λ (u : ℕ). u * 65536 + p₄) (and_mask (p₇ * 256 + p₆) 8 ∙ omega arith)))

-- eight digits by themselves
pub record Eight (ones : ℕ) : Type 0 where
  pub d₀ : ℕ
  pub d₁ : ℕ
  pub d₂ : ℕ
  pub d₃ : ℕ
  pub d₄ : ℕ
  pub d₅ : ℕ
  pub d₆ : ℕ
  pub d₇ : ℕ
  pub low : (d₀ ≤ 9) × (d₁ ≤ 9) × (d₂ ≤ 9) × (d₃ ≤ 9)
  pub high : (d₄ ≤ 9) × (d₅ ≤ 9) × (d₆ ≤ 9) × (d₇ ≤ 9)
  pub is : ones ≡ ((((((d₇ * 256 + d₆) * 256 + d₅) * 256 + d₄) * 256 + d₃) * 256 + d₂) * 256 + d₁) * 256 + d₀

module _ (ones : ℕ) (e : Eight ones) where
  abbrev twos : ℕ
  twos = ((e.d₆ * 10 + e.d₇) * 65536 + (e.d₄ * 10 + e.d₅)) * 65536 + (e.d₂ * 10 + e.d₃)

  abbrev ten : ℕ
  ten =
      ((((e.d₇ * 10 * 256 + (e.d₆ * 10 + e.d₇)) * 65536 + ((e.d₅ * 10 + e.d₆) * 256 + (e.d₄ * 10 + e.d₅))) * 65536
      + ((e.d₃ * 10 + e.d₄) * 256 + (e.d₂ * 10 + e.d₃)))
      * 65536
      + ((e.d₁ * 10 + e.d₂) * 256 + (e.d₀ * 10 + e.d₁)))

  ten_is : ones * 10 + ones / 256 ≡ ten
  ten_is =
      let q : ones / 256 ≡ (((((e.d₇ * 256 + e.d₆) * 256 + e.d₅) * 256 + e.d₄) * 256 + e.d₃) * 256 + e.d₂) * 256 + e.d₁ = omega (arith, e.is, e.low) in
      omega (arith, e.is, q)

  pub twos_are : bit_and (ones * 10 + ones / 256) 71777214294589695 ≡ twos * 65536 + (e.d₀ * 10 + e.d₁)
  twos_are =
      ap (λ (u : ℕ). bit_and u 71777214294589695) ten_is
      ∙ kept_four (e.d₀ * 10 + e.d₁) (e.d₁ * 10 + e.d₂) (e.d₂ * 10 + e.d₃) (e.d₃ * 10 + e.d₄) (e.d₄ * 10 + e.d₅) (e.d₅ * 10 + e.d₆) (e.d₆ * 10 + e.d₇) (e.d₇ * 10)
      (omega (arith, e.low)) (omega (arith, e.low)) (omega (arith, e.low)) (omega (arith, e.low, e.high)) (omega (arith, e.high)) (omega (arith, e.high)) (omega (arith, e.high)) (omega (arith, e.high))

record Digit (b : ℕ) : Type 0 where
  d : ℕ
  few : d ≤ 9
  is : b ≡ d + 48
  less : b - 48 ≡ d

digit : (b : ℕ) → 48 ≤ b → b ≤ 57 → Digit b
digit b h g = record { d = b - 48; few = omega arith; is = omega arith; less = refl }

module _ (x : ℕ) (small : x < 2 ^ 64) (w : Digits (bytes_of 8 x)) where
  abbrev x₁ : ℕ
  x₁ = x / 256

  abbrev x₂ : ℕ
  x₂ = x₁ / 256

  abbrev x₃ : ℕ
  x₃ = x₂ / 256

  abbrev x₄ : ℕ
  x₄ = x₃ / 256

  abbrev x₅ : ℕ
  x₅ = x₄ / 256

  abbrev x₆ : ℕ
  x₆ = x₅ / 256

  abbrev x₇ : ℕ
  x₇ = x₆ / 256

  split : (y : ℕ) → y ≡ y / 256 * 256 + y % 256
  split y = omega arith

  unfolded : (y k : ℕ) → Digits (bytes_of (suc k) y) → Digit (y % 256) × Digits (bytes_of k (y / 256))
  unfolding bytes_of
  unfolded y k h = (digit (y % 256) h.0.0 h.0.1, h.1)

  abbrev c₀ : Digit (x % 256) × Digits (bytes_of 7 x₁)
  c₀ = unfolded x 7 w

  abbrev c₁ : Digit (x₁ % 256) × Digits (bytes_of 6 x₂)
  c₁ = unfolded x₁ 6 c₀.1

  abbrev c₂ : Digit (x₂ % 256) × Digits (bytes_of 5 x₃)
  c₂ = unfolded x₂ 5 c₁.1

  abbrev c₃ : Digit (x₃ % 256) × Digits (bytes_of 4 x₄)
  c₃ = unfolded x₃ 4 c₂.1

  abbrev c₄ : Digit (x₄ % 256) × Digits (bytes_of 3 x₅)
  c₄ = unfolded x₄ 3 c₃.1

  abbrev c₅ : Digit (x₅ % 256) × Digits (bytes_of 2 x₆)
  c₅ = unfolded x₅ 2 c₄.1

  abbrev c₆ : Digit (x₆ % 256) × Digits (bytes_of 1 x₇)
  c₆ = unfolded x₆ 1 c₅.1

  abbrev c₇ : Digit (x₇ % 256) × Digits (bytes_of 0 (x₇ / 256))
  c₇ = unfolded x₇ 0 c₆.1

  last : x₇ ≡ x₇ % 256
  last = below x₇ (top_byte x small)
    where
      below : (y : ℕ) → y < 256 → y ≡ y % 256
      below y h = omega arith

  joined : (y n b : ℕ) → y / 256 ≡ n → y % 256 ≡ b → y ≡ n * 256 + b
  joined y n b e f = split y ∙ rw (e, f)

  whole : x ≡ ((((((((c₇.0.d + 48) * 256 + (c₆.0.d + 48)) * 256 + (c₅.0.d + 48)) * 256 + (c₄.0.d + 48)) * 256 + (c₃.0.d + 48)) * 256 + (c₂.0.d + 48)) * 256 + (c₁.0.d + 48)) * 256 + (c₀.0.d + 48))
  whole =
      joined x _ _ (joined x₁ _ _ (joined x₂ _ _ (joined x₃ _ _ (joined x₄ _ _ (joined x₅ _ _ (joined x₆ _ _ (last ∙ c₇.0.is) c₆.0.is) c₅.0.is) c₄.0.is) c₃.0.is) c₂.0.is) c₁.0.is) c₀.0.is

  abbrev eight : Eight (x - 3472328296227680304)
  eight =
      record {
        d₀ = c₀.0.d;
        d₁ = c₁.0.d;
        d₂ = c₂.0.d;
        d₃ = c₃.0.d;
        d₄ = c₄.0.d;
        d₅ = c₅.0.d;
        d₆ = c₆.0.d;
        d₇ = c₇.0.d;
        low = (c₀.0.few, c₁.0.few, c₂.0.few, c₃.0.few);
        high = (c₄.0.few, c₅.0.few, c₆.0.few, c₇.0.few);
        is = omega (arith, whole);
      }

  abbrev ones : ℕ
  ones = x - 3472328296227680304

  abbrev pairs : ℕ
  pairs = bit_and (ones * 10 + ones / 256) 71777214294589695

  abbrev halves : ℕ
  halves = pairs * 100 + pairs / 65536

  pub not_below : 3472328296227680304 ≤ x
  not_below = omega (arith, whole)

  pub ten_fits : Fits w64 (ones * 10)
  ten_fits = omega (arith, eight.is, eight.low, eight.high)

  pub ten_more_fits : Fits w64 (ones * 10 + ones / 256)
  ten_more_fits = rw (ten_is ones eight) (omega (arith, eight.low, eight.high))

  pub hundred_fits : Fits w64 (pairs * 100)
  hundred_fits = rw (twos_are ones eight) (omega (arith, eight.low, eight.high))

  pub hundred_more_fits : Fits w64 halves
  hundred_more_fits = rw (twos_are ones eight) (omega (arith, eight.low, eight.high))

  said : (d₀ d₁ d₂ d₃ d₄ d₅ d₆ d₇ t : ℕ) → (d₀ ≤ 9) × (d₁ ≤ 9) × (d₂ ≤ 9) × (d₃ ≤ 9) → (d₄ ≤ 9) × (d₅ ≤ 9) × (d₆ ≤ 9) × (d₇ ≤ 9)
      → t ≡ (((d₆ * 10 + d₇) * 65536 + (d₄ * 10 + d₅)) * 65536 + (d₂ * 10 + d₃)) * 65536 + (d₀ * 10 + d₁)
      → (t * 100 + t / 65536) % 65536 * 10000 + (t * 100 + t / 65536) / 4294967296 % 65536
      ≡ (((((((0 * 10 + d₀) * 10 + d₁) * 10 + d₂) * 10 + d₃) * 10 + d₄) * 10 + d₅) * 10 + d₆) * 10 + d₇
  said d₀ d₁ d₂ d₃ d₄ d₅ d₆ d₇ t l h e =
      let q : t / 65536 ≡ ((d₆ * 10 + d₇) * 65536 + (d₄ * 10 + d₅)) * 65536 + (d₂ * 10 + d₃) = omega arith in
      let f : t * 100 + t / 65536
      ≡ (((d₆ * 10 + d₇) * 100 * 65536 + ((d₄ * 10 + d₅) * 100 + (d₆ * 10 + d₇))) * 65536 + ((d₂ * 10 + d₃) * 100 + (d₄ * 10 + d₅))) * 65536 + ((d₀ * 10 + d₁) * 100 + (d₂ * 10 + d₃)) = omega arith in
      let a = lanes ((d₆ * 10 + d₇) * 100) ((d₄ * 10 + d₅) * 100 + (d₆ * 10 + d₇)) ((d₂ * 10 + d₃) * 100 + (d₄ * 10 + d₅)) ((d₀ * 10 + d₁) * 100 + (d₂ * 10 + d₃))
      (omega (arith, h)) (omega (arith, l, h)) (omega (arith, l)) in
      rw (f, a.0, a.1) (omega arith)
    where
      lanes : (a b c d : ℕ) → b < 65536 → c < 65536 → d < 65536
          → (((((a * 65536 + b) * 65536 + c) * 65536 + d) % 65536) ≡ d) × ((((a * 65536 + b) * 65536 + c) * 65536 + d) / 4294967296 % 65536 ≡ b)
      lanes a b c d k m n =
          let q : (((a * 65536 + b) * 65536 + c) * 65536 + d) / 4294967296 ≡ a * 65536 + b = omega arith in
          (omega arith, rw q (omega arith))

  pub eight_say : halves % 65536 * 10000 + halves / 4294967296 % 65536 ≡ value_after 0 (bytes_of 8 x)
  unfolding bytes_of value_after
  eight_say =
      said eight.d₀ eight.d₁ eight.d₂ eight.d₃ eight.d₄ eight.d₅ eight.d₆ eight.d₇ pairs eight.low eight.high (twos_are ones eight)
      ∙ rw (← c₀.0.less, ← c₁.0.less, ← c₂.0.less, ← c₃.0.less, ← c₄.0.less, ← c₅.0.less, ← c₆.0.less, ← c₇.0.less)
