-- Sums of products as plain numbers: what `weigh_few` adds up in two halves, and the one remainder at its end.
use Prim.Native.Nat.{ℕ, zero, suc, ◌+◌, ◌*◌, ◌-◌, ◌/◌, ◌%◌, ◌≤◌, ◌<◌}
use mathlib.Core.Path.{◌≡◌, refl, sym, ◌∙◌, ap, ap₂}
use mathlib.Core.List.{List, [], ◌∷◌}
use native.Mathlib.Nat.{mod-add-mod, add-mod-mod, div-add-mod', mod-lt, mul-le-mul_right}
use native.Mathlib.Numerals.{add-one}
use native.Mathlib.Omega.{arith}
use mir.Syntax.{w32, w64}
use mir.Val.{Fits}
use lib.Dec.{lit<}
use lib.ListN.{length, drop, get_or, drop_of_length-le}
use lib.Seq.{drop-cons}
use Rattle.field.specs.Modulus.{p}
use Rattle.field.specs.Arithmetic.{sum, product}
use Rattle.poly.specs.Polynomial.{weighted}
use Rattle.poly.specs.Counting.{Elements}
use Rattle.poly.specs.Between.{two_products_of}

-- the sum of the products, with no remainder taken
abbrev pub whole : List ℕ → List ℕ → ℕ
whole [] ws = 0
whole (c ∷ cs) [] = 0
whole (c ∷ cs) (w ∷ ws) = c * w + whole cs ws

weighted_whole : (cs ws : List ℕ) → weighted cs ws ≡ whole cs ws % p
unfolding weighted sum product
weighted_whole [] ws = refl
weighted_whole (c ∷ cs) [] = refl
weighted_whole (c ∷ cs) (w ∷ ws) =
    ap (λ (x : ℕ). (c * w % p + x) % p) (weighted_whole cs ws) ∙ add-mod-mod (c * w % p) (whole cs ws) p
    ∙ mod-add-mod (c * w) p (whole cs ws)

-- the rest of a product without its low 31 bits
rest_small : (x : ℕ) → x < 18446744073709551616 → x / 2147483648 < 8589934592
rest_small x h = omega (arith, div-add-mod' x 2147483648)

pub high_fits : (high i l x : ℕ) → high ≤ i * 8589934592 → i ≤ l → l ≤ 65536 → x < 18446744073709551616
    → high + x / 2147483648 < 18446744073709551616
high_fits high i l x h k j fits = omega (arith, rest_small x fits)

-- two products with elements fit into 64 bits
element_at : (l : List ℕ) (i : ℕ) → Elements l → i < length l → get_or l i 0 < p
element_at [] i a h = absurd (omega arith)
element_at (x ∷ l) zero a h = a.0
element_at (x ∷ l) (suc i) a h = element_at l i a.1 (omega arith)

product_small : (a b x : ℕ) → a < 4294967296 → b < p → x ≡ a * b → x < 9223372036854775808
product_small a b x h k e = omega (arith, mul-le-mul_right {m = a} {n = 4294967295} b (omega arith))

pub two_fit : (cs ws : List ℕ) (i x y : ℕ) → ((j : ℕ) → Fits w32 (get_or cs j 0)) → Elements ws → i + 1 < length ws
    → x ≡ get_or cs i 0 * get_or ws i 0 → y ≡ get_or cs (i + 1) 0 * get_or ws (i + 1) 0 → Fits w64 (x + y)
two_fit cs ws i x y below es h e f =
    let a = product_small _ _ x (below i).fits (element_at ws i es (omega arith)) e in
    let b = product_small _ _ y (below (i + 1)).fits (element_at ws (i + 1) es h) f in
    record { fits = omega arith }

-- the first two of what is left of a list
dropped_two : (l : List ℕ) (i : ℕ) → i + 1 < length l → drop i l ≡ get_or l i 0 ∷ (get_or l (i + 1) 0 ∷ drop (i + 2) l)
dropped_two l i h =
    let next : suc i ≡ i + 1 = omega arith in
    let after : suc (i + 1) ≡ i + 2 = omega arith in
    drop-cons l i 0 (omega arith)
    ∙ ap (λ (r : List ℕ). get_or l i 0 ∷ r)
    (ap (λ (k : ℕ). drop k l) next ∙ drop-cons l (i + 1) 0 h ∙ ap (λ (k : ℕ). get_or l (i + 1) 0 ∷ drop k l) after)

-- the halves so far, with what is to come, are the whole; and they are small, so that no sum wraps
module _ (cs ws : List ℕ) where
  pub record Halves (low high i : ℕ) : Type 0 where
    pub all : low + high * 2147483648 + whole (drop i cs) (drop i ws) ≡ whole cs ws
    pub low_small : low ≤ i * 2147483648
    pub high_small : high ≤ i * 8589934592

  pub halves_start : Halves 0 0 0
  halves_start = record { all = omega arith; low_small = omega arith; high_small = omega arith }

  pub halves_next : (low high i x : ℕ) → i < length cs → i < length ws → x < 18446744073709551616
      → x ≡ get_or cs i 0 * get_or ws i 0 → Halves low high i → Halves (low + x % 2147483648) (high + x / 2147483648) (i + 1)
  halves_next low high i x h j fits e t =
      let d : x / 2147483648 * 2147483648 + x % 2147483648 ≡ x = div-add-mod' x 2147483648 in
      let l : x % 2147483648 < 2147483648 = mod-lt x (lit< tt) in
      let a : low + high * 2147483648 + (x + whole (drop (i + 1) cs) (drop (i + 1) ws)) ≡ whole cs ws =
      rw (e, add-one i) (rw (drop-cons cs i 0 h, drop-cons ws i 0 j) at t.all) in
      record { all = omega arith; low_small = omega (arith, t.low_small); high_small = omega (arith, t.high_small, rest_small x fits) }

  pub halves_turn : (low high i x : ℕ) → i < length cs → length ws ≡ length cs → x < 18446744073709551616
      → x ≡ get_or cs i 0 * get_or ws i 0 → Halves low high i → Halves (low + x % 2147483648) (high + x / 2147483648) (i + 1)
  halves_turn low high i x h k = halves_next low high i x h (omega arith)

  -- two products at once
  pub halves_two : (low high i x : ℕ) → 1 < length cs - i → length cs ≤ length ws → x < 18446744073709551616
      → x ≡ two_products_of cs ws i → Halves low high i → Halves (low + x % 2147483648) (high + x / 2147483648) (i + 2)
  halves_two low high i x h j fits e t =
      let d : x / 2147483648 * 2147483648 + x % 2147483648 ≡ x = div-add-mod' x 2147483648 in
      let l : x % 2147483648 < 2147483648 = mod-lt x (lit< tt) in
      let b : whole (drop i cs) (drop i ws) ≡ x + whole (drop (i + 2) cs) (drop (i + 2) ws) =
      ap₂ whole (dropped_two cs i (omega arith)) (dropped_two ws i (omega arith)) ∙ omega (arith, e) in
      record { all = omega (arith, t.all); low_small = omega (arith, t.low_small); high_small = omega (arith, t.high_small, rest_small x fits) }

  pub halves_end : (low high i r : ℕ) → length cs ≤ i → Halves low high i → r ≡ (low + high * 2147483648) % p → r ≡ weighted cs ws
  halves_end low high i r h t e =
      let q : low + high * 2147483648 + 0 ≡ whole cs ws = rw (drop_of_length-le cs h) at t.all in
      let a : low + high * 2147483648 ≡ whole cs ws = omega arith in
      e ∙ ap (λ (x : ℕ). x % p) a ∙ sym (weighted_whole cs ws)

  -- the last of an odd number
  pub last_fits : (low high i x : ℕ) → i < length cs → length cs ≤ 65536 → x < 18446744073709551616 → Halves low high i
      → (low + x % 2147483648) + (high + x / 2147483648) < 18446744073709551616
  last_fits low high i x h few fits t = omega (arith, t.low_small, t.high_small, rest_small x fits, mod-lt x (lit< {m = 0} {n = 2147483648} tt))

  pub halves_last : (low high i x r : ℕ) → length cs - i ≤ 1 → i < length cs → length cs ≤ length ws → x < 18446744073709551616
      → x ≡ get_or cs i 0 * get_or ws i 0 → Halves low high i
      → r ≡ ((low + x % 2147483648) + (high + x / 2147483648) * 2147483648) % p → r ≡ weighted cs ws
  halves_last low high i x r last h k fits e t f =
      halves_end _ _ (i + 1) r (omega arith) (halves_next low high i x h (omega arith) fits e t) f
