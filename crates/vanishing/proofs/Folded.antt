-- A number folded is the same modulo p, and short.
use Prim.Native.Nat.{ℕ, ◌+◌, ◌*◌, ◌/◌, ◌%◌, ◌≤◌, ◌<◌}
use lib.Dec.{lit<}
use native.Mathlib.Omega.{arith}
use mathlib.Core.Path.{◌≡◌, sym, ◌∙◌, ap, ap₂}
use native.Mathlib.Nat.{add_comm, div-add-mod', mod-mod, mod-lt, mul-zero, mul-le-mul, le-pred_of_lt}
use Rattle.field.specs.Modulus.{p}
use Rattle.field.specs.Arithmetic.{product}
use Rattle.field.specs.Element.{Element, element}
use Rattle.field.proofs.Folding.{folded}
use Rattle.field.proofs.Elements.{𝓡, element_path, element_add, element_product}
use Rattle.vanishing.specs.Between.{fold, line_at}
open 𝓡 use {add as ◌⊕◌, mul as ◌⊗◌}

infixl 65 ◌⊕◌
infixl 70 ◌⊗◌
fold_same : (x : ℕ) → fold x % p ≡ x % p
unfolding fold
fold_same x =
    folded (x % 2147483648) (x / 2147483648)
    ∙ ap (λ (z : ℕ). z % p) (add_comm (x % 2147483648) (x / 2147483648 * 2147483648) ∙ div-add-mod' x 2147483648)

element_fold : (x : ℕ) → element (fold x) ≡ element x
unfolding element
element_fold x = element_path (element (fold x)) (element x) (fold_same x)

element_times : (a b : ℕ) → element (a * b) ≡ element a ⊗ element b
unfolding element product
element_times a b = element_path (element (a * b)) (element (product a b)) (sym (mod-mod (a * b) p)) ∙ element_product a b

pub element_line : (k c b : ℕ) → element (line_at k c b) ≡ element k ⊗ element c ⊕ element b
unfolding line_at
element_line k c b =
    element_fold (fold (k * c + b)) ∙ element_fold (k * c + b) ∙ element_add (k * c) b ∙ ap (λ (z : Element). z ⊕ element b) (element_times k c)

-- ---- how large it gets

whole_low : (k c b : ℕ) → k < p → c ≤ p → b ≤ p → k * c + b ≤ 4611686014132420609
whole_low k c b hk hc hb = omega (arith, mul-le-mul (le-pred_of_lt hk) hc, hb)

once_low : (x q r : ℕ) → q * 2147483648 + r ≡ x → r < 2147483648 → x ≤ 4611686014132420609 → r + q ≤ 4294967293
once_low x q r e h l = omega arith

twice_low : (x q r : ℕ) → q * 2147483648 + r ≡ x → r < 2147483648 → x ≤ 4294967293 → r + q ≤ 2147483647
twice_low x q r e h l = omega arith

pub fold_once : (x : ℕ) → x ≤ 4611686014132420609 → x % 2147483648 + x / 2147483648 ≤ 4294967293
fold_once x l = once_low x (x / 2147483648) (x % 2147483648) (div-add-mod' x 2147483648) (mod-lt x (lit< tt)) l

pub fold_twice : (x : ℕ) → x ≤ 4294967293 → x % 2147483648 + x / 2147483648 ≤ 2147483647
fold_twice x l = twice_low x (x / 2147483648) (x % 2147483648) (div-add-mod' x 2147483648) (mod-lt x (lit< tt)) l

module _ (k c b : ℕ) (hk : k < p) (hc : c ≤ p) (hb : b ≤ p) where
  pub line_whole : (y : ℕ) → y ≡ k * c → y + b ≤ 4611686014132420609
  line_whole y e = omega (arith, e, whole_low k c b hk hc hb)

  pub line_low : line_at k c b ≤ p
  unfolding line_at fold
  line_low = fold_twice ((k * c + b) % 2147483648 + (k * c + b) / 2147483648) (fold_once (k * c + b) (whole_low k c b hk hc hb))

-- nothing stays nothing
pub line_nothing : (k c b : ℕ) → c ≡ 0 → b ≡ 0 → line_at k c b ≡ 0
unfolding line_at fold
line_nothing k c b ec eb = ap₂ (λ (x y : ℕ). line_at k x y) ec eb ∙ ap (λ (z : ℕ). fold (fold (z + 0))) (mul-zero k)
