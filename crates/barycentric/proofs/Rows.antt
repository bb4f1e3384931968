-- The turns of the loops in src/lib.rt that fill the row of weights, as facts about plain lists and numbers.
use Prim.Native.Nat.{ℕ, suc, ◌+◌, ◌-◌, ◌%◌, ◌≤◌, ◌<◌}
use mathlib.Core.Path.{◌≡◌, refl, sym, ◌∙◌, ap, ap₂}
use mathlib.Core.Bool.{Bool, true, false}
use mathlib.Core.List.{List, [], ◌∷◌, ◌++◌}
use native.Mathlib.Nat.{not-suc-le-zero, mod-eq_of_lt}
use native.Mathlib.Decide.{dec_lt}
use native.Mathlib.Numerals.{add-one}
use native.Mathlib.Omega.{arith}
use borrow.Author.Tests.{eq-eqb, ne_eqb}
use lib.ListN.{length, take, get_or, set, length-append, get_or-append}
use lib.Seq.{take-suc-set, take_all, get_or-take, get_or-append_seam}
use Rattle.field.specs.Modulus.{p}
use Rattle.field.specs.Arithmetic.{difference, product}
use Rattle.inverses.specs.InverseTable.{Inverts}
use Rattle.barycentric.specs.Weights.{alternating, mirrored, firsts}
use Rattle.barycentric.proofs.Alternating.{negative_inverse_lem, alternating_below, alternating_next, alternating_mirror}

-- an entry of the table
module _ (t : List ℕ) (k : ℕ) (right : Inverts t) (some : 0 < k) (in-it : k ≤ length t) where
  pub entry_below : get_or t (k - 1) 0 ≤ 2147483647
  entry_below = omega (arith, right.elements (k - 1) (omega arith))

  pub entry_negative : product (2147483647 - get_or t (k - 1) 0) (difference 0 k) ≡ 1
  entry_negative =
      let q : k - 1 + 1 ≡ k = omega arith in
      negative_inverse_lem (get_or t (k - 1) 0) k (right.elements (k - 1) (omega arith)) (rw q at (right.times (k - 1) (omega arith)))

-- a list that is filled from the front
module _ (f : ℕ → ℕ) where
  pub length_firsts : (n : ℕ) → length (firsts f n) ≡ n
  unfolding firsts
  length_firsts ℕ.zero = refl
  length_firsts (suc n) = let ih = length_firsts n in let s = length-append (firsts f n) (f n ∷ []) in omega arith

  pub firsts_turn : (l : List ℕ) (i v : ℕ) → i < length l → take i l ≡ firsts f i → v ≡ f i → take (i + 1) (set l i v) ≡ firsts f (i + 1)
  unfolding firsts
  firsts_turn l i v h e ev = rw (add-one i) (take-suc-set l i v h ∙ ap₂ (λ (s : List ℕ) (w : ℕ). s ++ (w ∷ [])) e ev)

  pub firsts_end : (l : List ℕ) (i n : ℕ) → n ≤ i → i ≤ n → length l ≡ n → take i l ≡ firsts f i → l ≡ firsts f n
  firsts_end l i n h k e g =
      let q : i ≡ n = omega arith in
      sym (take_all i l (omega arith)) ∙ g ∙ ap (firsts f) q

  pub firsts_stop : (l : List ℕ) (i n : ℕ) → n ≤ i → i ≤ n → take i l ≡ firsts f i → take n l ≡ firsts f n
  firsts_stop l i n h k e = let q : i ≡ n = omega arith in rw q at e

  pub firsts_at : (n i : ℕ) → i < n → get_or (firsts f n) i 0 ≡ f i
  unfolding firsts
  firsts_at ℕ.zero i h = absurd (not-suc-le-zero h)
  firsts_at (suc n) i h = go (dec_lt i n) (firsts_at n i)
    where
      go : Dec (i < n) → (i < n → get_or (firsts f n) i 0 ≡ f i) → get_or (firsts f n ++ (f n ∷ [])) i 0 ≡ f i
      go (yes l) ih = get_or-append (firsts f n) (f n ∷ []) 0 i (omega (arith, length_firsts n)) ∙ ih l
      go (no l) ih =
          let q : i ≡ length (firsts f n) = omega (arith, length_firsts n) in
          let r : n ≡ i = omega (arith, length_firsts n) in
          ap (λ (k : ℕ). get_or (firsts f n ++ (f n ∷ [])) k 0) q ∙ get_or-append_seam (firsts f n) (f n) [] 0 ∙ ap f r

  pub firsts_read : (l : List ℕ) (n i : ℕ) → i < n → take n l ≡ firsts f n → get_or l i 0 ≡ f i
  firsts_read l n i h e = sym (get_or-take n l i 0 h) ∙ ap (λ (s : List ℕ). get_or s i 0) e ∙ firsts_at n i h

-- the row of weights: n numbers, up to the middle and from there on
module _ (n : ℕ) where
  pub row_first : 1 ≡ alternating (n - 1) 0
  unfolding alternating
  row_first = refl

  pub row_start : (l : List ℕ) → 0 < length l → take 1 (set l 0 1) ≡ firsts (alternating (n - 1)) 1
  unfolding firsts alternating
  row_start l h = take-suc-set l 0 1 h

  pub row_next : (x b e f w : ℕ) → 0 < x → x < n → b ≡ alternating (n - 1) (x - 1) → product e (difference 0 x) ≡ 1
      → f ≡ product (n - x) e → w ≡ product b f → w ≡ alternating (n - 1) x
  row_next x b e f w o h eb ee ef ew =
      let q : x - 1 + 1 ≡ x = omega arith in
      let d : n - x ≡ n - 1 - (x - 1) = omega arith in
      rw q at
      (alternating_next (n - 1) (x - 1) b e f w (omega arith) (ap (λ (k : ℕ). product e (difference 0 k)) q ∙ ee) eb
      (ef ∙ ap (λ (k : ℕ). product k e) d) ew)

  pub row_at : (x w : ℕ) → w ≡ alternating (n - 1) x → w ≡ alternating (n - 1) (x + 1 - 1)
  row_at x w e = let q : x ≡ x + 1 - 1 = omega arith in e ∙ ap (alternating (n - 1)) q

  pub row_below : (l : List ℕ) (k i : ℕ) → i < k → take k l ≡ firsts (alternating (n - 1)) k → get_or l i 0 < p
  row_below l k i h e = rw (firsts_read (alternating (n - 1)) l k i h e) (alternating_below (n - 1) i)

  pub row_mirror : (l : List ℕ) (x v : ℕ) → x < n → n - 1 - x < x → take x l ≡ firsts (alternating (n - 1)) x
      → v ≡ mirrored n (get_or l (n - 1 - x) 0) → v ≡ alternating (n - 1) x
  row_mirror l x v h k e ev =
      let q : n ≡ n - 1 + 1 = omega arith in
      ev ∙ ap (λ (j : ℕ). mirrored j (get_or l (n - 1 - x) 0)) q
      ∙ alternating_mirror (n - 1) x (get_or l (n - 1 - x) 0) (omega arith) (firsts_read (alternating (n - 1)) l x (n - 1 - x) k e)

module _ (n b : ℕ) (low : b < p) where
  pub mirrored_odd : n % 2 ≡ 1 → b ≡ mirrored n b
  unfolding mirrored
  mirrored_odd h = sym (ap (λ (t : Bool). elim t as (λ z. ℕ) [ true ↦ b | false ↦ difference 0 b ]) (eq-eqb (n % 2) 1 h))

  even : (n % 2 ≡ 1 → ⊥) → difference 0 b ≡ mirrored n b
  unfolding mirrored
  even h = sym (ap (λ (t : Bool). elim t as (λ z. ℕ) [ true ↦ b | false ↦ difference 0 b ]) (ne_eqb (n % 2) 1 h))

  pub mirrored_zero : (n % 2 ≡ 1 → ⊥) → b ≡ 0 → 0 ≡ mirrored n b
  unfolding difference
  mirrored_zero h z = sym (ap (λ (u : ℕ). (0 + (p - u % p)) % p) z) ∙ even h

  pub mirrored_even : (n % 2 ≡ 1 → ⊥) → (b ≡ 0 → ⊥) → 2147483647 - b ≡ mirrored n b
  unfolding difference
  mirrored_even h z =
      let s : b % p ≡ b = mod-eq_of_lt low in
      let q : p - b ≡ 0 + (p - b % p) = omega arith in
      let t : (p - b) % p ≡ p - b = mod-eq_of_lt (omega arith) in
      sym t ∙ ap (λ (u : ℕ). u % p) q ∙ even h

-- the row's length is known by another name
pub row_sized : (l : List ℕ) (k n : ℕ) → k ≡ n → l ≡ firsts (alternating (k - 1)) k → l ≡ firsts (alternating (n - 1)) n
row_sized l k n q e = e ∙ ap (λ (j : ℕ). firsts (alternating (j - 1)) j) q

pub row_sized_half : (l : List ℕ) (h k n : ℕ) → k ≡ n → take h l ≡ firsts (alternating (n - 1)) h → take h l ≡ firsts (alternating (k - 1)) h
row_sized_half l h k n q e = e ∙ ap (λ (j : ℕ). firsts (alternating (j - 1)) h) (sym q)
