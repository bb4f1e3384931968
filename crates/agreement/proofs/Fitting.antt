-- The turns of the loops in src/lib.rt: a test of every further node with its value.
use Prim.Native.Nat.{ℕ, suc, ◌+◌, ◌-◌, ◌≤◌, ◌<◌}
use mathlib.Core.Path.{◌≡◌, refl, sym, ◌∙◌, ap, ap₂}
use mathlib.Core.Bool.{Bool, true, false}
use mathlib.Core.List.{List, [], ◌∷◌}
use native.Mathlib.Numerals.{add-one}
use native.Mathlib.Omega.{arith}
use borrow.Author.Tests.{lt-ltb, le-ltb}
use lib.Dec.{eqb}
use lib.ListN.{length, take, drop, get_or, length-drop, drop_of_length-le}
use lib.Seq.{drop-cons, get_or-take, get_or-drop, length-take-le}
use Rattle.field.specs.Modulus.{p}
use Rattle.field.specs.Arithmetic.{product}
use Rattle.poly.specs.Counting.{All, Elements}
use Rattle.poly.specs.Polynomial.{weighted}
use Rattle.inverses.specs.InverseTable.{Inverts}
use Rattle.agreement.specs.Agreement.{all_pairs}
use Rattle.agreement.specs.Sums.{table_part, fits}

module _ (test : ℕ → ℕ → Bool) (zs ys : List ℕ) where
  abbrev pub Tested : ℕ → Type 0
  Tested i = all_pairs test (drop i zs) (drop i ys) ≡ all_pairs test zs ys

  next : (i : ℕ) → i < length zs → i < length ys → Tested i
      → elim (test (get_or zs i 0) (get_or ys i 0)) as (λ t. Bool) [ true ↦ all_pairs test (drop (suc i) zs) (drop (suc i) ys) | false ↦ false ]
      ≡ all_pairs test zs ys
  unfolding all_pairs
  next i h k e = rw (drop-cons zs i 0 h, drop-cons ys i 0 k) at e

  pub tested_stop : (i : ℕ) → i < length zs → length ys ≡ length zs → Tested i → test (get_or zs i 0) (get_or ys i 0) ≡ false
      → false ≡ all_pairs test zs ys
  tested_stop i h l e f =
      let k : i < length ys = omega arith in
      sym (ap (λ (t : Bool). elim t as (λ u. Bool) [ true ↦ all_pairs test (drop (suc i) zs) (drop (suc i) ys) | false ↦ false ]) f) ∙ next i h k e

  pub tested_turn : (i : ℕ) → i < length zs → length ys ≡ length zs → Tested i → test (get_or zs i 0) (get_or ys i 0) ≡ true → Tested (i + 1)
  tested_turn i h l e f =
      let k : i < length ys = omega arith in
      ap (λ (n : ℕ). all_pairs test (drop n zs) (drop n ys)) (add-one i)
      ∙ sym (ap (λ (t : Bool). elim t as (λ u. Bool) [ true ↦ all_pairs test (drop (suc i) zs) (drop (suc i) ys) | false ↦ false ]) f) ∙ next i h k e

  pub tested_end : (i : ℕ) → length zs ≤ i → Tested i → true ≡ all_pairs test zs ys
  unfolding all_pairs
  tested_end i h e = rw (drop_of_length-le zs h) at e

-- a test's answer, where the node is known by another name
pub at_node : (test : ℕ → ℕ → Bool) (z w y : ℕ) (r b : Bool) → w ≡ z → r ≡ test w y → r ≡ b → test z y ≡ b
at_node test z w y r b q e f = ap (λ (k : ℕ). test k y) (sym q) ∙ sym e ∙ f

-- a part of the table is of elements, as `weigh_elements` needs it
elements_by_places : (l : List ℕ) → ((i : ℕ) → i < length l → get_or l i 0 < p) → Elements l
elements_by_places [] h = tt
elements_by_places (x ∷ l) h = (h 0 (omega arith), elements_by_places l (λ i k. h (suc i) (omega arith)))

module _ (t : List ℕ) (from z : ℕ) (within : z ≤ length t) where
  pub taken_length : length (take (z - from) (drop from t)) ≡ z - from
  taken_length = length-take-le (z - from) (drop from t) (omega (arith, length-drop from t))

  pub part_elements : Inverts t → Elements (take (z - from) (drop from t))
  part_elements table = elements_by_places (take (z - from) (drop from t)) each
    where
      each : (i : ℕ) → i < length (take (z - from) (drop from t)) → get_or (take (z - from) (drop from t)) i 0 < p
      each i h =
          let k : i < z - from = omega (arith, taken_length) in
          rw (get_or-take (z - from) (drop from t) i 0 k, get_or-drop from t i 0) (table.elements (from + i) (omega arith))

-- one value
module _ (table above below : List ℕ) (z y : ℕ) where
  abbrev chosen : Bool → Bool
  chosen t =
      elim t as (λ u. Bool)
      [ true ↦ eqb (weighted above (table_part table (length below) z)) (product y (weighted below (table_part table (length below) z))) | false ↦ false ]

  pub fits_beyond : 2147483647 ≤ y → false ≡ fits table above below z y
  unfolding fits
  fits_beyond h = sym (ap chosen (le-ltb y p h))

  pub fits_by : (top bottom w : ℕ) → y < 2147483647 → top ≡ weighted above (table_part table (length below) z)
      → bottom ≡ weighted below (table_part table (length below) z) → w ≡ product y bottom → eqb top w ≡ fits table above below z y
  unfolding fits
  fits_by top bottom w h et eb ew = ap₂ eqb et (ew ∙ ap (product y) eb) ∙ sym (ap chosen (lt-ltb y p h))

-- two tests that answer alike at every further node
pub pairs_same : (f g : ℕ → ℕ → Bool) (zs ws : List ℕ) → All (λ z. (w : ℕ) → f z w ≡ g z w) zs → all_pairs f zs ws ≡ all_pairs g zs ws
unfolding all_pairs
pairs_same f g [] ws a = refl
pairs_same f g (z ∷ zs) [] a = refl
pairs_same f g (z ∷ zs) (w ∷ ws) a =
    ap₂ (λ (s t : Bool). elim s as (λ u. Bool) [ true ↦ t | false ↦ false ]) (a.0 w) (pairs_same f g zs ws a.1)
