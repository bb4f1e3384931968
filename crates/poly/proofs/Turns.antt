-- The turns of the loops in src/lib.rt, each as a fact about plain lists and numbers.
use Prim.Native.Nat.{ℕ, suc, ◌+◌, ◌*◌, ◌-◌, ◌%◌, ◌≤◌, ◌<◌}
use mathlib.Core.Path.{◌≡◌, refl, sym, ◌∙◌, ap}
use mathlib.Core.List.{List, [], ◌∷◌, ◌++◌, append_assoc, append-nil}
use Rattle.std.specs.List.{fold}
use Rattle.std.proofs.lemmas.List.{take-append-drop, reverse-append}
use Rattle.std.proofs.lemmas.List.Sums.{fold-append}
use mathlib.Core.List.{reverse}
use native.Mathlib.Nat.{sub-zero, le_of_suc-le-suc, not-suc-le-zero, mul-zero, add-zero}
use native.Mathlib.Numerals.{add-one}
use native.Mathlib.Decide.{dec_le, dec_lt}
use native.Mathlib.Omega.{arith}
use lib.ListN.{length, take, drop, get_or, set, length-drop, length-set, drop_of_length-le}
use lib.Seq.{drop-cons, drop-drop, drop-length, take-suc-set, take_all}
use Rattle.field.specs.Modulus.{p}
use Rattle.field.specs.Arithmetic.{sum, difference, product}
use Rattle.field.proofs.Modular.{sum_assoc, sum_comm, sum_zero, product_assoc, product_comm, product_one}
use Rattle.field.proofs.Residues.{mul_mod_mod}
use Rattle.poly.specs.Polynomial.{value, powers_from, weighted}
use Rattle.poly.specs.Interpolation.{nodal}
use Rattle.poly.proofs.Bounds.{weighted_below, nodal_below}

-- Horner's rule, from the last coefficient down

-- what is multiplied needs no remainder
whole : (x b : ℕ) → product x (sum b (product x 0)) ≡ product x b
unfolding sum product
whole x b = mul_mod_mod x (b + (x * 0) % p) p ∙ ap (λ (z : ℕ). (x * (b + z % p)) % p) (mul-zero x) ∙ ap (λ (z : ℕ). (x * z) % p) (add-zero b)

horner : (cs rest : List ℕ) (x r : ℕ) → r ≡ value rest x → fold (λ v c. sum c (product x v)) r (reverse cs) ≡ value (cs ++ rest) x
unfolding value
horner [] rest x r e = e
horner (c ∷ cs) rest x r e =
    ap (fold (λ v c. sum c (product x v)) r) (reverse-append (c ∷ []) cs) ∙ fold-append (λ v c. sum c (product x v)) r (reverse cs) (c ∷ [])
    ∙ ap (λ (v : ℕ). sum c (product x v)) (horner cs rest x r e)

pub horner_one : (cs : List ℕ) (x : ℕ) → length cs ≡ 1 → sum (get_or cs 0 0) (product x 0) ≡ value cs x
unfolding value
horner_one [] x e = absurd (omega arith)
horner_one (c ∷ []) x e = refl
horner_one (c ∷ d ∷ cs) x e = absurd (omega (arith, e))

-- the last two coefficients begin
pub horner_folded : (cs : List ℕ) (x first v : ℕ) → 2 ≤ length cs
    → first ≡ sum (get_or cs (length cs - 2) 0) (product x (get_or cs (length cs - 1) 0))
    → v ≡ fold (λ v c. sum c (product x v)) first (reverse (take (length cs - 2) cs)) → v ≡ value cs x
unfolding value
horner_folded cs x first v many e g =
    g ∙ horner (take (length cs - 2) cs) (drop (length cs - 2) cs) x first (e ∙ start)
    ∙ ap (λ (l : List ℕ). value l x) (take-append-drop (length cs - 2) cs)
  where
    last : drop (suc (length cs - 2)) cs ≡ get_or cs (length cs - 1) 0 ∷ []
    last =
        let q : suc (length cs - 2) ≡ length cs - 1 = omega arith in
        let e : suc (length cs - 1) ≡ length cs = omega arith in
        ap (λ (k : ℕ). drop k cs) q ∙ drop-cons cs (length cs - 1) 0 (omega arith)
        ∙ ap (λ (k : ℕ). get_or cs (length cs - 1) 0 ∷ drop k cs) e ∙ ap (λ (l : List ℕ). get_or cs (length cs - 1) 0 ∷ l) (drop-length cs)

    start : sum (get_or cs (length cs - 2) 0) (product x (get_or cs (length cs - 1) 0)) ≡ value (drop (length cs - 2) cs) x
    start =
        ap (λ (y : ℕ). sum (get_or cs (length cs - 2) 0) y)
        (sym (whole x (get_or cs (length cs - 1) 0)) ∙ ap (λ (l : List ℕ). product x (value l x)) (sym last))
        ∙ ap (λ (l : List ℕ). value l x) (sym (drop-cons cs (length cs - 2) 0 (omega arith)))

-- the list of powers, from the front: the powers to come complete it
module _ (x : ℕ) where
  pub powers_start : (l : List ℕ) → take 0 l ++ powers_from 1 x (length l - 0) ≡ powers_from 1 x (length l)
  powers_start l = ap (powers_from 1 x) (omega arith)

  pub powers_turn : (l : List ℕ) (n i y v : ℕ) → i < n → length l ≡ n
      → take i l ++ powers_from y x (n - i) ≡ powers_from 1 x n → v ≡ product y x
      → take (i + 1) (set l i y) ++ powers_from v x (n - (i + 1)) ≡ powers_from 1 x n
  unfolding powers_from
  powers_turn l n i y v h k e f =
      let q : n - i ≡ suc (n - (i + 1)) = omega arith in
      let j : i < length l = omega arith in
      rw (f, add-one i, take-suc-set l i y j, append_assoc, ← add-one i) (rw q at e)

  -- two numbers at once: z is the power after y
  pub powers_two : (l : List ℕ) (n i y z v : ℕ) → length l ≡ n
      → take i l ++ powers_from y x (n - i) ≡ powers_from 1 x n → z ≡ product y x → v ≡ product z x
      → i + 1 < n → take (i + 2) (set (set l i y) (i + 1) z) ++ powers_from v x (n - (i + 2)) ≡ powers_from 1 x n
  powers_two l n i y z v k e ez ev h =
      let once = powers_turn l n i y z (omega arith) k e ez in
      let q : i + 1 + 1 ≡ i + 2 = omega arith in
      rw q at (powers_turn (set l i y) n (i + 1) z v h (length-set l i y ∙ k) once ev)

  -- the chains of even and odd powers: the next of each
  pub even_next : (y z v s : ℕ) → z ≡ product y x → s ≡ product x x → v ≡ product y s → v ≡ product z x
  even_next y z v s ez es ev =
      ev ∙ ap (product y) es ∙ sym (product_assoc y x x) ∙ ap (λ (u : ℕ). product u x) (sym ez)

  pub odd_next : (y z v w s : ℕ) → z ≡ product y x → s ≡ product x x → v ≡ product y s → w ≡ product z s → w ≡ product v x
  odd_next y z v w s ez es ev ew =
      even_next z (product z x) w s refl es ew ∙ ap (λ (u : ℕ). product u x) (sym (even_next y z v s ez es ev))

  pub powers_end : (l : List ℕ) (n i y : ℕ) → n ≤ i → length l ≡ n
      → take i l ++ powers_from y x (n - i) ≡ powers_from 1 x n → l ≡ powers_from 1 x n
  unfolding powers_from
  powers_end l n i y h k e =
      let q : n - i ≡ 0 = omega arith in
      sym (append-nil l) ∙ rw (q, take_all i l (omega arith)) at e

  -- the last of an odd number
  pub powers_last : (l : List ℕ) (n i y : ℕ) → i < n → n - i ≤ 1 → length l ≡ n
      → take i l ++ powers_from y x (n - i) ≡ powers_from 1 x n → set l i y ≡ powers_from 1 x n
  powers_last l n i y h last k e =
      powers_end (set l i y) n (i + 1) (product y x) (omega arith) (length-set l i y ∙ k) (powers_turn l n i y (product y x) h k e refl)

-- a running sum: with the sum of what is to come it makes the whole
sum_turn : (r s rest whole : ℕ) → sum r (sum s rest) ≡ whole → sum (sum r s) rest ≡ whole
sum_turn r s rest whole f = sum_assoc r s rest ∙ f

sum_end : (r whole : ℕ) → r < p → sum r 0 ≡ whole → r ≡ whole
sum_end r whole h e = sym (sum_comm r 0 ∙ sum_zero r h) ∙ e

-- the sum of two lists' products, in two parts
weighted_split : (xs ys : List ℕ) (k : ℕ) → k ≤ length xs → k ≤ length ys
    → sum (weighted (take k xs) (take k ys)) (weighted (drop k xs) (drop k ys)) ≡ weighted xs ys
unfolding weighted
weighted_split xs ys ℕ.zero h j = sum_zero (weighted xs ys) (weighted_below xs ys)
weighted_split [] ys (suc k) h j = absurd (not-suc-le-zero h)
weighted_split (x ∷ xs) [] (suc k) h j = absurd (not-suc-le-zero j)
weighted_split (x ∷ xs) (y ∷ ys) (suc k) h j =
    sum_assoc (product x y) (weighted (take k xs) (take k ys)) (weighted (drop k xs) (drop k ys))
    ∙ ap (sum (product x y)) (weighted_split xs ys k (le_of_suc-le-suc h) (le_of_suc-le-suc j))

-- a part is not empty
pub weighted_less : (i j m : ℕ) → (j < m - i → 65536 ≤ j) → i < m → m - (i + j) < m - i
weighted_less i j m h l = go (dec_lt j (m - i))
  where
    go : Dec (j < m - i) → m - (i + j) < m - i
    go (yes a) = omega (arith, h a)
    go (no a) = omega arith

-- to the end of the shorter, part by part
module _ (xs ys : List ℕ) where
  pub weighted_start : (i m r : ℕ) → i ≤ m → m ≤ length xs → m ≤ length ys
      → r ≡ weighted (take (i - 0) (drop 0 xs)) (take (i - 0) (drop 0 ys)) → sum r (weighted (drop i xs) (drop i ys)) ≡ weighted xs ys
  weighted_start i m r l h k e = rw (e, sub-zero i) (weighted_split xs ys i (omega arith) (omega arith))

  pub weighted_turn : (i j m r s v : ℕ) → i < m → j ≤ m - i → m ≤ length xs → m ≤ length ys
      → sum r (weighted (drop i xs) (drop i ys)) ≡ weighted xs ys
      → s ≡ weighted (take (i + j - i) (drop i xs)) (take (i + j - i) (drop i ys)) → v ≡ sum r s
      → sum v (weighted (drop (i + j) xs) (drop (i + j) ys)) ≡ weighted xs ys
  weighted_turn i j m r s v o l h k e f g =
      let q : i + j - i ≡ j = omega arith in
      let t = weighted_split (drop i xs) (drop i ys) j (omega (arith, length-drop i xs)) (omega (arith, length-drop i ys)) in
      rw (g, f, q) (sum_turn r _ _ (weighted xs ys) (ap (sum r) (rw (drop-drop j i xs, drop-drop j i ys) at t) ∙ e))

  weighted_none : (l : List ℕ) → weighted l [] ≡ 0
  unfolding weighted
  weighted_none [] = refl
  weighted_none (x ∷ l) = refl

  pub weighted_end : (i r m : ℕ) → m ≤ i → (m < length xs → length ys ≤ m) → r < p
      → sum r (weighted (drop i xs) (drop i ys)) ≡ weighted xs ys → r ≡ weighted xs ys
  unfolding weighted
  weighted_end i r m h k l e = sum_end r (weighted xs ys) l (go (dec_le (length xs) m))
    where
      go : Dec (length xs ≤ m) → sum r 0 ≡ weighted xs ys
      go (yes a) = let b : length xs ≤ i = omega arith in rw (drop_of_length-le xs b) at e
      go (no a) =
          let b : length ys ≤ i = omega (arith, k (omega arith)) in
          rw (drop_of_length-le ys b, weighted_none (drop i xs)) at e

-- the product of z less each node of two lists
pub nodal_join : (xs ys : List ℕ) (z : ℕ) → product (nodal xs z) (nodal ys z) ≡ nodal (xs ++ ys) z
unfolding nodal
nodal_join [] ys z = product_comm 1 (nodal ys z) ∙ product_one (nodal ys z) (nodal_below ys z)
nodal_join (x ∷ xs) ys z =
    product_assoc (difference z x) (nodal xs z) (nodal ys z) ∙ ap (product (difference z x)) (nodal_join xs ys z)
