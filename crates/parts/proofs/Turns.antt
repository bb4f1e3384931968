-- The turns of the loops in src/lib.rt, each as a fact about plain lists and numbers.
use Prim.Native.Nat.{ℕ, zero, suc, ◌+◌, ◌*◌, ◌-◌, ◌/◌, ◌%◌, ◌≤◌, ◌<◌}
use mathlib.Core.Path.{◌≡◌, refl, sym, ◌∙◌, ap, ap₂}
use mathlib.Core.Bool.{cond}
use mathlib.Core.List.{List, [], ◌∷◌, ◌++◌, append_assoc, append-nil}
use native.Mathlib.Numerals.{add-one}
use native.Mathlib.Nat.{mul-le-mul_right, suc-mul, add-sub_cancel_left}
use native.Mathlib.Omega.{arith}
use mir.Syntax.{w64}
use mir.Val.{Fits}
use lib.Dec.{eqb}
use lib.ListN.{length, take, drop, get_or, set, length-drop}
use lib.Seq.{take-suc-set, take_all, length-take-le}
use Rattle.field.specs.Arithmetic.{sum, product}
use Rattle.poly.specs.Polynomial.{value, powers, weighted}
use Rattle.poly.specs.Counting.{Elements}
use Rattle.poly.proofs.Bounds.{powers_below}
use Rattle.poly.proofs.Numbers.{weighted_powers}
use Rattle.shape.specs.declared.Shape.{Shape}
use Rattle.shape.specs.Bounds.{most_posts, longest_row, longest_v}
use Rattle.shape.specs.Lengths.{Valid, v_length}
use Rattle.shape.proofs.Small.{each_small}
use Rattle.parts.specs.Draw.{each_from}
use Rattle.parts.specs.Between.{v_of, value_of, weighed_at, woven, sum_at, Higher}

-- block i of n blocks of k numbers lies in their list
pub block_room : (i n k m : ℕ) → i < n → m ≡ n * k → i * k + k ≤ m
block_room i n k m h e = omega (arith, mul-le-mul_right k h, suc-mul i k)

-- the polynomial of post i + 1, as code has it: k numbers
module _ (s : Shape) (vs : List ℕ) (i k : ℕ) (ek : k ≡ v_length s) (many : length vs ≡ s.n * v_length s) (h : i < s.n) where
  pub v_room : i * k + k ≤ length vs
  v_room = block_room i s.n k (length vs) h (many ∙ ap (λ (j : ℕ). s.n * j) (sym ek))

  small : Valid s → i * k + k ≤ most_posts * longest_row
  small v = omega (arith, v_room, many, ap (λ (j : ℕ). s.n * j) ek, each_small s k v (omega (arith, ek, v.n_in, v.t_in, v.reach_in)))

  pub v_fits : Valid s → Fits w64 (i * k)
  v_fits v = record { fits = omega (arith, small v) }

  pub v_end_fits : Valid s → Fits w64 (i * k + k)
  v_end_fits v = record { fits = omega (arith, small v) }

  pub v_bytes_fit : Valid s → Fits w64 (i * k * 4)
  v_bytes_fit v = record { fits = omega (arith, small v) }

  pub v_is : take (i * k + k - i * k) (drop (i * k) vs) ≡ v_of s vs i
  v_is = rw (add-sub_cancel_left (i * k) k, ek)

  pub v_length_is : length (take (i * k + k - i * k) (drop (i * k) vs)) ≡ v_length s
  v_length_is = rw (add-sub_cancel_left (i * k) k) (length-take-le k (drop (i * k) vs) (omega (arith, v_room, length-drop (i * k) vs)) ∙ ek)

-- a list filled from the front with f 0, f 1, ..: what is written and what is to come make the whole
module _ (f : ℕ → ℕ) (n : ℕ) (l : List ℕ) where
  pub fill_start : take 0 l ++ each_from 0 (n - 0) f ≡ each_from 0 n f
  fill_start = ap (λ (m : ℕ). each_from 0 m f) (omega arith)

  pub fill_turn : (i v : ℕ) → i < n → length l ≡ n → take i l ++ each_from i (n - i) f ≡ each_from 0 n f → v ≡ f i
      → take (i + 1) (set l i v) ++ each_from (i + 1) (n - (i + 1)) f ≡ each_from 0 n f
  unfolding each_from
  fill_turn i v h k e g =
      let q : n - i ≡ suc (n - suc i) = omega arith in
      let j : i < length l = omega arith in
      rw (g, add-one i, take-suc-set l i (f i) j, append_assoc) (rw q at e)

  pub fill_end : (i : ℕ) → n ≤ i → length l ≡ n → take i l ++ each_from i (n - i) f ≡ each_from 0 n f → l ≡ each_from 0 n f
  unfolding each_from
  fill_end i h k e =
      let q : n - i ≡ 0 = omega arith in
      sym (append-nil l) ∙ rw (q, take_all i l (omega arith)) at e

-- a value is the sum of the products with the powers of the point
pub weighed : (cs old new : List ℕ) (x r : ℕ) → length cs ≤ length old → new ≡ powers x (length old) → r ≡ weighted cs new
    → r ≡ value cs x
weighed cs old new x r h e g = g ∙ ap (weighted cs) e ∙ weighted_powers cs x (length old) h

-- what `weigh_elements` needs: few powers, and each an element
pub powers_short : (s : Shape) (old : List ℕ) → Valid s → length old ≡ v_length s → length old ≤ longest_v
powers_short s old v e = omega (arith, e, v.n_in, v.t_in, v.reach_in)

pub elements_filled : (old new : List ℕ) (x : ℕ) → new ≡ powers x (length old) → Elements new
elements_filled old new x e = rw e (powers_below x (length old))

-- a check value
pub weighed_is : (s : Shape) (vs powers q : List ℕ) (i r : ℕ) → q ≡ v_of s vs i → r ≡ weighted q powers → r ≡ weighed_at s powers vs i
unfolding weighed_at
weighed_is s vs powers q i r e f = rw (← e) f

take_few : (k : ℕ) (l : List ℕ) → length (take k l) ≤ k
take_few zero l = omega arith
take_few (suc k) [] = omega arith
take_few (suc k) (x ∷ l) = let h = take_few k l in omega arith

pub check_is : (s : Shape) (vs q : List ℕ) (w i r : ℕ) → q ≡ v_of s vs i → r ≡ value q w → r ≡ value_of s w vs i
unfolding value_of
check_is s vs q w i r e f = rw (← e) f

pub each_agree : (f g : ℕ → ℕ) → ((i : ℕ) → f i ≡ g i) → (j m : ℕ) → each_from j m f ≡ each_from j m g
unfolding each_from
each_agree f g h j zero = refl
each_agree f g h j (suc m) = ap₂ ◌∷◌ (h j) (each_agree f g h (suc j) m)

pub checks_weighed : (s : Shape) (vs ps : List ℕ) (w : ℕ) → ps ≡ powers w (v_length s) → (h : ℕ) (old : List ℕ) (n : ℕ)
    → each_from 0 n (woven s.points h (weighed_at s ps vs) old) ≡ each_from 0 n (woven s.points h (value_of s w vs) old)
unfolding value_of weighed_at woven
checks_weighed s vs ps w e h old n =
    each_agree (woven s.points h (weighed_at s ps vs) old) (woven s.points h (value_of s w vs) old)
    (λ m. ap (λ (z : ℕ). cond (eqb (m % s.points) h) z (get_or old m 0)) (one (m / s.points))) 0 n
  where
    one : (i : ℕ) → weighed_at s ps vs i ≡ value_of s w vs i
    one i = ap (weighted (v_of s vs i)) e ∙ weighted_powers (v_of s vs i) w (v_length s) (take_few (v_length s) (drop (i * v_length s) vs))

-- a value of f
pub f_value : (c x r u : ℕ) (higher old new : List ℕ) → length higher ≤ length old → new ≡ powers x (length old)
    → u ≡ weighted higher new → r ≡ sum c (product x u) → r ≡ value (c ∷ higher) x
unfolding value
f_value c x r u higher old new h e f g = g ∙ ap (λ (y : ℕ). sum c (product x y)) (weighed higher old new x u h e f)

pub f_horner : (c x r u : ℕ) (higher : List ℕ) → u ≡ value higher x → r ≡ sum c (product x u) → r ≡ value (c ∷ higher) x
unfolding value
f_horner c x r u higher e g = g ∙ ap (λ (y : ℕ). sum c (product x y)) e

pub higher_room : (s : Shape) (higher powers : List ℕ) → Valid s → length powers ≡ v_length s → Higher s higher → length higher ≤ length powers
higher_room s higher powers v e h = omega (arith, e, h, v.reach_in)

-- a sum
pub some_coefficient : (s : Shape) (q : List ℕ) → length q ≡ v_length s → 0 < length q
some_coefficient s q e = omega (arith, e)

pub post_fits : (s : Shape) (i : ℕ) → Valid s → i < s.n → i + 1 ≤ most_posts
post_fits s i v h = omega (arith, v.n_in)

pub sum_is : (s : Shape) (f vs q : List ℕ) (i u v : ℕ) → q ≡ v_of s vs i → u ≡ value f (i + 1)
    → v ≡ sum (get_or q 0 0) u → v ≡ sum_at s f vs i
unfolding sum_at
sum_is s f vs q i u v a b d = rw (← a, ← b) d
