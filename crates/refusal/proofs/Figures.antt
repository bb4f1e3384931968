-- What the shared conditions mean, in figures; and of a list, whose numbers all pass a test exactly where the list does.
use Prim.Native.Nat.{ℕ, zero, suc, ◌≤◌, ◌<◌}
use mathlib.Core.Path.{◌≡◌, refl, sym, ◌∙◌, ap, ap₂}
use mathlib.Core.Bool.{Bool, true, false, not, cond, ◌||◌, ◌&&◌}
use mathlib.Core.List.{List, [], ◌∷◌}
use native.Mathlib.Decide.{dec_le}
use native.Mathlib.Omega.{arith}
use borrow.Author.Tests.{lt-ltb, le-ltb, eq-eqb, ne_eqb}
use lib.Dec.{eqb, ltb}
use lib.ListN.{length, get_or}
use Rattle.field.specs.Modulus.{p}
use Rattle.shape.specs.declared.Points.{Points}
use Rattle.refusal.specs.Conditions.{outside, beyond, any_beyond, bad_point, bad_point_count, bad_points}
use Rattle.refusal.specs.Claims.{ConditionsMean}
use Rattle.refusal.proofs.Laws.{or_false, inside, equal}
use Rattle.refusal.proofs.Elements.{below_p, element_test}

pub beyond_figures : (x : ℕ) → beyond x ≡ ltb 2147483646 x
beyond_figures x = by_size (dec_le x 2147483646)
  where
    by_size : Dec (x ≤ 2147483646) → beyond x ≡ ltb 2147483646 x
    by_size (yes h) = element_test x (omega arith) ∙ sym (le-ltb 2147483646 x h)
    by_size (no g) = ap not (le-ltb x p (omega arith)) ∙ sym (lt-ltb 2147483646 x (omega arith))

pub point_figures : (w : ℕ) → bad_point w ≡ (eqb w 0 || ltb 2147483646 w)
point_figures w = ap (λ (b : Bool). eqb w 0 || b) (beyond_figures w)

zero_low : (w : ℕ) → eqb w 0 ≡ ltb w 1
zero_low zero = refl
zero_low (suc w) = ne_eqb (suc w) 0 (λ e. omega arith) ∙ sym (le-ltb (suc w) 1 (omega arith))

point_outside : (w : ℕ) → bad_point w ≡ outside 1 2147483646 w
point_outside w = ap₂ (λ (a b : Bool). a || b) (zero_low w) (beyond_figures w)

only_where : (a b : Bool) → cond a b false ≡ (a && b)
only_where true b = refl
only_where false b = refl

pub points_figures : (points : ℕ) (w : Points)
    → bad_points points w ≡ (outside 1 2 points || (outside 1 2147483646 w.first || (eqb points 2 && outside 1 2147483646 w.second)))
unfolding bad_points
points_figures points w =
    ap₂ (λ (a b : Bool). bad_point_count points || (a || b)) (point_outside w.first)
    (only_where (eqb points 2) (bad_point w.second) ∙ ap (λ (b : Bool). eqb points 2 && b) (point_outside w.second))

-- a test of a list that holds where it holds of some number: false exactly where every number has P
module _ (test : ℕ → Bool) (any : List ℕ → Bool) (none : any [] ≡ false) (next : (x : ℕ) (xs : List ℕ) → any (x ∷ xs) ≡ (test x || any xs))
    (P : ℕ → Type 0) (passes : (x : ℕ) → test x ≡ false → P x) (fails : (x : ℕ) → P x → test x ≡ false) where
  pub each_passes : (l : List ℕ) → any l ≡ false → (i : ℕ) → i < length l → P (get_or l i 0)
  each_passes [] e i h = absurd (omega arith)
  each_passes (x ∷ xs) e zero h = passes x (or_false (test x) (any xs) (sym (next x xs) ∙ e)).0
  each_passes (x ∷ xs) e (suc i) h = each_passes xs (or_false (test x) (any xs) (sym (next x xs) ∙ e)).1 i (omega arith)

  pub none_fails : (l : List ℕ) → ((i : ℕ) → i < length l → P (get_or l i 0)) → any l ≡ false
  none_fails [] h = none
  none_fails (x ∷ xs) h =
      next x xs ∙ ap₂ (λ (a b : Bool). a || b) (fails x (h 0 (omega arith))) (none_fails xs (λ i k. h (suc i) (omega arith)))

low : (x : ℕ) → beyond x ≡ false → x ≤ 2147483646
low x e = let h = below_p x e in omega arith

pub conditions_mean : ConditionsMean
unfolding any_beyond
conditions_mean = record {
  beyond_is = beyond_figures;
  point_is = point_figures;
  points_are = points_figures;
  inside_passes = λ low high x a b. ap₂ (λ (a b : Bool). a || b) (le-ltb x low a) (le-ltb high x b);
  passes_inside = inside;
  length_passes = λ l k e. ap not (eq-eqb (length l) k e);
  passes_length = λ l k. equal (length l) k;
  numbers_pass = none_fails beyond any_beyond refl (λ x xs. refl) (λ x. x ≤ 2147483646) low (λ x h. element_test x (omega arith));
  passes_numbers = each_passes beyond any_beyond refl (λ x xs. refl) (λ x. x ≤ 2147483646) low (λ x h. element_test x (omega arith));
}
