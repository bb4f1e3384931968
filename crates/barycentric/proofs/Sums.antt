-- Sums over the numbers below a bound and over a list of numbers, in any commutative ring.
use mathlib.Core.Path.{◌≡◌, refl, sym, ◌∙◌, ap, ap₂}
use mathlib.Core.List.{List, [], ◌∷◌}
use Prim.Native.Nat.{ℕ, suc, ◌+◌, ◌-◌, ◌<◌}
use native.Mathlib.Omega.{arith}
use Rattle.field.specs.Algebra.{CommutativeRing}
use Rattle.field.proofs.Ring.{zero_add}
use Rattle.field.proofs.Expression.{A, B, C, D, E, 𝟘, ◌:+◌, ◌:*◌, ◌:-◌, :-◌, Same}
use Rattle.field.proofs.Solver.{solve}
use Rattle.poly.specs.Counting.{All}
use Rattle.barycentric.specs.Nodes.{following}

module _ {R : Type 0} (𝓡 : CommutativeRing R) where
  open 𝓡 use {add as ◌⊕◌, mul as ◌⊗◌, neg, zero, add_assoc, add_zero}

  infixl 65 ◌⊕◌
  infixl 70 ◌⊗◌
  -- h 0 + .. + h (n - 1)
  unfoldable pub sum_below_of : (ℕ → R) → ℕ → R
  sum_below_of h ℕ.zero = zero
  sum_below_of h (suc n) = sum_below_of h n ⊕ h n

  unfoldable pub sum_over : (ℕ → R) → List ℕ → R
  sum_over h [] = zero
  sum_over h (x ∷ xs) = h x ⊕ sum_over h xs

  pub sum_below_same : (g h : ℕ → R) (n : ℕ) → ((x : ℕ) → x < n → g x ≡ h x) → sum_below_of g n ≡ sum_below_of h n
  unfolding sum_below_of
  sum_below_same g h ℕ.zero e = refl
  sum_below_same g h (suc n) e = ap₂ ◌⊕◌ (sum_below_same g h n (λ x l. e x (omega arith))) (e n (omega arith))

  pub sum_below_less : (g h : ℕ → R) (n : ℕ) → sum_below_of (λ x. g x ⊕ neg (h x)) n ≡ sum_below_of g n ⊕ neg (sum_below_of h n)
  unfolding sum_below_of Same
  sum_below_less g h ℕ.zero = solve 𝓡 [] 𝟘 (𝟘 :- 𝟘) refl
  sum_below_less g h (suc n) =
      ap (λ (u : R). u ⊕ (g n ⊕ neg (h n))) (sum_below_less g h n)
      ∙ solve 𝓡 (sum_below_of g n ∷ sum_below_of h n ∷ g n ∷ h n ∷ []) (A :- B :+ (C :- D)) (A :+ C :- (B :+ D)) refl

  -- from the front
  pub sum_below_front : (h : ℕ → R) (n : ℕ) → sum_below_of h (suc n) ≡ h 0 ⊕ sum_below_of (λ x. h (suc x)) n
  unfolding sum_below_of
  sum_below_front h ℕ.zero = zero_add 𝓡 (h 0) ∙ sym (add_zero (h 0))
  sum_below_front h (suc n) = ap (λ (u : R). u ⊕ h (suc n)) (sum_below_front h n) ∙ add_assoc _ _ _

  -- from the last to the first
  pub sum_below_back : (h : ℕ → R) (n : ℕ) → sum_below_of (λ j. h (n - j)) (suc n) ≡ sum_below_of h (suc n)
  unfolding sum_below_of Same
  sum_below_back h ℕ.zero = refl
  sum_below_back h (suc n) =
      sum_below_front (λ j. h (suc n - j)) (suc n) ∙ ap (λ (u : R). u ⊕ sum_below_of (λ j. h (suc n - suc j)) (suc n)) (ap h first)
      ∙ ap (λ (u : R). h (suc n) ⊕ u)
      (sum_below_same (λ j. h (suc n - suc j)) (λ j. h (n - j)) (suc n) (λ x l. let q : suc n - suc x ≡ n - x = omega arith in ap h q) ∙ sum_below_back h n)
      ∙ solve 𝓡 (h (suc n) ∷ sum_below_of h (suc n) ∷ []) (A :+ B) (B :+ A) refl
    where
      first : suc n - 0 ≡ suc n
      first = omega arith

  pub sum_over_same : (g h : ℕ → R) (xs : List ℕ) → All (λ x. g x ≡ h x) xs → sum_over g xs ≡ sum_over h xs
  unfolding sum_over
  sum_over_same g h [] a = refl
  sum_over_same g h (x ∷ xs) a = ap₂ ◌⊕◌ a.0 (sum_over_same g h xs a.1)

  pub sum_over_zero : (h : ℕ → R) (xs : List ℕ) → All (λ x. h x ≡ zero) xs → sum_over h xs ≡ zero
  unfolding sum_over
  sum_over_zero h [] a = refl
  sum_over_zero h (x ∷ xs) a = ap₂ ◌⊕◌ a.0 (sum_over_zero h xs a.1) ∙ add_zero zero

  -- k times each term, less another
  pub sum_over_less : (k : R) (g h : ℕ → R) (xs : List ℕ)
      → sum_over (λ x. k ⊗ g x ⊕ neg (h x)) xs ≡ k ⊗ sum_over g xs ⊕ neg (sum_over h xs)
  unfolding sum_over Same
  sum_over_less k g h [] = solve 𝓡 (k ∷ []) 𝟘 (A :* 𝟘 :- 𝟘) refl
  sum_over_less k g h (x ∷ xs) =
      ap (λ (u : R). k ⊗ g x ⊕ neg (h x) ⊕ u) (sum_over_less k g h xs)
      ∙ regroup k (g x) (h x) (sum_over g xs) (sum_over h xs)
    where
      regroup : (a b c d e : R) → a ⊗ b ⊕ neg c ⊕ (a ⊗ d ⊕ neg e) ≡ a ⊗ (b ⊕ d) ⊕ neg (c ⊕ e)
      regroup a b c d e =
          solve 𝓡 (a ∷ b ∷ c ∷ d ∷ e ∷ []) (A :* B :- C :+ (A :* D :- E)) (A :* (B :+ D) :- (C :+ E)) refl

  -- the numbers below a and then those that follow
  pub sum_below_following : (h : ℕ → R) (a n : ℕ) → sum_below_of h (suc a + n) ≡ sum_below_of h (suc a) ⊕ sum_over h (following a n)
  unfolding sum_below_of sum_over following
  sum_below_following h a ℕ.zero = let q : suc a + 0 ≡ suc a = omega arith in ap (sum_below_of h) q ∙ sym (add_zero _)
  sum_below_following h a (suc n) =
      let q : suc a + suc n ≡ suc (suc a) + n = omega arith in
      ap (sum_below_of h) q ∙ sum_below_following h (suc a) n ∙ add_assoc _ _ _
