-- Interpolation in barycentric form, over any field. Weights of nodes kill k coefficients where they make the sum of the values of
-- every polynomial with at most k coefficients zero; with weights that kill as many as there are other nodes, one node's value
-- comes from the others', and whether a value elsewhere fits is an equation between two sums.
use mathlib.Core.Path.{◌≡◌, refl, sym, ◌∙◌, ap, ap₂}
use mathlib.Core.Logic.{◌≢◌}
use mathlib.Core.List.{List, [], ◌∷◌, map}
use Prim.Native.Nat.{ℕ, suc, ◌≤◌}
use native.Mathlib.Omega.{arith}
use lib.ListN.{length, length-map}
use Rattle.field.specs.Algebra.{Field}
use Rattle.field.proofs.Ring.{mul_zero, zero_mul}
use Rattle.field.proofs.Expression.{A, B, C, D, E, F, 𝟘, ◌:+◌, ◌:*◌, ◌:-◌, :-◌, Same}
use Rattle.field.proofs.Solver.{solve}
use Rattle.field.proofs.Fields.{equal_of_difference_zero, zero_of_product_zero, product_nonzero, difference_nonzero}
use Rattle.poly.specs.Counting.{All}
use Rattle.poly.proofs.Lists.{all_map, all_mapped, all_under}
use Rattle.poly.proofs.Coefficients.{ev, quotient, times_nodes, nodal_at, division, length_quotient, ev_times_nodes, ev_constant, length_times_nodes, nodal_at_self}
use Rattle.poly.proofs.Lagrange.{nodal_at_nonzero}
use Rattle.barycentric.proofs.Sums.{sum_over, sum_over_same, sum_over_zero, sum_over_less}

module _ {R : Type 0} (𝓕 : Field R) (ι : ℕ → R) where
  open 𝓕 use {ring, inv, mul_inv, one_ne_zero}
  open ring use {add as ◌⊕◌, mul as ◌⊗◌, neg, zero, one, add_zero, mul_one}

  infixl 65 ◌⊕◌
  infixl 70 ◌⊗◌
  -- the value of f at a node
  abbrev at : List R → ℕ → R
  at f x = ev ring f (ι x)

  -- 1 / (z - x)
  abbrev pub over : R → ℕ → R
  over z x = inv (z ⊕ neg (ι x))

  abbrev pub Kills : (ℕ → R) → List ℕ → ℕ → Type 0
  Kills δ xs k = (f : List R) → length f ≤ k → sum_over ring (λ x. δ x ⊗ at f x) xs ≡ zero

  over_times : (z : R) (x : ℕ) → ι x ≢ z → (z ⊕ neg (ι x)) ⊗ over z x ≡ one
  over_times z x n = mul_inv (z ⊕ neg (ι x)) (difference_nonzero 𝓕 z (ι x) (λ e. n (sym e)))

  over_nonzero : (z : R) (x : ℕ) → ι x ≢ z → over z x ≢ zero
  over_nonzero z x n e =
      one_ne_zero (sym (over_times z x n) ∙ ap (λ (u : R). (z ⊕ neg (ι x)) ⊗ u) e ∙ mul_zero ring (z ⊕ neg (ι x)))

  module _ (δ : ℕ → R) where
    -- the two sums
    abbrev pub above : List R → R → List ℕ → R
    above f z xs = sum_over ring (λ x. δ x ⊗ at f x ⊗ over z x) xs

    abbrev pub below : R → List ℕ → R
    below z xs = sum_over ring (λ x. δ x ⊗ over z x) xs

    pub barycentric : (xs : List ℕ) (k : ℕ) → Kills δ xs k → (f : List R) → length f ≤ suc k → (z : R) → All (λ x. ι x ≢ z) xs
        → above f z xs ≡ ev ring f z ⊗ below z xs
    unfolding ev Same
    barycentric xs k kills [] h z a =
        sum_over_zero ring (λ x. δ x ⊗ zero ⊗ over z x) xs
        (all_map (λ x _. solve ring (δ x ∷ over z x ∷ []) (A :* 𝟘 :* B) 𝟘 refl) xs a)
        ∙ sym (zero_mul ring (below z xs))
    barycentric xs k kills (c ∷ cs) h z a =
        sum_over_same ring (λ x. δ x ⊗ at (c ∷ cs) x ⊗ over z x) (λ x. fz ⊗ (δ x ⊗ over z x) ⊕ neg (δ x ⊗ at q x)) xs (all_map each xs a)
        ∙ sum_over_less ring fz (λ x. δ x ⊗ over z x) (λ x. δ x ⊗ at q x) xs
        ∙ ap (λ (u : R). fz ⊗ below z xs ⊕ neg u) (kills q (omega (arith, length_quotient ring z cs)))
        ∙ solve ring (fz ⊗ below z xs ∷ []) (A :- 𝟘) A refl
      where
        q : List R
        q = quotient ring z cs

        fz : R
        fz = ev ring (c ∷ cs) z

        each : (x : ℕ) → ι x ≢ z → δ x ⊗ at (c ∷ cs) x ⊗ over z x ≡ fz ⊗ (δ x ⊗ over z x) ⊕ neg (δ x ⊗ at q x)
        each x n =
            ap (λ (u : R). δ x ⊗ u ⊗ over z x) (division ring z (ι x) c cs)
            ∙ solve ring (δ x ∷ fz ∷ ι x ∷ z ∷ at q x ∷ over z x ∷ [])
            (A :* (B :+ (C :- D) :* E) :* F) (B :* (A :* F) :- A :* E :* ((D :- C) :* F)) refl
            ∙ ap (λ (u : R). fz ⊗ (δ x ⊗ over z x) ⊕ neg (δ x ⊗ at q x ⊗ u)) (over_times z x n)
            ∙ ap (λ (u : R). fz ⊗ (δ x ⊗ over z x) ⊕ neg u) (mul_one (δ x ⊗ at q x))

    module _ (x₀ : ℕ) (xs : List ℕ) (kills : Kills δ (x₀ ∷ xs) (length xs)) where
      -- one node's value from the others'
      pub at_first : (f : List R) → length f ≤ length xs → δ x₀ ⊗ at f x₀ ≡ neg (sum_over ring (λ x. δ x ⊗ at f x) xs)
      unfolding sum_over Same
      at_first f h =
          solve ring (δ x₀ ⊗ at f x₀ ∷ sum_over ring (λ x. δ x ⊗ at f x) xs ∷ []) A (A :+ B :- B) refl
          ∙ ap (λ (u : R). u ⊕ neg (sum_over ring (λ x. δ x ⊗ at f x) xs)) (kills f h)
          ∙ solve ring (sum_over ring (λ x. δ x ⊗ at f x) xs ∷ []) (𝟘 :- A) (:- A) refl

      module _ (some : δ x₀ ≢ zero) (apart : All (λ x. ι x ≢ ι x₀) xs) (z : R) (off₀ : ι x₀ ≢ z) (off : All (λ x. ι x ≢ z) xs) where
        -- the polynomial whose roots are the other nodes shows that the sum below is not zero
        below_nonzero : below z (x₀ ∷ xs) ≢ zero
        unfolding sum_over ev Same
        below_nonzero e =
            product_nonzero 𝓕 (δ x₀ ⊗ at f x₀) (over z x₀)
            (product_nonzero 𝓕 (δ x₀) (at f x₀) some (λ u. nodal_at_nonzero 𝓕 (ι x₀) (map ι xs) (all_under (λ s. s ≢ ι x₀) ι xs apart) (sym (value (ι x₀)) ∙ u)))
            (over_nonzero z x₀ off₀)
            (sym (add_zero _) ∙ ap (λ (u : R). δ x₀ ⊗ at f x₀ ⊗ over z x₀ ⊕ u) (sym others)
            ∙ barycentric (x₀ ∷ xs) (length xs) kills f few z (off₀, off) ∙ ap (λ (u : R). ev ring f z ⊗ u) e ∙ mul_zero ring _)
          where
            f : List R
            f = times_nodes ring (map ι xs) (one ∷ [])

            few : length f ≤ suc (length xs)
            few = omega (arith, length_times_nodes ring (map ι xs) (one ∷ []), length-map xs ι)

            value : (x : R) → ev ring f x ≡ nodal_at ring x (map ι xs)
            value x =
                ev_times_nodes ring (map ι xs) (one ∷ []) x ∙ ap (λ (u : R). nodal_at ring x (map ι xs) ⊗ u) (ev_constant ring one x)
                ∙ mul_one _

            others : above f z xs ≡ zero
            others =
                sum_over_zero ring (λ x. δ x ⊗ at f x ⊗ over z x) xs
                (all_map
                (λ x u. ap (λ (v : R). δ x ⊗ v ⊗ over z x) (value (ι x) ∙ u) ∙ solve ring (δ x ∷ over z x ∷ []) (A :* 𝟘 :* B) 𝟘 refl) xs
                (all_mapped (λ s. nodal_at ring s (map ι xs) ≡ zero) ι xs (nodal_at_self ring (map ι xs))))

        -- a value at z fits exactly when the one sum is it times the other
        module _ (f : List R) (few : length f ≤ length xs) (y : R) where
          whole : above f z (x₀ ∷ xs) ≡ ev ring f z ⊗ below z (x₀ ∷ xs)
          whole = barycentric (x₀ ∷ xs) (length xs) kills f (omega arith) z (off₀, off)

          pub sums_of_fit : y ≡ ev ring f z → above f z (x₀ ∷ xs) ≡ y ⊗ below z (x₀ ∷ xs)
          sums_of_fit e = whole ∙ ap (λ (u : R). u ⊗ below z (x₀ ∷ xs)) (sym e)

          pub fit_of_sums : above f z (x₀ ∷ xs) ≡ y ⊗ below z (x₀ ∷ xs) → y ≡ ev ring f z
          unfolding Same
          fit_of_sums e =
              equal_of_difference_zero ring y (ev ring f z)
              (zero_of_product_zero 𝓕 (below z (x₀ ∷ xs)) (y ⊕ neg (ev ring f z)) below_nonzero
              (solve ring (below z (x₀ ∷ xs) ∷ y ∷ ev ring f z ∷ []) (A :* (B :- C)) (B :* A :- C :* A) refl
              ∙ ap₂ (λ (u v : R). u ⊕ neg v) (sym e) (sym whole) ∙ solve ring (above f z (x₀ ∷ xs) ∷ []) (A :- A) 𝟘 refl))
