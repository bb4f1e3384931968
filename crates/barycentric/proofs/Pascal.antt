-- Pascal's triangle with alternating signs, over any commutative ring: the differences of a polynomial, and what the code goes by.
use mathlib.Core.Path.{◌≡◌, refl, sym, ◌∙◌, ap, ap₂}
use mathlib.Core.List.{List, [], ◌∷◌}
use Prim.Native.Nat.{ℕ, suc, ◌+◌, ◌≤◌, ◌<◌}
use native.Mathlib.Nat.{le_of_suc-le-suc, not-suc-le-zero}
use native.Mathlib.Omega.{arith}
use lib.ListN.{length}
use Rattle.field.specs.Algebra.{CommutativeRing}
use Rattle.field.proofs.Ring.{zero_mul, mul_zero}
use Rattle.field.proofs.Expression.{A, B, C, D, E, 𝟘, 𝟙, ◌:+◌, ◌:*◌, ◌:-◌, :-◌, Same}
use Rattle.field.proofs.Solver.{solve}
use Rattle.poly.proofs.Coefficients.{ev, plus, times, ev_plus, ev_times, length_plus, length_times}
use Rattle.barycentric.proofs.Sums.{sum_below_of, sum_below_same, sum_below_less}

module _ {R : Type 0} (𝓡 : CommutativeRing R) where
  open 𝓡 use {add as ◌⊕◌, mul as ◌⊗◌, neg, zero, one, add_zero}

  infixl 65 ◌⊕◌
  infixl 70 ◌⊗◌
  -- (-1)^x times the number of ways to choose x of m
  unfoldable pub pascal : ℕ → ℕ → R
  pascal m ℕ.zero = one
  pascal ℕ.zero (suc x) = zero
  pascal (suc m) (suc x) = pascal m (suc x) ⊕ neg (pascal m x)

  pascal_beyond : (m x : ℕ) → m < x → pascal m x ≡ zero
  unfolding pascal Same
  pascal_beyond m ℕ.zero h = absurd (not-suc-le-zero h)
  pascal_beyond ℕ.zero (suc x) h = refl
  pascal_beyond (suc m) (suc x) h =
      ap₂ (λ (u v : R). u ⊕ neg v) (pascal_beyond m (suc x) (omega arith)) (pascal_beyond m x (le_of_suc-le-suc h))
      ∙ solve 𝓡 [] (𝟘 :- 𝟘) 𝟘 refl

  -- f (X + 1)
  shift : List R → List R
  shift [] = []
  shift (c ∷ cs) = plus 𝓡 (c ∷ shift cs) (shift cs)

  -- f (X) - f (X + 1): a coefficient fewer
  fall : List R → List R
  fall [] = []
  fall (c ∷ []) = []
  fall (c ∷ (d ∷ ds)) = plus 𝓡 (zero ∷ fall (d ∷ ds)) (times 𝓡 (neg one) (shift (d ∷ ds)))

  length_shift : (f : List R) → length (shift f) ≤ length f
  unfolding shift
  length_shift [] = omega arith
  length_shift (c ∷ cs) =
      length_plus 𝓡 (c ∷ shift cs) (shift cs) (suc (length cs)) (omega (arith, length_shift cs)) (omega (arith, length_shift cs))

  length_fall : (c : R) (cs : List R) → length (fall (c ∷ cs)) ≤ length cs
  unfolding fall
  length_fall c [] = omega arith
  length_fall c (d ∷ ds) =
      length_plus 𝓡 (zero ∷ fall (d ∷ ds)) (times 𝓡 (neg one) (shift (d ∷ ds))) (suc (length ds))
      (omega (arith, length_fall d ds))
      (omega (arith, length_times 𝓡 (neg one) (shift (d ∷ ds)), length_shift (d ∷ ds)))

  ev_shift : (f : List R) (x : R) → ev 𝓡 (shift f) x ≡ ev 𝓡 f (one ⊕ x)
  unfolding ev shift Same
  ev_shift [] x = refl
  ev_shift (c ∷ cs) x =
      ev_plus 𝓡 (c ∷ shift cs) (shift cs) x ∙ ap (λ (u : R). c ⊕ x ⊗ u ⊕ u) (ev_shift cs x)
      ∙ solve 𝓡 (c ∷ x ∷ ev 𝓡 cs (one ⊕ x) ∷ []) (A :+ B :* C :+ C) (A :+ (𝟙 :+ B) :* C) refl

  ev_fall : (f : List R) (x : R) → ev 𝓡 (fall f) x ≡ ev 𝓡 f x ⊕ neg (ev 𝓡 f (one ⊕ x))
  unfolding ev fall Same
  ev_fall [] x = solve 𝓡 [] 𝟘 (𝟘 :- 𝟘) refl
  ev_fall (c ∷ []) x = solve 𝓡 (c ∷ x ∷ []) 𝟘 (A :+ B :* 𝟘 :- (A :+ (𝟙 :+ B) :* 𝟘)) refl
  ev_fall (c ∷ (d ∷ ds)) x =
      ev_plus 𝓡 (zero ∷ fall (d ∷ ds)) (times 𝓡 (neg one) (shift (d ∷ ds))) x
      ∙ ap₂ (λ (u v : R). zero ⊕ x ⊗ u ⊕ v) (ev_fall (d ∷ ds) x)
      (ev_times 𝓡 (neg one) (shift (d ∷ ds)) x ∙ ap (λ (u : R). neg one ⊗ u) (ev_shift (d ∷ ds) x))
      ∙ solve 𝓡 (c ∷ x ∷ ev 𝓡 (d ∷ ds) x ∷ ev 𝓡 (d ∷ ds) (one ⊕ x) ∷ [])
      (𝟘 :+ B :* (C :- D) :+ :- 𝟙 :* D) (A :+ B :* C :- (A :+ (𝟙 :+ B) :* D)) refl

  module _ (ι : ℕ → R) (ι-zero : ι 0 ≡ zero) (ι-suc : (n : ℕ) → ι (suc n) ≡ one ⊕ ι n) where
    -- the next number of a row
    pub pascal_next : (m x : ℕ) → pascal m (suc x) ⊗ ι (suc x) ≡ neg (pascal m x ⊗ (ι m ⊕ neg (ι x)))
    unfolding pascal Same
    pascal_next ℕ.zero ℕ.zero =
        ap (λ (u : R). zero ⊗ u) (ι-suc 0) ∙ solve 𝓡 (ι 0 ∷ []) (𝟘 :* (𝟙 :+ A)) (:- (𝟙 :* (A :- A))) refl
    pascal_next ℕ.zero (suc x) =
        solve 𝓡 (ι (suc (suc x)) ∷ ι 0 ∷ ι (suc x) ∷ []) (𝟘 :* A) (:- (𝟘 :* (B :- C))) refl
    pascal_next (suc m) ℕ.zero =
        solve 𝓡 (pascal m 1 ∷ ι 1 ∷ []) ((A :- 𝟙) :* B) (A :* B :- B) refl
        ∙ ap₂ (λ (u v : R). u ⊕ neg v) (pascal_next m 0) (ι-suc 0)
        ∙ solve 𝓡 (ι m ∷ ι 0 ∷ []) (:- (𝟙 :* (A :- B)) :- (𝟙 :+ B)) (:- (𝟙 :* (𝟙 :+ A))) refl
        ∙ ap (λ (u : R). neg (one ⊗ u)) (sym (ap₂ (λ (u v : R). u ⊕ neg v) (ι-suc m) ι-zero ∙ less_zero (one ⊕ ι m)))
      where
        less_zero : (a : R) → a ⊕ neg zero ≡ a
        less_zero a = solve 𝓡 (a ∷ []) (A :- 𝟘) A refl
    pascal_next (suc m) (suc x) =
        solve 𝓡 (pascal m (suc (suc x)) ∷ pascal m (suc x) ∷ ι (suc (suc x)) ∷ []) ((A :- B) :* C) (A :* C :- B :* C) refl
        ∙ ap₂ (λ (u v : R). u ⊕ neg (pascal m (suc x) ⊗ v)) (pascal_next m (suc x)) (ι-suc (suc x))
        ∙ solve 𝓡 (pascal m (suc x) ∷ ι m ∷ ι (suc x) ∷ []) (:- (A :* (B :- C)) :- A :* (𝟙 :+ C)) (:- (A :* C) :- A :* (𝟙 :+ B :- C)) refl
        ∙ ap (λ (u : R). neg u ⊕ neg (pascal m (suc x) ⊗ (one ⊕ ι m ⊕ neg (ι (suc x))))) (pascal_next m x)
        ∙ ap (λ (u : R). neg (neg (pascal m x ⊗ (ι m ⊕ neg (ι x)))) ⊕ neg (pascal m (suc x) ⊗ (one ⊕ ι m ⊕ neg u))) (ι-suc x)
        ∙ solve 𝓡 (pascal m (suc x) ∷ pascal m x ∷ ι m ∷ ι x ∷ [])
        (:- (:- (B :* (C :- D))) :- A :* (𝟙 :+ C :- (𝟙 :+ D))) (:- ((A :- B) :* (𝟙 :+ C :- (𝟙 :+ D)))) refl
        ∙ ap₂ (λ (u v : R). neg ((pascal m (suc x) ⊕ neg (pascal m x)) ⊗ (u ⊕ neg v))) (sym (ι-suc m)) (sym (ι-suc x))

    -- a row of the triangle from the row before
    row_sum : (m n : ℕ) (h : ℕ → R) → sum_below_of 𝓡 (λ x. pascal (suc m) x ⊗ h x) (suc n)
        ≡ sum_below_of 𝓡 (λ x. pascal m x ⊗ h x) (suc n) ⊕ neg (sum_below_of 𝓡 (λ x. pascal m x ⊗ h (suc x)) n)
    unfolding sum_below_of pascal Same
    row_sum m ℕ.zero h = solve 𝓡 (h 0 ∷ []) (𝟘 :+ 𝟙 :* A) (𝟘 :+ 𝟙 :* A :- 𝟘) refl
    row_sum m (suc n) h =
        ap (λ (u : R). u ⊕ (pascal m (suc n) ⊕ neg (pascal m n)) ⊗ h (suc n)) (row_sum m n h)
        ∙ solve 𝓡
        (sum_below_of 𝓡 (λ x. pascal m x ⊗ h x) (suc n) ∷ sum_below_of 𝓡 (λ x. pascal m x ⊗ h (suc x)) n ∷ pascal m (suc n) ∷ pascal m n ∷ h (suc n) ∷ [])
        (A :- B :+ (C :- D) :* E) (A :+ C :* E :- (B :+ D :* E)) refl

    -- the m-th difference of a polynomial
    abbrev Differed : ℕ → List R → R
    Differed m f = sum_below_of 𝓡 (λ x. pascal m x ⊗ ev 𝓡 f (ι x)) (suc m)

    of_none : (m n : ℕ) → sum_below_of 𝓡 (λ x. pascal m x ⊗ ev 𝓡 [] (ι x)) n ≡ zero
    unfolding sum_below_of ev
    of_none m ℕ.zero = refl
    of_none m (suc n) = ap₂ ◌⊕◌ (of_none m n) (mul_zero 𝓡 (pascal m n)) ∙ add_zero zero

    difference_turn : (m : ℕ) → ((g : List R) → length g ≤ m → Differed m g ≡ zero) → (f : List R) → length f ≤ suc m
        → Differed (suc m) f ≡ zero
    unfolding sum_below_of ev Same
    difference_turn m ih [] h = of_none (suc m) (suc (suc m))
    difference_turn m ih (c ∷ cs) h =
        row_sum m (suc m) value_at_lem
        ∙ ap (λ (u : R). sum_below_of 𝓡 (λ x. pascal m x ⊗ value_at_lem x) (suc m) ⊕ u ⊕ neg next) last
        ∙ solve 𝓡 (sum_below_of 𝓡 (λ x. pascal m x ⊗ value_at_lem x) (suc m) ∷ next ∷ []) (A :+ 𝟘 :- B) (A :- B) refl
        ∙ sym (sum_below_less 𝓡 (λ x. pascal m x ⊗ value_at_lem x) (λ x. pascal m x ⊗ value_at_lem (suc x)) (suc m))
        ∙ sum_below_same 𝓡 _ (λ x. pascal m x ⊗ ev 𝓡 (fall (c ∷ cs)) (ι x)) (suc m) (λ x l. each x)
        ∙ ih (fall (c ∷ cs)) (omega (arith, length_fall c cs))
      where
        value_at_lem : ℕ → R
        value_at_lem x = ev 𝓡 (c ∷ cs) (ι x)

        next : R
        next = sum_below_of 𝓡 (λ x. pascal m x ⊗ value_at_lem (suc x)) (suc m)

        last : pascal m (suc m) ⊗ value_at_lem (suc m) ≡ zero
        last = ap (λ (u : R). u ⊗ value_at_lem (suc m)) (pascal_beyond m (suc m) (omega arith)) ∙ zero_mul 𝓡 _

        each : (x : ℕ) → pascal m x ⊗ value_at_lem x ⊕ neg (pascal m x ⊗ value_at_lem (suc x)) ≡ pascal m x ⊗ ev 𝓡 (fall (c ∷ cs)) (ι x)
        each x =
            ap (λ (u : R). pascal m x ⊗ value_at_lem x ⊕ neg (pascal m x ⊗ ev 𝓡 (c ∷ cs) u)) (ι-suc x)
            ∙ solve 𝓡 (pascal m x ∷ value_at_lem x ∷ ev 𝓡 (c ∷ cs) (one ⊕ ι x) ∷ []) (A :* B :- A :* C) (A :* (B :- C)) refl
            ∙ ap (λ (u : R). pascal m x ⊗ u) (sym (ev_fall (c ∷ cs) (ι x)))

    -- it is zero where there are at most m coefficients
    pub difference_zero : (m : ℕ) (f : List R) → length f ≤ m → Differed m f ≡ zero
    difference_zero ℕ.zero [] h = of_none 0 1
    difference_zero ℕ.zero (c ∷ cs) h = absurd (not-suc-le-zero h)
    difference_zero (suc m) f h = difference_turn m (difference_zero m) f h

  -- (-1)^n
  unfoldable pub sign : ℕ → R
  sign ℕ.zero = one
  sign (suc n) = neg (sign n)

  pascal_end : (m : ℕ) → pascal m m ≡ sign m
  unfolding pascal sign Same
  pascal_end ℕ.zero = refl
  pascal_end (suc m) =
      ap₂ (λ (u v : R). u ⊕ neg v) (pascal_beyond m (suc m) (omega arith)) (pascal_end m) ∙ solve 𝓡 (sign m ∷ []) (𝟘 :- A) (:- A) refl

  sign_square : (n : ℕ) → sign n ⊗ sign n ≡ one
  unfolding sign Same
  sign_square ℕ.zero = solve 𝓡 [] (𝟙 :* 𝟙) 𝟙 refl
  sign_square (suc n) = solve 𝓡 (sign n ∷ []) (:- A :* :- A) (A :* A) refl ∙ sign_square n

  -- a row from its end: the same numbers, with the sign of its last
  abbrev Mirrored : ℕ → Type 0
  Mirrored n = (x y : ℕ) → x + y ≡ n → pascal n x ≡ sign n ⊗ pascal n y

  mirror_turn : (n : ℕ) → Mirrored n → Mirrored (suc n)
  unfolding pascal sign Same
  mirror_turn n ih ℕ.zero y e =
      let q : y ≡ suc n = omega arith in
      sym (sign_square (suc n)) ∙ ap (λ (u : R). sign (suc n) ⊗ u) (sym (pascal_end (suc n)) ∙ ap (pascal (suc n)) (sym q))
  mirror_turn n ih (suc x) ℕ.zero e =
      let q : suc x ≡ suc n = omega arith in
      ap (pascal (suc n)) q ∙ pascal_end (suc n) ∙ solve 𝓡 (sign n ∷ []) (:- A) (:- A :* 𝟙) refl
  mirror_turn n ih (suc x) (suc y) e =
      ap₂ (λ (u v : R). u ⊕ neg v) (ih (suc x) y (omega arith)) (ih x (suc y) (omega arith))
      ∙ solve 𝓡 (sign n ∷ pascal n y ∷ pascal n (suc y) ∷ []) (A :* B :- A :* C) (:- A :* (C :- B)) refl

  pub pascal_mirror : (n : ℕ) → Mirrored n
  unfolding pascal sign Same
  pascal_mirror ℕ.zero x y e =
      let q : x ≡ 0 = omega arith in
      let r : y ≡ 0 = omega arith in
      ap (pascal 0) q ∙ solve 𝓡 [] 𝟙 (𝟙 :* 𝟙) refl ∙ ap (λ (k : ℕ). one ⊗ pascal 0 k) (sym r)
  pascal_mirror (suc n) x y e = mirror_turn n (pascal_mirror n) x y e
