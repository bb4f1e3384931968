-- Lists of coefficients over any commutative ring: the value of a sum, of a multiple, and of a product with linear factors.
use mathlib.Core.Path.{◌≡◌, refl, sym, ◌∙◌, ap}
use mathlib.Core.List.{List, [], ◌∷◌}
use Prim.Native.Nat as N
use Prim.Native.Nat.{ℕ, suc, ◌+◌, ◌≤◌}
use native.Mathlib.Nat.{le_of_suc-le-suc, not-suc-le-zero}
use native.Mathlib.Omega.{arith}
use lib.ListN.{length}
use Rattle.field.specs.Algebra.{CommutativeRing}
use Rattle.field.proofs.Ring.{zero_add, one_mul, mul_zero, zero_mul}
use Rattle.field.proofs.Expression.{A, B, C, D, E, 𝟘, ◌:+◌, ◌:*◌, ◌:-◌, :-◌, Same}
use Rattle.field.proofs.Solver.{solve}
use Rattle.poly.specs.Counting.{All}
use Rattle.poly.proofs.Lists.{all_map}

module _ {R : Type 0} (𝓡 : CommutativeRing R) where
  open 𝓡 use {add as ◌⊕◌, mul as ◌⊗◌, neg, zero, one, add_assoc, add_zero, add_neg, mul_add}

  infixl 65 ◌⊕◌
  infixl 70 ◌⊗◌
  -- the value at x
  unfoldable pub ev : List R → R → R
  ev [] x = zero
  ev (c ∷ cs) x = c ⊕ x ⊗ ev cs x

  unfoldable pub plus : List R → List R → List R
  plus [] g = g
  plus (c ∷ cs) [] = c ∷ cs
  plus (c ∷ cs) (d ∷ ds) = (c ⊕ d) ∷ plus cs ds

  unfoldable pub times : R → List R → List R
  times k [] = []
  times k (c ∷ cs) = (k ⊗ c) ∷ times k cs

  -- f times X - r
  unfoldable pub times_linear : R → List R → List R
  times_linear r f = plus (zero ∷ f) (times (neg r) f)

  -- f times X - r for each r of a list
  unfoldable pub times_nodes : List R → List R → List R
  times_nodes [] f = f
  times_nodes (r ∷ rs) f = times_linear r (times_nodes rs f)

  -- the product of x - r over a list
  unfoldable pub nodal_at : R → List R → R
  nodal_at x [] = one
  nodal_at x (r ∷ rs) = (x ⊕ neg r) ⊗ nodal_at x rs

  pub ev_plus : (f g : List R) (x : R) → ev (plus f g) x ≡ ev f x ⊕ ev g x
  unfolding ev plus Same
  ev_plus [] g x = sym (zero_add 𝓡 (ev g x))
  ev_plus (c ∷ cs) [] x = sym (add_zero (c ⊕ x ⊗ ev cs x))
  ev_plus (c ∷ cs) (d ∷ ds) x =
      ap (λ (z : R). c ⊕ d ⊕ x ⊗ z) (ev_plus cs ds x)
      ∙ solve 𝓡 (c ∷ d ∷ x ∷ ev cs x ∷ ev ds x ∷ []) (A :+ B :+ C :* (D :+ E)) (A :+ C :* D :+ (B :+ C :* E)) refl

  pub ev_times : (k : R) (f : List R) (x : R) → ev (times k f) x ≡ k ⊗ ev f x
  unfolding ev times Same
  ev_times k [] x = sym (mul_zero 𝓡 k)
  ev_times k (c ∷ cs) x =
      ap (λ (z : R). k ⊗ c ⊕ x ⊗ z) (ev_times k cs x)
      ∙ solve 𝓡 (k ∷ c ∷ x ∷ ev cs x ∷ []) (A :* B :+ C :* (A :* D)) (A :* (B :+ C :* D)) refl

  pub ev_times_linear : (r : R) (f : List R) (x : R) → ev (times_linear r f) x ≡ (x ⊕ neg r) ⊗ ev f x
  unfolding ev times_linear Same
  ev_times_linear r f x =
      ev_plus (zero ∷ f) (times (neg r) f) x ∙ ap (λ (z : R). zero ⊕ x ⊗ ev f x ⊕ z) (ev_times (neg r) f x)
      ∙ solve 𝓡 (x ∷ r ∷ ev f x ∷ []) (𝟘 :+ A :* C :+ :- B :* C) ((A :- B) :* C) refl

  pub ev_times_nodes : (rs f : List R) (x : R) → ev (times_nodes rs f) x ≡ nodal_at x rs ⊗ ev f x
  unfolding times_nodes nodal_at Same
  ev_times_nodes [] f x = sym (one_mul 𝓡 (ev f x))
  ev_times_nodes (r ∷ rs) f x =
      ev_times_linear r (times_nodes rs f) x ∙ ap (λ (z : R). (x ⊕ neg r) ⊗ z) (ev_times_nodes rs f x)
      ∙ solve 𝓡 (x ∷ r ∷ nodal_at x rs ∷ ev f x ∷ []) ((A :- B) :* (C :* D)) ((A :- B) :* C :* D) refl

  pub ev_constant : (k x : R) → ev (k ∷ []) x ≡ k
  unfolding ev Same
  ev_constant k x = solve 𝓡 (k ∷ x ∷ []) (A :+ B :* 𝟘) A refl

  -- a polynomial whose coefficients are all zero
  pub ev_zeros : (f : List R) → All (λ c. c ≡ zero) f → (x : R) → ev f x ≡ zero
  unfolding ev
  ev_zeros [] z x = refl
  ev_zeros (c ∷ cs) z x =
      ap (λ (y : R). y ⊕ x ⊗ ev cs x) z.0 ∙ ap (λ (y : R). zero ⊕ x ⊗ y) (ev_zeros cs z.1 x)
      ∙ ap (λ (y : R). zero ⊕ y) (mul_zero 𝓡 x) ∙ add_zero zero

  pub length_plus : (f g : List R) (n : ℕ) → length f ≤ n → length g ≤ n → length (plus f g) ≤ n
  unfolding plus
  length_plus [] g n h k = k
  length_plus (c ∷ cs) [] n h k = h
  length_plus (c ∷ cs) (d ∷ ds) ℕ.zero h k = absurd (not-suc-le-zero h)
  length_plus (c ∷ cs) (d ∷ ds) (suc n) h k =
      N.suc-le-suc (length_plus cs ds n (le_of_suc-le-suc h) (le_of_suc-le-suc k))

  pub length_times : (k : R) (f : List R) → length (times k f) ≡ length f
  unfolding times
  length_times k [] = refl
  length_times k (c ∷ cs) = ap suc (length_times k cs)

  pub length_times_nodes : (rs f : List R) → length (times_nodes rs f) ≤ length rs + length f
  unfolding times_nodes times_linear
  length_times_nodes [] f = omega arith
  length_times_nodes (r ∷ rs) f =
      let ih = length_times_nodes rs f in
      length_plus (zero ∷ times_nodes rs f) (times (neg r) (times_nodes rs f)) (suc (length rs) + length f) (omega (arith, ih))
      (omega (arith, ih, length_times (neg r) (times_nodes rs f)))

  -- a node makes the product zero
  pub nodal_at_self : (rs : List R) → All (λ s. nodal_at s rs ≡ zero) rs
  unfolding nodal_at
  nodal_at_self [] = tt
  nodal_at_self (r ∷ rs) = (
    ap (λ (z : R). z ⊗ nodal_at r rs) (add_neg r) ∙ zero_mul 𝓡 (nodal_at r rs),
    all_map (λ s e. ap (λ (z : R). (s ⊕ neg r) ⊗ z) e ∙ mul_zero 𝓡 (s ⊕ neg r)) rs (nodal_at_self rs),
  )

  -- division by X - r: what is left is the value at r
  unfoldable pub quotient : R → List R → List R
  quotient r [] = []
  quotient r (d ∷ ds) = ev (d ∷ ds) r ∷ quotient r ds

  pub length_quotient : (r : R) (f : List R) → length (quotient r f) ≡ length f
  unfolding quotient
  length_quotient r [] = refl
  length_quotient r (d ∷ ds) = ap suc (length_quotient r ds)

  shifted : (r x : R) (f : List R) → x ⊗ ev f x ≡ r ⊗ ev f r ⊕ (x ⊕ neg r) ⊗ ev (quotient r f) x
  unfolding ev quotient Same
  shifted r x [] = solve 𝓡 (r ∷ x ∷ []) (B :* 𝟘) (A :* 𝟘 :+ (B :- A) :* 𝟘) refl
  shifted r x (d ∷ ds) =
      mul_add x d (x ⊗ ev ds x) ∙ ap (λ (z : R). x ⊗ d ⊕ x ⊗ z) (shifted r x ds)
      ∙ solve 𝓡 (r ∷ x ∷ d ∷ ev ds r ∷ ev (quotient r ds) x ∷ [])
      (B :* C :+ B :* (A :* D :+ (B :- A) :* E)) (A :* (C :+ A :* D) :+ (B :- A) :* ((C :+ A :* D) :+ B :* E)) refl

  pub division : (r x c : R) (cs : List R) → ev (c ∷ cs) x ≡ ev (c ∷ cs) r ⊕ (x ⊕ neg r) ⊗ ev (quotient r cs) x
  unfolding ev
  division r x c cs =
      ap (λ (z : R). c ⊕ z) (shifted r x cs) ∙ sym (add_assoc c (r ⊗ ev cs r) ((x ⊕ neg r) ⊗ ev (quotient r cs) x))
