-- A solver for identities of commutative rings, by reflection. Under the line `unfolding Same`, in any crate,
--     solve 𝓡 (x ∷ y ∷ []) (A :* (A :- B)) (A :* A :- A :* B) refl : x ⊗ (x ⊕ neg y) ≡ x ⊗ x ⊕ neg (x ⊗ y)
use mathlib.Core.Path.{◌≡◌, refl, sym, ◌∙◌, ap, ap₂, subst}
use mathlib.Core.List.{List, [], ◌∷◌}
use Prim.Native.Nat as N
use Prim.Native.Nat.{ℕ, zero, suc, Ordering, compare}
use native.Mathlib.Nat as NN
use lib.Dec.{T, compare_is_eq, eqb→eq}
use Rattle.field.specs.Algebra.{CommutativeRing}
use Rattle.field.proofs.Ring.{zero_add, one_mul, add_mul, add_left_comm, mul_left_comm, add_cancel, mul_zero, zero_mul}
use Rattle.field.proofs.Expression.{Expression, var, 𝟘, 𝟙, ◌:+◌, ◌:*◌, ◌:-◌, :-◌, Sum, none, term, compare_monomials, insert_variable, times_monomial, insert_term, plus, times_term, times, plus_d, minus_d, times_d, normal, Same}

compare_eq : (x y : ℕ) → compare x y ≡ Ordering.eq → x ≡ y
compare_eq x y e = eqb→eq x y (subst (λ (o : Ordering). T (compare_is_eq o)) (sym e) tt)

monomials_eq : (m n : List ℕ) → T (compare_is_eq (compare_monomials m n)) → m ≡ n
unfolding compare_monomials
monomials_eq [] [] h = refl
monomials_eq [] (y ∷ ys) h = absurd h
monomials_eq (x ∷ xs) [] h = absurd h
monomials_eq (x ∷ xs) (y ∷ ys) h = by_order (compare x y) refl (monomials_eq xs ys) h
  where
    by_order : (o : Ordering) → compare x y ≡ o → (T (compare_is_eq (compare_monomials xs ys)) → xs ≡ ys)
        → T (compare_is_eq (elim o as (λ z. Ordering) [ Ordering.lt ↦ Ordering.lt | Ordering.eq ↦ compare_monomials xs ys | Ordering.gt ↦ Ordering.gt ]))
        → x ∷ xs ≡ y ∷ ys
    by_order Ordering.lt e ih u = absurd u
    by_order Ordering.eq e ih u = ap₂ ◌∷◌ (compare_eq x y e) (ih u)
    by_order Ordering.gt e ih u = absurd u

module _ {R : Type 0} (𝓡 : CommutativeRing R) where
  open 𝓡 use {add as ◌⊕◌, mul as ◌⊗◌, neg, zero as 0ᴿ, one as 1ᴿ, add_assoc, add_comm, add_zero, add_neg, mul_assoc, mul_one, mul_add}

  infixl 65 ◌⊕◌
  infixl 70 ◌⊗◌
  -- n times one
  cast : ℕ → R
  cast zero = 0ᴿ
  cast (suc n) = cast n ⊕ 1ᴿ

  cast_add : (a b : ℕ) → cast (N.◌+◌ a b) ≡ cast a ⊕ cast b
  unfolding cast
  cast_add a zero = ap cast (NN.add-zero a) ∙ sym (add_zero (cast a))
  cast_add a (suc b) = ap cast (NN.add-suc a b) ∙ ap (λ (z : R). z ⊕ 1ᴿ) (cast_add a b) ∙ add_assoc (cast a) (cast b) 1ᴿ

  cast_mul : (a b : ℕ) → cast (N.◌*◌ a b) ≡ cast a ⊗ cast b
  unfolding cast
  cast_mul a zero = ap cast (NN.mul-zero a) ∙ sym (mul_zero 𝓡 (cast a))
  cast_mul a (suc b) =
      ap cast (NN.mul-suc a b) ∙ cast_add (N.◌*◌ a b) a ∙ ap₂ ◌⊕◌ (cast_mul a b) (sym (mul_one (cast a)))
      ∙ sym (mul_add (cast a) (cast b) 1ᴿ)

  -- the values of the variables
  abbrev pub at : List R → ℕ → R
  at [] k = 0ᴿ
  at (r ∷ ρ) zero = r
  at (r ∷ ρ) (suc k) = at ρ k

  module _ (ρ : List R) where
    abbrev pub meaning : Expression → R
    meaning (var k) = at ρ k
    meaning 𝟘 = 0ᴿ
    meaning 𝟙 = 1ᴿ
    meaning (a :+ b) = meaning a ⊕ meaning b
    meaning (a :* b) = meaning a ⊗ meaning b
    meaning (a :- b) = meaning a ⊕ neg (meaning b)
    meaning (:- a) = neg (meaning a)

    ⟦◌⟧ᴹ : List ℕ → R
    ⟦ [] ⟧ᴹ = 1ᴿ
    ⟦ k ∷ ks ⟧ᴹ = at ρ k ⊗ ⟦ ks ⟧ᴹ

    ⟦◌⟧ˢ : Sum → R
    ⟦ none ⟧ˢ = 0ᴿ
    ⟦ term c m s ⟧ˢ = cast c ⊗ ⟦ m ⟧ᴹ ⊕ ⟦ s ⟧ˢ

    -- the normaliser's operations mean what they say
    insert_variable_ok : (k : ℕ) (m : List ℕ) → ⟦ insert_variable k m ⟧ᴹ ≡ at ρ k ⊗ ⟦ m ⟧ᴹ
    unfolding insert_variable ⟦◌⟧ᴹ
    insert_variable_ok k [] = refl
    insert_variable_ok k (x ∷ xs) = by_order (compare k x) (insert_variable_ok k xs)
      where
        by_order : (o : Ordering) → ⟦ insert_variable k xs ⟧ᴹ ≡ at ρ k ⊗ ⟦ xs ⟧ᴹ
            → ⟦ elim o as (λ z. List ℕ) [ Ordering.lt ↦ k ∷ x ∷ xs | Ordering.eq ↦ k ∷ x ∷ xs | Ordering.gt ↦ x ∷ insert_variable k xs ] ⟧ᴹ
            ≡ at ρ k ⊗ (at ρ x ⊗ ⟦ xs ⟧ᴹ)
        by_order Ordering.lt ih = refl
        by_order Ordering.eq ih = refl
        by_order Ordering.gt ih = ap (λ (z : R). at ρ x ⊗ z) ih ∙ mul_left_comm 𝓡 (at ρ x) (at ρ k) ⟦ xs ⟧ᴹ

    times_monomial_ok : (m n : List ℕ) → ⟦ times_monomial m n ⟧ᴹ ≡ ⟦ m ⟧ᴹ ⊗ ⟦ n ⟧ᴹ
    unfolding times_monomial ⟦◌⟧ᴹ
    times_monomial_ok [] n = sym (one_mul 𝓡 ⟦ n ⟧ᴹ)
    times_monomial_ok (k ∷ ks) n =
        insert_variable_ok k (times_monomial ks n) ∙ ap (λ (z : R). at ρ k ⊗ z) (times_monomial_ok ks n)
        ∙ sym (mul_assoc (at ρ k) ⟦ ks ⟧ᴹ ⟦ n ⟧ᴹ)

    merge : (c d : ℕ) (x y : R) → cast (N.◌+◌ c d) ⊗ x ⊕ y ≡ cast c ⊗ x ⊕ (cast d ⊗ x ⊕ y)
    merge c d x y =
        ap (λ (z : R). z ⊗ x ⊕ y) (cast_add c d) ∙ ap (λ (z : R). z ⊕ y) (add_mul 𝓡 (cast c) (cast d) x)
        ∙ add_assoc (cast c ⊗ x) (cast d ⊗ x) y

    insert_term_ok : (c : ℕ) (m : List ℕ) (s : Sum) → ⟦ insert_term c m s ⟧ˢ ≡ cast c ⊗ ⟦ m ⟧ᴹ ⊕ ⟦ s ⟧ˢ
    unfolding insert_term ⟦◌⟧ˢ
    insert_term_ok c m none = refl
    insert_term_ok c m (term d n s) = by_order (compare_monomials m n) (monomials_eq m n) (insert_term_ok c m s)
      where
        by_order : (o : Ordering) → (T (compare_is_eq o) → m ≡ n) → ⟦ insert_term c m s ⟧ˢ ≡ cast c ⊗ ⟦ m ⟧ᴹ ⊕ ⟦ s ⟧ˢ
            → ⟦ elim o as (λ z. Sum) [ Ordering.lt ↦ term c m (term d n s) | Ordering.eq ↦ term (N.◌+◌ c d) n s | Ordering.gt ↦ term d n (insert_term c m s) ] ⟧ˢ
            ≡ cast c ⊗ ⟦ m ⟧ᴹ ⊕ (cast d ⊗ ⟦ n ⟧ᴹ ⊕ ⟦ s ⟧ˢ)
        by_order Ordering.lt e ih = refl
        by_order Ordering.eq e ih = rw (e tt) (merge c d ⟦ n ⟧ᴹ ⟦ s ⟧ˢ)
        by_order Ordering.gt e ih =
            ap (λ (z : R). cast d ⊗ ⟦ n ⟧ᴹ ⊕ z) ih ∙ add_left_comm 𝓡 (cast d ⊗ ⟦ n ⟧ᴹ) (cast c ⊗ ⟦ m ⟧ᴹ) ⟦ s ⟧ˢ

    plus_ok : (r s : Sum) → ⟦ plus r s ⟧ˢ ≡ ⟦ r ⟧ˢ ⊕ ⟦ s ⟧ˢ
    unfolding plus ⟦◌⟧ˢ
    plus_ok none s = sym (zero_add 𝓡 ⟦ s ⟧ˢ)
    plus_ok (term c m r) s =
        insert_term_ok c m (plus r s) ∙ ap (λ (z : R). cast c ⊗ ⟦ m ⟧ᴹ ⊕ z) (plus_ok r s)
        ∙ sym (add_assoc (cast c ⊗ ⟦ m ⟧ᴹ) ⟦ r ⟧ˢ ⟦ s ⟧ˢ)

    shuffle : (c d m n s : R) → c ⊗ d ⊗ (m ⊗ n) ⊕ c ⊗ m ⊗ s ≡ c ⊗ m ⊗ (d ⊗ n ⊕ s)
    shuffle c d m n s = simp (mul_add, mul_assoc, mul_left_comm 𝓡)

    times_term_ok : (c : ℕ) (m : List ℕ) (s : Sum) → ⟦ times_term c m s ⟧ˢ ≡ cast c ⊗ ⟦ m ⟧ᴹ ⊗ ⟦ s ⟧ˢ
    unfolding times_term ⟦◌⟧ˢ
    times_term_ok c m none = sym (mul_zero 𝓡 (cast c ⊗ ⟦ m ⟧ᴹ))
    times_term_ok c m (term d n s) =
        insert_term_ok (N.◌*◌ c d) (times_monomial m n) (times_term c m s)
        ∙ ap₂ ◌⊕◌ (ap₂ ◌⊗◌ (cast_mul c d) (times_monomial_ok m n)) (times_term_ok c m s)
        ∙ shuffle (cast c) (cast d) ⟦ m ⟧ᴹ ⟦ n ⟧ᴹ ⟦ s ⟧ˢ

    times_ok : (r s : Sum) → ⟦ times r s ⟧ˢ ≡ ⟦ r ⟧ˢ ⊗ ⟦ s ⟧ˢ
    unfolding times ⟦◌⟧ˢ
    times_ok none s = sym (zero_mul 𝓡 ⟦ s ⟧ˢ)
    times_ok (term c m r) s =
        plus_ok (times_term c m s) (times r s) ∙ ap₂ ◌⊕◌ (times_term_ok c m s) (times_ok r s)
        ∙ sym (add_mul 𝓡 (cast c ⊗ ⟦ m ⟧ᴹ) ⟦ r ⟧ˢ ⟦ s ⟧ˢ)

    one_term : (x : R) → x ⊕ 0ᴿ ≡ cast 1 ⊗ (x ⊗ 1ᴿ) ⊕ 0ᴿ
    unfolding cast
    one_term x =
        ap (λ (z : R). z ⊕ 0ᴿ)
        (sym (ap (λ (z : R). z ⊗ (x ⊗ 1ᴿ)) (zero_add 𝓡 1ᴿ) ∙ one_mul 𝓡 (x ⊗ 1ᴿ) ∙ mul_one x))

    -- An expression e stands for the difference of its added part P and its taken part N: e ⊕ N ≡ P.
    module _ (e f N M P Q : R) (h : e ⊕ N ≡ P) (k : f ⊕ M ≡ Q) where
      plus_law : (e ⊕ f) ⊕ (N ⊕ M) ≡ P ⊕ Q
      plus_law = rw (← h, ← k) (simp (add_assoc, add_left_comm 𝓡))

      times_law : e ⊗ f ⊕ (P ⊗ M ⊕ N ⊗ Q) ≡ P ⊗ Q ⊕ N ⊗ M
      times_law = rw (← h, ← k) (simp (mul_add, add_mul 𝓡, add_assoc, add_left_comm 𝓡))

      regroup : (g : R) → (e ⊕ g) ⊕ (N ⊕ (f ⊕ M)) ≡ (f ⊕ g) ⊕ ((e ⊕ N) ⊕ M)
      regroup g = simp (add_assoc, add_comm, add_left_comm 𝓡)

      minus_law : (e ⊕ neg f) ⊕ (N ⊕ Q) ≡ P ⊕ M
      minus_law =
          rw (← h, ← k)
          (regroup (neg f) ∙ ap (λ (z : R). z ⊕ ((e ⊕ N) ⊕ M)) (add_neg f) ∙ zero_add 𝓡 ((e ⊕ N) ⊕ M))

      equal_law : P ⊕ M ≡ Q ⊕ N → e ≡ f
      equal_law g =
          add_cancel 𝓡 e f (N ⊕ M)
          (sym (add_assoc e N M) ∙ ap (λ (z : R). z ⊕ M) h ∙ g ∙ ap (λ (z : R). z ⊕ N) (sym k) ∙ add_assoc f M N
          ∙ ap (λ (z : R). f ⊕ z) (add_comm M N))

    opposite_law : (e N P : R) → e ⊕ N ≡ P → neg e ⊕ P ≡ N
    opposite_law e N P h =
        rw (← h) (sym (add_assoc (neg e) e N) ∙ ap (λ (z : R). z ⊕ N) (add_comm (neg e) e ∙ add_neg e) ∙ zero_add 𝓡 N)

    added : Expression → R
    added e = ⟦ (normal e).added ⟧ˢ

    taken : Expression → R
    taken e = ⟦ (normal e).taken ⟧ˢ

    sound : (e : Expression) → meaning e ⊕ taken e ≡ added e
    unfolding added taken normal plus_d times_d minus_d ⟦◌⟧ˢ ⟦◌⟧ᴹ cast
    sound (var k) = one_term (at ρ k)
    sound 𝟘 = add_zero 0ᴿ
    sound 𝟙 = ap (λ (z : R). z ⊕ 0ᴿ) (sym (zero_add 𝓡 1ᴿ) ∙ sym (mul_one (cast 1)))
    sound (a :+ b) =
        ap (λ (z : R). (meaning a ⊕ meaning b) ⊕ z) (plus_ok (normal a).taken (normal b).taken)
        ∙ plus_law (meaning a) (meaning b) (taken a) (taken b) (added a) (added b) (sound a) (sound b)
        ∙ sym (plus_ok (normal a).added (normal b).added)
    sound (a :* b) =
        ap (λ (z : R). (meaning a ⊗ meaning b) ⊕ z) (two (normal a).added (normal b).taken (normal a).taken (normal b).added)
        ∙ times_law (meaning a) (meaning b) (taken a) (taken b) (added a) (added b) (sound a) (sound b)
        ∙ sym (two (normal a).added (normal b).added (normal a).taken (normal b).taken)
      where
        two : (q r s t : Sum) → ⟦ plus (times q r) (times s t) ⟧ˢ ≡ ⟦ q ⟧ˢ ⊗ ⟦ r ⟧ˢ ⊕ ⟦ s ⟧ˢ ⊗ ⟦ t ⟧ˢ
        two q r s t = plus_ok (times q r) (times s t) ∙ ap₂ ◌⊕◌ (times_ok q r) (times_ok s t)
    sound (a :- b) =
        ap (λ (z : R). (meaning a ⊕ neg (meaning b)) ⊕ z) (plus_ok (normal a).taken (normal b).added)
        ∙ minus_law (meaning a) (meaning b) (taken a) (taken b) (added a) (added b) (sound a) (sound b)
        ∙ sym (plus_ok (normal a).added (normal b).taken)
    sound (:- a) = opposite_law (meaning a) (taken a) (added a) (sound a)

    pub solve : (e f : Expression) → Same e f → meaning e ≡ meaning f
    unfolding Same added taken
    solve e f h =
        equal_law (meaning e) (meaning f) (taken e) (taken f) (added e) (added f) (sound e) (sound f)
        (sym (plus_ok (normal e).added (normal f).taken) ∙ ap ⟦◌⟧ˢ h ∙ plus_ok (normal e).taken (normal f).added
        ∙ add_comm (taken e) (added f))
