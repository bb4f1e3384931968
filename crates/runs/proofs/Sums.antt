-- The sum of summands: a + s b + fee is one, and so is l'' + y l' + y' l + y y'; and so are the terms of a relation, added one by one.
use Prim.Native.Nat.{ℕ, ◌+◌}
use mathlib.Core.Path.{◌≡◌, refl, sym, ◌∙◌, ap}
use mathlib.Core.List.{List, [], ◌∷◌, map}
use Rattle.field.specs.Arithmetic.{product}
use Rattle.field.specs.Element.{Element, element}
use Rattle.field.proofs.Expression.{A, B, C, D, E, F, 𝟘, 𝟙, ◌:+◌, ◌:*◌, Same}
use Rattle.field.proofs.Solver.{solve}
use Rattle.field.proofs.Elements.{𝓡, element_one}
use Rattle.vectors.specs.Vector.{Vector, plus_times, raised}
use Rattle.terms.specs.declared.Term.{Term}
use Rattle.relation.specs.Finish.{number_row_of}
use Rattle.runs.specs.Outline.{once, times, fee, summand}
use Rattle.runs.proofs.Marks.{zero_vector, total_vector, product_sum}
open 𝓡 use {add as ◌⊕◌, mul as ◌⊗◌, zero as 0ᴱ, one as 1ᴱ}

infixl 65 ◌⊕◌
infixl 70 ◌⊗◌
pub linear_sum : (vec : ℕ → Vector) (a b s k : ℕ)
    → total_vector vec (once a) (times s b ∷ fee k ∷ []) ≡ raised (element k) (plus_times (element s) (vec a) (vec b))
unfolding Same
linear_sum vec a b s k =
    λ t. record { c = raise (vec a).c (vec b).c t; f = λ k. at ((vec a).f k) ((vec b).f k) t; v = λ j k. at ((vec a).v j k) ((vec b).v j k) t }
  where
    at : (x y : Element) → x ⊕ element 1 ⊗ (0ᴱ ⊕ element s ⊗ y ⊕ element 1 ⊗ 0ᴱ) ≡ x ⊕ element s ⊗ y
    at x y =
        ap (λ (o : Element). x ⊕ o ⊗ (0ᴱ ⊕ element s ⊗ y ⊕ o ⊗ 0ᴱ)) element_one
        ∙ solve 𝓡 (x ∷ y ∷ element s ∷ []) (A :+ 𝟙 :* (𝟘 :+ C :* B :+ 𝟙 :* 𝟘)) (A :+ C :* B) refl

    raise : (x y : Element) → x ⊕ element 1 ⊗ (0ᴱ ⊕ element s ⊗ y ⊕ element 1 ⊗ (0ᴱ ⊕ element k)) ≡ x ⊕ element s ⊗ y ⊕ element k
    raise x y =
        ap (λ (o : Element). x ⊕ o ⊗ (0ᴱ ⊕ element s ⊗ y ⊕ o ⊗ (0ᴱ ⊕ element k))) element_one
        ∙ solve 𝓡 (x ∷ y ∷ element s ∷ element k ∷ []) (A :+ 𝟙 :* (𝟘 :+ C :* B :+ 𝟙 :* (𝟘 :+ D))) (A :+ C :* B :+ D) refl

-- l'' + y l' + y' l, and y y' added to the dealer's number
abbrev pub product_vector : ℕ → ℕ → Vector → Vector → Vector → Vector
product_vector y y' l l' l'' = raised (element (product y y')) (plus_times (element y') (plus_times (element y) l'' l') l)

pub product_sum_lem : (vec : ℕ → Vector) (r y y' : ℕ) → product_sum vec r y y' ≡ product_vector y y' (vec r) (vec (r + 1)) (vec (r + 2))
unfolding Same
product_sum_lem vec r y y' =
    λ t. record {
      c = raise (vec r).c (vec (r + 1)).c (vec (r + 2)).c t;
      f = λ k. at ((vec r).f k) ((vec (r + 1)).f k) ((vec (r + 2)).f k) t;
      v = λ j k. at ((vec r).v j k) ((vec (r + 1)).v j k) ((vec (r + 2)).v j k) t;
    }
  where
    z : Element
    z = element (product y y')

    at : (l l' l'' : Element)
        → l'' ⊕ element 1 ⊗ (0ᴱ ⊕ element y ⊗ l' ⊕ element 1 ⊗ (0ᴱ ⊕ element y' ⊗ l ⊕ element 1 ⊗ 0ᴱ)) ≡ l'' ⊕ element y ⊗ l' ⊕ element y' ⊗ l
    at l l' l'' =
        ap (λ (o : Element). l'' ⊕ o ⊗ (0ᴱ ⊕ element y ⊗ l' ⊕ o ⊗ (0ᴱ ⊕ element y' ⊗ l ⊕ o ⊗ 0ᴱ))) element_one
        ∙ solve 𝓡 (l ∷ l' ∷ l'' ∷ element y ∷ element y' ∷ [])
        (C :+ 𝟙 :* (𝟘 :+ D :* B :+ 𝟙 :* (𝟘 :+ E :* A :+ 𝟙 :* 𝟘))) (C :+ D :* B :+ E :* A) refl

    raise : (l l' l'' : Element)
        → l'' ⊕ element 1 ⊗ (0ᴱ ⊕ element y ⊗ l' ⊕ element 1 ⊗ (0ᴱ ⊕ element y' ⊗ l ⊕ element 1 ⊗ (0ᴱ ⊕ element (product y y'))))
        ≡ l'' ⊕ element y ⊗ l' ⊕ element y' ⊗ l ⊕ element (product y y')
    raise l l' l'' =
        ap (λ (o : Element). l'' ⊕ o ⊗ (0ᴱ ⊕ element y ⊗ l' ⊕ o ⊗ (0ᴱ ⊕ element y' ⊗ l ⊕ o ⊗ (0ᴱ ⊕ element (product y y'))))) element_one
        ∙ solve 𝓡 (l ∷ l' ∷ l'' ∷ element y ∷ element y' ∷ element (product y y') ∷ [])
        (C :+ 𝟙 :* (𝟘 :+ D :* B :+ 𝟙 :* (𝟘 :+ E :* A :+ 𝟙 :* (𝟘 :+ F)))) (C :+ D :* B :+ E :* A :+ F) refl

-- terms added one after the other, as a relation's finish does: to X, each time s times a row
abbrev pub added_terms : (ℕ → Vector) → Vector → List Term → Vector
added_terms vec X [] = X
added_terms vec X (t ∷ ts) = added_terms vec (plus_times (element t.coefficient) X (vec (number_row_of t))) ts

module _ (vec : ℕ → Vector) where
  added : (X : Vector) (t : Term) (ts : List Term) → added_terms vec X (t ∷ ts) ≡ plus_times (element 1) X (total_vector vec (summand t) (map summand ts))
  unfolding Same
  added X t [] =
      let Y = vec (number_row_of t) in
      λ j. record { c = at X.c Y.c j; f = λ k. at (X.f k) (Y.f k) j; v = λ i k. at (X.v i k) (Y.v i k) j }
    where
      at : (x y : Element) → x ⊕ element t.coefficient ⊗ y ≡ x ⊕ element 1 ⊗ (0ᴱ ⊕ element t.coefficient ⊗ y)
      at x y =
          sym
          (ap (λ (o : Element). x ⊕ o ⊗ (0ᴱ ⊕ element t.coefficient ⊗ y)) element_one
          ∙ solve 𝓡 (x ∷ y ∷ element t.coefficient ∷ []) (A :+ 𝟙 :* (𝟘 :+ C :* B)) (A :+ C :* B) refl)
  added X t (t' ∷ ts) =
      let Y = vec (number_row_of t) in
      let Z = total_vector vec (summand t') (map summand ts) in
      added (plus_times (element t.coefficient) X (vec (number_row_of t))) t' ts
      ∙ (λ j. record { c = at X.c Y.c Z.c j; f = λ k. at (X.f k) (Y.f k) (Z.f k) j; v = λ i k. at (X.v i k) (Y.v i k) (Z.v i k) j })
    where
      at : (x y z : Element)
          → x ⊕ element t.coefficient ⊗ y ⊕ element 1 ⊗ z ≡ x ⊕ element 1 ⊗ (0ᴱ ⊕ element t.coefficient ⊗ y ⊕ element 1 ⊗ z)
      at x y z =
          ap (λ (o : Element). x ⊕ element t.coefficient ⊗ y ⊕ o ⊗ z) element_one
          ∙ solve 𝓡 (x ∷ y ∷ element t.coefficient ∷ z ∷ []) (A :+ C :* B :+ 𝟙 :* D) (A :+ 𝟙 :* (𝟘 :+ C :* B :+ 𝟙 :* D)) refl
          ∙ sym (ap (λ (o : Element). x ⊕ o ⊗ (0ᴱ ⊕ element t.coefficient ⊗ y ⊕ o ⊗ z)) element_one)

  -- added to nothing, they are the sum of the terms
  pub terms_sum : (t : Term) (ts : List Term) → added_terms vec zero_vector (t ∷ ts) ≡ total_vector vec (summand t) (map summand ts)
  unfolding Same
  terms_sum t ts =
      let Z = total_vector vec (summand t) (map summand ts) in
      added zero_vector t ts ∙ (λ j. record { c = at Z.c j; f = λ k. at (Z.f k) j; v = λ i k. at (Z.v i k) j })
    where
      at : (z : Element) → 0ᴱ ⊕ element 1 ⊗ z ≡ z
      at z = ap (λ (o : Element). 0ᴱ ⊕ o ⊗ z) element_one ∙ solve 𝓡 (z ∷ []) (𝟘 :+ 𝟙 :* A) A refl
