-- The number of each vector that a call makes: u of a row dealt, a + s b of a sum, a b of a product.
use Prim.Native.Nat.{ℕ, ◌+◌, ◌-◌, ◌≤◌, ◌<◌}
use mathlib.Core.Path.{◌≡◌, refl, sym, ◌∙◌, ap, ap₂}
use mathlib.Core.List.{List, [], ◌∷◌}
use native.Mathlib.Nat.{add-zero}
use native.Mathlib.Decide.{dec_le}
use native.Mathlib.Omega.{arith}
use lib.ListN.{get_or, take, drop, get_or-eq_default}
use lib.Seq.{get_or-take, get_or-drop}
use Rattle.field.specs.Modulus.{p}
use Rattle.field.specs.Arithmetic.{product, difference}
use Rattle.field.specs.Element.{Element, element}
use Rattle.field.proofs.Expression.{A, B, C, D, 𝟘, 𝟙, ◌:+◌, ◌:*◌, ◌:-◌, :-◌, Same}
use Rattle.field.proofs.Solver.{solve}
use Rattle.field.proofs.Elements.{𝓡, element_zero, element_one, element_product, element_difference, element_of_number}
use Rattle.poly.specs.Counting.{Elements}
use Rattle.shape.specs.Bounds.{row_count_of}
use Rattle.refusal.specs.Refusal.{outcome}
use Rattle.refusal.proofs.Elements.{element_test}
use Rattle.factory.specs.Calls.{dealer_refusal, dealer_number_of}
use Rattle.vectors.specs.Vector.{Vector, plus_times, raised, number, vector_of}
use Rattle.vectors.proofs.Linear.{number_plus_times}
use Rattle.vectors.proofs.Draws.{element_at}
use Rattle.runs.specs.Draws.{Plan, Draw, IsDraw, drawn_length, raw_draw, triple_draw}
use Rattle.runs.proofs.Marks.{less, raw_vector, vector_a, vector_b, vector_ab}
use Rattle.runs.proofs.Sums.{product_vector}
open 𝓡 use {add as ◌⊕◌, mul as ◌⊗◌, neg, zero as 0ᴱ, one as 1ᴱ}

infixl 65 ◌⊕◌
infixl 70 ◌⊗◌
-- −1 is p − 1
minus_one : element (p - 1) ≡ neg 1ᴱ
unfolding difference Same
minus_one =
    element_difference 0 1 ∙ ap₂ (λ (x y : Element). x ⊕ neg y) element_zero element_one ∙ solve 𝓡 [] (𝟘 :- 𝟙) (:- 𝟙) refl

-- the number of a − l
pub less_number : (S L : Vector) → number (less S L) ≡ number S ⊕ neg 1ᴱ ⊗ number L
less_number S L =
    number_plus_times (element (p - 1)) S L ∙ ap (λ (z : Element). number S ⊕ z ⊗ number L) minus_one

-- c added to a vector's dealer's number is added to its number
pub raised_number : (c : Element) (S : Vector) → number (raised c S) ≡ number S ⊕ c
unfolding Same
raised_number c S = solve 𝓡 (S.c ∷ c ∷ S.f 0 ∷ []) (A :+ B :+ C) (A :+ C :+ B) refl

-- "the ring identity": with y = a − l and y' = b − l', l'' + y l' + y' l + y y' = a b where l'' = l l'
pub product_number : (a b l l' l'' : Vector) → number l'' ≡ number l ⊗ number l'
    → number (product_vector (number (less a l)).0 (number (less b l')).0 l l' l'') ≡ number a ⊗ number b
unfolding Same
product_number a b l l' l'' e =
    raised_number (element (product y.0 y'.0)) (plus_times (element y'.0) (plus_times (element y.0) l'' l') l)
    ∙ ap₂ ◌⊕◌
    (number_plus_times (element y'.0) (plus_times (element y.0) l'' l') l
    ∙ ap₂ (λ (x z : Element). x ⊕ z ⊗ number l)
    (number_plus_times (element y.0) l'' l' ∙ ap₂ (λ (x z : Element). x ⊕ z ⊗ number l') e is_y) is_y')
    (element_product y.0 y'.0 ∙ ap₂ ◌⊗◌ is_y is_y')
    ∙ solve 𝓡 (number a ∷ number b ∷ number l ∷ number l' ∷ [])
    (C :* D :+ (A :+ :- 𝟙 :* C) :* D :+ (B :+ :- 𝟙 :* D) :* C :+ (A :+ :- 𝟙 :* C) :* (B :+ :- 𝟙 :* D)) (A :* B) refl
  where
    y : Element
    y = number (less a l)

    y' : Element
    y' = number (less b l')

    is_y : element y.0 ≡ number a ⊕ neg 1ᴱ ⊗ number l
    is_y = element_of_number y ∙ less_number a l

    is_y' : element y'.0 ≡ number b ⊕ neg 1ᴱ ⊗ number l'
    is_y' = element_of_number y' ∙ less_number b l'

-- the number that a dealer gives, where both of its numbers are elements
pub dealer_number_lem : (u f : ℕ) → u < p → f < p → (dealer_number_of u f).value ≡ difference u f
unfolding dealer_refusal outcome
dealer_number_lem u f h k = rw (element_test u h, element_test f k) refl

module _ (plan : Plan) (draw : Draw) where
  positive : 0 < drawn_length plan
  positive = omega arith

  -- "f(0) of l × f(0) of l'"
  pub third_number : (r : ℕ) → number (vector_ab plan draw r) ≡ number (vector_a plan draw r) ⊗ number (vector_b plan draw r)
  unfolding vector_of Same
  third_number r =
      ap (λ (z : Element). 0ᴱ ⊕ z) (element_product (get_or d 0 0) (get_or d (drawn_length plan) 0))
      ∙ solve 𝓡 (element (get_or d 0 0) ∷ element (get_or d (drawn_length plan) 0) ∷ []) (𝟘 :+ A :* B) ((𝟘 :+ A) :* (𝟘 :+ B)) refl
      ∙ sym (ap₂ (λ (x y : ℕ). (0ᴱ ⊕ element x) ⊗ (0ᴱ ⊕ element y)) (get_or-take (drawn_length plan) d 0 0 positive) second)
    where
      d : List ℕ
      d = triple_draw draw r

      second : get_or (take (drawn_length plan) (drop (drawn_length plan) d)) 0 0 ≡ get_or d (drawn_length plan) 0
      second =
          get_or-take (drawn_length plan) (drop (drawn_length plan) d) 0 0 positive ∙ get_or-drop (drawn_length plan) d 0 0
          ∙ ap (λ (k : ℕ). get_or d k 0) (add-zero (drawn_length plan))

  module _ (is : IsDraw plan draw) where
    raw_low : (r : ℕ) → Elements (raw_draw draw r)
    unfolding raw_draw
    raw_low r = go (dec_le row_count_of r)
      where
        go : Dec (row_count_of ≤ r) → Elements (get_or draw.raws r [])
        go (yes h) = rw (get_or-eq_default draw.raws [] {n = r} (omega (arith, is.raws.count))) tt
        go (no h) = (is.raws.each r (omega arith)).1

    -- c = u − f(0): the row's number is u
    pub dealt_number_is : (r u : ℕ) → u < p
        → number (raised (element (dealer_number_of u (get_or (raw_draw draw r) 0 0)).value) (raw_vector plan draw r)) ≡ element u
    unfolding vector_of Same
    dealt_number_is r u h =
        ap (λ (z : ℕ). 0ᴱ ⊕ element z ⊕ element f) (dealer_number_lem u f h (element_at (raw_draw draw r) (raw_low r) 0))
        ∙ ap (λ (z : Element). 0ᴱ ⊕ z ⊕ element f) (element_difference u f)
        ∙ solve 𝓡 (element u ∷ element f ∷ []) (𝟘 :+ (A :- B) :+ B) A refl
      where
        f : ℕ
        f = get_or (raw_draw draw r) 0 0
