-- The vector of a row, by ledger and draw: a row has one at most, and the number of it is the row's plain number; and so what y and y' are.
use Prim.Native.Nat.{ℕ, ◌+◌, ◌<◌}
use mathlib.Core.Path.{◌≡◌, refl, sym, ◌∙◌, ap, ap₂, subst}
use mathlib.Core.List.{List, [], ◌∷◌}
use lib.ListN.{get_or}
use Rattle.field.specs.Modulus.{p}
use Rattle.field.specs.Arithmetic as Arithmetic
use Rattle.field.specs.Element.{Element, element}
use Rattle.field.proofs.Expression.{A, B, 𝟘, 𝟙, ◌:+◌, ◌:*◌, ◌:-◌, :-◌, Same}
use Rattle.field.proofs.Solver.{solve}
use Rattle.field.proofs.Elements.{𝓡, element_one, element_product, element_difference, element_of_number, number_below}
use Rattle.field.proofs.Modular.{product_below, difference_below}
use Rattle.factory.specs.Calls.{dealer_number_of}
use Rattle.vectors.specs.Vector.{Vector, plus_times, raised, number, vector_of}
use Rattle.vectors.proofs.Linear.{number_plus_times, sum_number}
use Rattle.runs.specs.Draws.{Plan, Draw, IsDraw, raw_draw, plan_shape, draw_a, draw_b}
use Rattle.runs.specs.Outline.{Summand, once, times, fee}
use Rattle.runs.proofs.Marks.{less, zero_vector, raw_vector, vector_a, vector_b, vector_ab}
use Rattle.runs.proofs.Sums.{product_vector}
use Rattle.runs.proofs.Numbers.{less_number, product_number, third_number, dealt_number_is}
use Rattle.correctness.specs.Ledger.{Meaning, dealt, summed, product, Ledger, PlainOf, of_deal, of_row, of_times, of_fee, of_more, of_product, Plain, OneNumber, MaskNumbers}
open 𝓡 use {add as ◌⊕◌, mul as ◌⊗◌, neg}

infixl 65 ◌⊕◌
infixl 70 ◌⊗◌
module _ (plan : Plan) (draw : Draw) (L : Ledger) where
  abbrev pub dealt_vector : ℕ → ℕ → Vector
  dealt_vector r u = raised (element (dealer_number_of u (get_or (raw_draw draw r) 0 0)).value) (raw_vector plan draw r)

  -- a finish by the triple at k, of rows with the vectors X and Y
  abbrev pub finished_vector : ℕ → Vector → Vector → Vector
  finished_vector k X Y =
      product_vector (number (less X (vector_a plan draw k))).0 (number (less Y (vector_b plan draw k))).0
      (vector_a plan draw k) (vector_b plan draw k) (vector_ab plan draw k)

  -- the vector of a meaning, in row r
  pub data IsOf : ℕ → Meaning → Vector → Type 0 where
    is_dealt : {r u : ℕ} {Z : Vector} → u < p → Z ≡ dealt_vector r u → IsOf r (dealt u) Z
    is_row : {r a : ℕ} {Z : Vector} → IsOf a (L a) Z → IsOf r (summed (once a) []) Z
    is_times : {r s b : ℕ} {Y Z : Vector} → IsOf b (L b) Y → Z ≡ plus_times (element s) zero_vector Y → IsOf r (summed (times s b) []) Z
    is_fee : {r k : ℕ} {Z : Vector} → k < p → Z ≡ raised (element k) zero_vector → IsOf r (summed (fee k) []) Z
    is_more : {r : ℕ} {t t' : Summand} {ts : List Summand} {X Y Z : Vector} → IsOf r (summed t []) X → IsOf r (summed t' ts) Y
        → Z ≡ plus_times (element 1) X Y → IsOf r (summed t (t' ∷ ts)) Z
    is_product : {r k a b : ℕ} {X Y Z : Vector} → IsOf a (L a) X → IsOf b (L b) Y → Z ≡ finished_vector k X Y → IsOf r (product k a b) Z

  abbrev pub Is : ℕ → Vector → Type 0
  Is r Z = IsOf r (L r) Z

  one_of : {r : ℕ} {m : Meaning} {Z : Vector} → IsOf r m Z → {W : Vector} → IsOf r m W → Z ≡ W
  one_of (is_dealt h z) (is_dealt h' w) = z ∙ sym w
  one_of (is_row x) (is_row x') = one_of x x'
  one_of (is_times {s = s} y z) (is_times y' w) = z ∙ ap (plus_times (element s) zero_vector) (one_of y y') ∙ sym w
  one_of (is_fee h z) (is_fee h' w) = z ∙ sym w
  one_of (is_more x y z) (is_more x' y' w) = z ∙ ap₂ (plus_times (element 1)) (one_of x x') (one_of y y') ∙ sym w
  one_of (is_product {k = k} x y z) (is_product x' y' w) = z ∙ ap₂ (finished_vector k) (one_of x x') (one_of y y') ∙ sym w

  pub one : {r : ℕ} {Z : Vector} → Is r Z → {W : Vector} → Is r W → Z ≡ W
  one x y = one_of x y

  scaled_number : (s : ℕ) (y : Element) → (element s ⊗ y).0 ≡ Arithmetic.product s y.0
  scaled_number s y =
      sym
      (sym (number_below _ (product_below s y.0))
      ∙ ap (λ (z : Element). z.0) (element_product s y.0 ∙ ap (λ (z : Element). element s ⊗ z) (element_of_number y)))

  times_number : (x y : Element) → (x ⊗ y).0 ≡ Arithmetic.product x.0 y.0
  times_number x y = ap (λ (z : Element). (z ⊗ y).0) (sym (element_of_number x)) ∙ scaled_number x.0 y

  plus_number : (x y : Element) → (x ⊕ element 1 ⊗ y).0 ≡ Arithmetic.sum x.0 y.0
  unfolding Same
  plus_number x y =
      ap (λ (z : Element). z.0)
      (ap (λ (o : Element). x ⊕ o ⊗ y) element_one ∙ solve 𝓡 (x ∷ y ∷ []) (A :+ 𝟙 :* B) (A :+ B) refl
      ∙ ap (λ (z : Element). x ⊕ z) (sym (element_of_number y)))
      ∙ sym (sum_number x y.0)

  -- the number of the vector is the plain number of the meaning
  plain_of : IsDraw plan draw → {r : ℕ} {m : Meaning} {Z : Vector} → IsOf r m Z → PlainOf L m (number Z).0
  unfolding Same
  plain_of is (is_dealt {r = r} {u = u} {Z = Z} h z) =
      subst (PlainOf L (dealt u)) (sym (ap (λ (T : Vector). (number T).0) z ∙ ap (λ (x : Element). x.0) (dealt_number_is plan draw is r u h) ∙ number_below u h)) of_deal
  plain_of is (is_row x) = of_row (plain_of is x)
  plain_of is (is_times {s = s} {b = b} {Y = Y} y z) =
      subst (PlainOf L (summed (times s b) []))
      (sym
      (ap (λ (T : Vector). (number T).0) z
      ∙ ap (λ (x : Element). x.0)
      (number_plus_times (element s) zero_vector Y ∙ solve 𝓡 (element s ∷ number Y ∷ []) (𝟘 :+ 𝟘 :+ A :* B) (A :* B) refl)
      ∙ scaled_number s (number Y)))
      (of_times (plain_of is y))
  plain_of is (is_fee {k = k} h z) =
      subst (PlainOf L (summed (fee k) []))
      (sym
      (ap (λ (T : Vector). (number T).0) z
      ∙ ap (λ (x : Element). x.0) (solve 𝓡 (element k ∷ []) (𝟘 :+ A :+ 𝟘) A refl) ∙ number_below k h))
      of_fee
  plain_of is (is_more {t = t} {t' = t'} {ts = ts} {X = X} {Y = Y} x y z) =
      subst (PlainOf L (summed t (t' ∷ ts)))
      (sym
      (ap (λ (T : Vector). (number T).0) z ∙ ap (λ (x : Element). x.0) (number_plus_times (element 1) X Y)
      ∙ plus_number (number X) (number Y)))
      (of_more (plain_of is x) (plain_of is y))
  plain_of is (is_product {k = k} {a = a} {b = b} {X = X} {Y = Y} x y z) =
      subst (PlainOf L (product k a b))
      (sym
      (ap (λ (T : Vector). (number T).0) z
      ∙ ap (λ (m : Element). m.0)
      (product_number X Y (vector_a plan draw k) (vector_b plan draw k) (vector_ab plan draw k) (third_number plan draw k))
      ∙ times_number (number X) (number Y)))
      (of_product (plain_of is x) (plain_of is y))

  pub plain : IsDraw plan draw → {r : ℕ} {Z : Vector} → Is r Z → Plain L r (number Z).0
  plain is x = plain_of is x

  -- the number of a − l, where l is drawn
  less_drawn : (X : Vector) (d : List ℕ) → (number (less X (vector_of (plan_shape plan) d))).0 ≡ Arithmetic.difference (number X).0 (get_or d 0 0)
  unfolding vector_of Same
  less_drawn X d =
      let f = get_or d 0 0 in
      ap (λ (z : Element). z.0)
      (less_number X (vector_of (plan_shape plan) d) ∙ solve 𝓡 (number X ∷ element f ∷ []) (A :+ :- 𝟙 :* (𝟘 :+ B)) (A :- B) refl
      ∙ ap (λ (z : Element). z ⊕ neg (element f)) (sym (element_of_number (number X))) ∙ sym (element_difference (number X).0 f))
      ∙ number_below _ (difference_below (number X).0 f)

  -- y and y' of the triple at r, by the vectors of a and b
  pub mask_numbers_is : IsDraw plan draw → {r a b : ℕ} {X Y : Vector} → L (r + 2) ≡ product r a b → Is a X → Is b Y
      → MaskNumbers plan draw L r (number (less X (vector_a plan draw r))).0 (number (less Y (vector_b plan draw r))).0
  mask_numbers_is is {r = r} {a = a} {b = b} {X = X} {Y = Y} means x y = record {
    a = a;
    b = b;
    factors = means;
    number_a_is = (number X).0;
    number_b_is = (number Y).0;
    plain_a = plain is x;
    plain_b = plain is y;
    is_y = less_drawn X (draw_a plan draw r);
    is_y' = less_drawn Y (draw_b plan draw r);
  }

-- a row has one plain number at most
same_number : (L : Ledger) {m : Meaning} {x y : ℕ} → PlainOf L m x → PlainOf L m y → x ≡ y
same_number L of_deal of_deal = refl
same_number L (of_row x) (of_row x') = same_number L x x'
same_number L (of_times {s = s} y) (of_times y') = ap (Arithmetic.product s) (same_number L y y')
same_number L of_fee of_fee = refl
same_number L (of_more x y) (of_more x' y') = ap₂ Arithmetic.sum (same_number L x x') (same_number L y y')
same_number L (of_product x y) (of_product x' y') = ap₂ Arithmetic.product (same_number L x x') (same_number L y y')

pub one_number : OneNumber
one_number L r x y h k = same_number L h k
