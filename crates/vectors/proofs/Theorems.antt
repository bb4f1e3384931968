-- The claims of specs/Claims.antt.
use Prim.Native.Nat.{ℕ, zero, suc, ◌+◌, ◌*◌, ◌-◌, ◌<◌}
use mathlib.Core.Path.{◌≡◌, refl, sym, ◌∙◌, ap, ap₂, fun_ext}
use mathlib.Core.Bool.{Bool, true, false}
use mathlib.Core.Logic.{◌⊎◌, inl, inr}
use mathlib.Core.List.{List, [], ◌∷◌}
use native.Mathlib.Omega.{arith}
use lib.ListN.{length, get_or}
use Rattle.field.specs.Modulus.{p}
use Rattle.field.specs.Arithmetic.{product}
use Rattle.field.specs.Element.{Element, element}
use Rattle.field.proofs.Expression.{A, 𝟘, ◌:+◌, ◌:*◌, Same}
use Rattle.field.proofs.Solver.{solve}
use Rattle.field.proofs.Elements.{𝓡, element_zero, element_sum, element_product}
use Rattle.field.proofs.Modular.{sum_below}
use Rattle.poly.specs.Counting.{Elements}
use Rattle.shape.specs.declared.Shape.{Shape}
use Rattle.shape.specs.Lengths.{f_length, v_length}
use Rattle.session.specs.Sessions.{holding}
use Rattle.session.specs.Rows.{combined}
use Rattle.sums.proofs.Writers.{length_combined}
use Rattle.opening.specs.Walking.{too_few_of, disagree, opened}
use Rattle.opening.specs.Opening.{open_answer}
use Rattle.opening.proofs.Opens.{open_allowed}
use Rattle.opening.proofs.Theorems.{open_nine, open_thirteen, open_number_lem}
use Rattle.vectors.specs.Vector.{plus_times, number, row_of, vector_of}
use Rattle.vectors.specs.Claims.{PartLinear, held_row, EnoughTruly, OpeningExact}
use Rattle.vectors.proofs.Linear.{row_plus_times}
use Rattle.vectors.proofs.Draws.{part_is_row}
use Rattle.vectors.proofs.Shares.{truly_enough, opened_exact, true_agree, all_enough}
open 𝓡 use {add as ◌⊕◌, mul as ◌⊗◌}

infixl 65 ◌⊕◌
infixl 70 ◌⊗◌
-- ---- the factory's part is linear

elements_combined : (s : ℕ) (xs ys : List ℕ) → Elements (combined s xs ys)
unfolding combined
elements_combined s [] ys = tt
elements_combined s (x ∷ xs) [] = tt
elements_combined s (x ∷ xs) (y ∷ ys) = (sum_below x (product s y), elements_combined s xs ys)

combined_at : (s : ℕ) (xs ys : List ℕ) → length xs ≡ length ys → (i : ℕ)
    → element (get_or (combined s xs ys) i 0) ≡ element (get_or xs i 0) ⊕ element s ⊗ element (get_or ys i 0)
unfolding combined Same
combined_at s [] [] e i =
    element_zero ∙ solve 𝓡 (element s ∷ []) 𝟘 (𝟘 :+ A :* 𝟘) refl
    ∙ sym (ap (λ (z : Element). z ⊕ element s ⊗ z) element_zero)
combined_at s [] (y ∷ ys) e i = absurd (omega arith)
combined_at s (x ∷ xs) [] e i = absurd (omega arith)
combined_at s (x ∷ xs) (y ∷ ys) e zero =
    element_sum x (product s y) ∙ ap (λ (z : Element). element x ⊕ z) (element_product s y)
combined_at s (x ∷ xs) (y ∷ ys) e (suc i) = combined_at s xs ys (omega arith) i

vector_combined : (g : Shape) (s : ℕ) (xs ys : List ℕ) → length xs ≡ length ys
    → vector_of g (combined s xs ys) ≡ plus_times (element s) (vector_of g xs) (vector_of g ys)
unfolding vector_of Same
vector_combined g s xs ys e =
    let c = solve 𝓡 (element s ∷ []) 𝟘 (𝟘 :+ A :* 𝟘) refl in
    let f = fun_ext (λ (i : ℕ). combined_at s xs ys e i) in
    let v = fun_ext (λ (j : ℕ). fun_ext (λ (i : ℕ). combined_at s xs ys e (f_length g + (j - 1) * v_length g + i))) in
    λ t. record { c = c t; f = f t; v = v t }

pub part_linear : PartLinear
part_linear g i w s draw draw' lo hi e e' l l' =
    let h : i - 1 < g.n = omega arith in
    part_is_row g (combined s draw draw') (elements_combined s draw draw') (length_combined s draw draw' same ∙ l) i w h
    ∙ ap (row_of g i w) (vector_combined g s draw draw' same)
    ∙ row_plus_times g i s w (vector_of g draw) (vector_of g draw')
    ∙ sym (ap₂ (combined s) (part_is_row g draw e l i w h) (part_is_row g draw' e' l' i w h))
  where
    same : length draw ≡ length draw'
    same = l ∙ sym l'

-- ---- one opening

pub opening_exact : OpeningExact
opening_exact s S rows r blocks clear held = (
  (λ few. open_nine s rows r blocks clear (rw held few)),
  (λ enough a. number_is enough (all_enough s S blocks posts_few enough a) (true_agree s S blocks posts_few enough a)),
  (λ t. decided (truly_enough s S blocks t) t (disagree s (held_row s S) blocks) refl),
)
  where
    posts_few : s.n < p
    posts_few = let h = open_allowed s rows r blocks 0 (sym clear) refl in omega (arith, h.0.sized.valid.n_in)

    number_is : too_few_of s (held_row s S) blocks ≡ false → EnoughTruly s S blocks → disagree s (held_row s S) blocks ≡ false
        → open_answer s rows r blocks ≡ holding 0 (number S).0 s
    number_is enough t agree =
        open_number_lem s rows r blocks clear (rw held enough) (rw held agree)
        ∙ ap (λ (x : List ℕ). holding 0 (opened s x blocks) s) held
        ∙ ap (λ (v : ℕ). holding 0 v s) (opened_exact s S blocks posts_few enough t agree)

    decided : too_few_of s (held_row s S) blocks ≡ false → EnoughTruly s S blocks → (off : Bool) → disagree s (held_row s S) blocks ≡ off
        → (open_answer s rows r blocks ≡ holding 0 (number S).0 s) ⊎ (open_answer s rows r blocks ≡ holding 13 0 s)
    decided enough t true e = inr (open_thirteen s rows r blocks clear (rw held enough) (rw held e))
    decided enough t false e = inl (number_is enough t e)
