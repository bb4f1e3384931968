-- A post's row, and the shared number, are linear in the vector.
use Prim.Native.Nat.{ℕ, zero, suc, ◌+◌, ◌/◌, ◌%◌}
use mathlib.Core.Path.{◌≡◌, refl, sym, ◌∙◌, ap, ap₂, fun_ext}
use mathlib.Core.List.{List, [], ◌∷◌, ◌++◌, map, append_assoc}
use lib.ListN.{length, take, drop, length-append}
use lib.Seq.{take_at, drop_at}
use Rattle.field.specs.Arithmetic.{sum, product}
use Rattle.field.specs.Element.{Element, element}
use Rattle.field.proofs.Expression.{A, B, C, D, E, F, G, 𝟘, ◌:+◌, ◌:*◌, Same}
use Rattle.field.proofs.Solver.{solve}
use Rattle.field.proofs.Elements.{𝓡, element_sum, element_product, element_of_number, number_below}
use Rattle.field.proofs.Modular.{sum_below}
use Rattle.shape.specs.declared.Shape.{Shape}
use Rattle.shape.specs.declared.Points.{Points}
use Rattle.shape.specs.Lengths.{f_length, v_length, checks_length, sums_at_of}
use Rattle.shape.specs.Row.{point_at}
use Rattle.session.specs.Rows.{combined, plus_sums, summed}
use Rattle.vectors.specs.Vector.{Vector, plus_times, raised, number, firsts, numbers, value_at, check_of, sum_at, row_of}
open 𝓡 use {add as ◌⊕◌, mul as ◌⊗◌}

infixl 65 ◌⊕◌
infixl 70 ◌⊗◌
-- numbers of elements
pub sum_number : (a : Element) (c : ℕ) → sum a.0 c ≡ (a ⊕ element c).0
sum_number a c =
    sym (number_below (sum a.0 c) (sum_below a.0 c))
    ∙ ap (λ (z : Element). z.0) (element_sum a.0 c ∙ ap (λ (z : Element). z ⊕ element c) (element_of_number a))

pub combined_number : (s : ℕ) (a b : Element) → sum a.0 (product s b.0) ≡ (a ⊕ element s ⊗ b).0
combined_number s a b =
    sum_number a (product s b.0)
    ∙ ap (λ (z : Element). (a ⊕ z).0)
    (element_product s b.0 ∙ ap (λ (z : Element). element s ⊗ z) (element_of_number b))

pub length_numbers : (k : ℕ) (a : ℕ → Element) → length (numbers k a) ≡ k
unfolding numbers
length_numbers zero a = refl
length_numbers (suc k) a = ap suc (length_numbers k (λ i. a (suc i)))

-- the value of a sum
pub value_at_plus_times : (k : ℕ) (a b : ℕ → Element) (s x : Element)
    → value_at k (λ i. a i ⊕ s ⊗ b i) x ≡ value_at k a x ⊕ s ⊗ value_at k b x
unfolding value_at firsts Same
value_at_plus_times zero a b s x = solve 𝓡 (s ∷ []) 𝟘 (𝟘 :+ A :* 𝟘) refl
value_at_plus_times (suc k) a b s x =
    ap (λ (z : Element). a 0 ⊕ s ⊗ b 0 ⊕ x ⊗ z) (value_at_plus_times k (λ i. a (suc i)) (λ i. b (suc i)) s x)
    ∙ solve 𝓡 (a 0 ∷ b 0 ∷ s ∷ x ∷ value_at k (λ i. a (suc i)) x ∷ value_at k (λ i. b (suc i)) x ∷ [])
    (A :+ C :* B :+ D :* (E :+ C :* F)) (A :+ D :* E :+ C :* (B :+ D :* F)) refl

-- rows, block by block
combined_numbers : (s k : ℕ) (a b : ℕ → Element) (xs ys : List ℕ)
    → combined s (numbers k a ++ xs) (numbers k b ++ ys) ≡ numbers k (λ i. a i ⊕ element s ⊗ b i) ++ combined s xs ys
unfolding combined numbers
combined_numbers s zero a b xs ys = refl
combined_numbers s (suc k) a b xs ys =
    ap₂ ◌∷◌ (combined_number s (a 0) (b 0)) (combined_numbers s k (λ i. a (suc i)) (λ i. b (suc i)) xs ys)

combined_last : (s k : ℕ) (a b : ℕ → Element) → combined s (numbers k a) (numbers k b) ≡ numbers k (λ i. a i ⊕ element s ⊗ b i)
unfolding combined numbers
combined_last s zero a b = refl
combined_last s (suc k) a b = ap₂ ◌∷◌ (combined_number s (a 0) (b 0)) (combined_last s k (λ i. a (suc i)) (λ i. b (suc i)))

pub sum_at_plus_times : (g : Shape) (s : Element) (S S' : Vector) (j : ℕ) → sum_at g (plus_times s S S') j ≡ sum_at g S j ⊕ s ⊗ sum_at g S' j
unfolding Same
sum_at_plus_times g s S S' j =
    ap (λ (z : Element). S.v (suc j) 0 ⊕ s ⊗ S'.v (suc j) 0 ⊕ z ⊕ (S.c ⊕ s ⊗ S'.c))
    (value_at_plus_times (f_length g) S.f S'.f s (element (suc j)))
    ∙ solve 𝓡
    (s ∷ S.v (suc j) 0 ∷ S'.v (suc j) 0 ∷ value_at (f_length g) S.f (element (suc j)) ∷ value_at (f_length g) S'.f (element (suc j)) ∷ S.c ∷ S'.c ∷ [])
    (B :+ A :* C :+ (D :+ A :* E) :+ (F :+ A :* G)) (B :+ D :+ F :+ A :* (C :+ E :+ G)) refl

pub check_of_plus_times : (g : Shape) (s : Element) (w : Points) (S S' : Vector) (m : ℕ)
    → check_of g w (plus_times s S S') m ≡ check_of g w S m ⊕ s ⊗ check_of g w S' m
check_of_plus_times g s w S S' m =
    value_at_plus_times (v_length g) (S.v (suc (m / g.points))) (S'.v (suc (m / g.points))) s (element (point_at w (m % g.points)))

-- the row of S + s S' is the row of S plus s times that of S'
pub row_plus_times : (g : Shape) (i s : ℕ) (w : Points) (S S' : Vector)
    → row_of g i w (plus_times (element s) S S') ≡ combined s (row_of g i w S) (row_of g i w S')
unfolding row_of
row_plus_times g i s w S S' =
    sym (combined_numbers s (v_length g) (S.v i) (S'.v i) _ _ ∙ ap (λ (l : List ℕ). numbers (v_length g) ((plus_times (element s) S S').v i) ++ l) rest)
  where
    checks : numbers (checks_length g) (λ j. check_of g w S j ⊕ element s ⊗ check_of g w S' j) ≡ numbers (checks_length g) (check_of g w (plus_times (element s) S S'))
    checks = ap (numbers (checks_length g)) (fun_ext (λ m. sym (check_of_plus_times g (element s) w S S' m)))

    sums : numbers g.n (λ j. sum_at g S j ⊕ element s ⊗ sum_at g S' j) ≡ numbers g.n (sum_at g (plus_times (element s) S S'))
    sums = ap (numbers g.n) (fun_ext (λ j. sym (sum_at_plus_times g (element s) S S' j)))

    rest : combined s (numbers (checks_length g) (check_of g w S) ++ numbers g.n (sum_at g S)) (numbers (checks_length g) (check_of g w S') ++ numbers g.n (sum_at g S'))
        ≡ numbers (checks_length g) (check_of g w (plus_times (element s) S S')) ++ numbers g.n (sum_at g (plus_times (element s) S S'))
    rest =
        combined_numbers s (checks_length g) (check_of g w S) (check_of g w S') _ _
        ∙ ap₂ ◌++◌ checks (combined_last s g.n (sum_at g S) (sum_at g S') ∙ sums)

pub number_plus_times : (s : Element) (S S' : Vector) → number (plus_times s S S') ≡ number S ⊕ s ⊗ number S'
unfolding Same
number_plus_times s S S' =
    solve 𝓡 (s ∷ S.c ∷ S'.c ∷ S.f 0 ∷ S'.f 0 ∷ []) (B :+ A :* C :+ (D :+ A :* E)) (B :+ D :+ A :* (C :+ E)) refl

raised_numbers : (n c : ℕ) (a : ℕ → Element) → map (λ m. sum m c) (numbers n a) ≡ numbers n (λ i. a i ⊕ element c)
unfolding numbers
raised_numbers zero c a = refl
raised_numbers (suc n) c a = ap₂ ◌∷◌ (sum_number (a 0) c) (raised_numbers n c (λ i. a (suc i)))

-- the row of S with c added is the row of S with c added to its sums
pub row_raised : (g : Shape) (i c : ℕ) (w : Points) (S : Vector)
    → row_of g i w (raised (element c) S) ≡ plus_sums (sums_at_of g) c (row_of g i w S)
unfolding row_of plus_sums Same
row_raised g i c w S =
    sym
    (ap (λ (l : List ℕ). take (sums_at_of g) l ++ map (λ m. sum m c) (drop (sums_at_of g) l)) (sym (append_assoc a b m))
    ∙ ap₂ ◌++◌ (take_at (a ++ b) m (sums_at_of g) size)
    (ap (map (λ x. sum x c)) (drop_at (a ++ b) m (sums_at_of g) size) ∙ raised_numbers g.n c (sum_at g S) ∙ ap (numbers g.n) (fun_ext more))
    ∙ append_assoc a b _)
  where
    a : List ℕ
    a = numbers (v_length g) (S.v i)

    b : List ℕ
    b = numbers (checks_length g) (check_of g w S)

    m : List ℕ
    m = numbers g.n (sum_at g S)

    size : length (a ++ b) ≡ sums_at_of g
    size = length-append a b ∙ ap₂ ◌+◌ (length_numbers (v_length g) (S.v i)) (length_numbers (checks_length g) (check_of g w S))

    more : (j : ℕ) → sum_at g S j ⊕ element c ≡ sum_at g (raised (element c) S) j
    more j =
        solve 𝓡 (S.v (suc j) 0 ∷ value_at (f_length g) S.f (element (suc j)) ∷ S.c ∷ element c ∷ [])
        (A :+ B :+ C :+ D) (A :+ B :+ (C :+ D)) refl

-- the row of S + s S' with a fee added is the sum of the rows with that fee
pub row_summed : (g : Shape) (i s fee : ℕ) (w : Points) (S S' : Vector)
    → row_of g i w (raised (element fee) (plus_times (element s) S S')) ≡ summed (sums_at_of g) s fee (row_of g i w S) (row_of g i w S')
row_summed g i s fee w S S' =
    row_raised g i fee w (plus_times (element s) S S') ∙ ap (plus_sums (sums_at_of g) fee) (row_plus_times g i s w S S')
