-- A draw moved by a multiple of the kernel: the other draw, which shows the group the same and shares another number. Moving
-- by δ is undone by moving by -δ, so that the draws of two lists of secrets are matched one to one.
use Prim.Native.Nat.{ℕ, zero, suc, ◌+◌, ◌*◌, ◌/◌, ◌%◌, ◌-◌, ◌≤◌, ◌<◌}
use mathlib.Core.Path.{◌≡◌, refl, sym, ◌∙◌, ap, ap₂}
use mathlib.Core.Bool.{Bool, cond}
use mathlib.Core.List.{List, [], ◌∷◌, ◌++◌}
use native.Mathlib.Nat.{mul_comm, zero-mul, div-lt_iff_lt-mul, add-zero, mod-eq_of_lt, div-eq_of_lt, mul-add-mod_self_right, mul-add-div_right}
use native.Mathlib.Decide.{dec_le}
use native.Mathlib.Omega.{arith}
use borrow.Author.Tests.{lt-ltb, le-ltb}
use lib.Dec.{ltb}
use lib.ListN.{length, get_or}
use Rattle.shape.specs.Row.{point_at}
use Rattle.shape.specs.declared.Points.{Points}
use Rattle.field.specs.Modulus.{p}
use Rattle.field.specs.Element.{Element, element}
use Rattle.field.proofs.Expression.{A, B, C, 𝟘, 𝟙, ◌:+◌, ◌:*◌, ◌:-◌, :-◌, Same}
use Rattle.field.proofs.Solver.{solve}
use Rattle.field.proofs.Elements.{𝓡, element_of_number, number_below}
use Rattle.poly.specs.Counting.{Elements}
use Rattle.poly.proofs.Coefficients.{ev}
use Rattle.shape.specs.declared.Shape.{Shape}
use Rattle.shape.specs.Lengths.{checks_length, f_length, v_length, draw_length}
use Rattle.parts.proofs.Laws.{drawn_room}
use Rattle.vectors.specs.Vector.{Vector, plus_times, number, firsts, numbers, value_at, row_of, vector_of}
use Rattle.secrecy.proofs.Near.{gap, Near}
open 𝓡 use {add as ◌⊕◌, mul as ◌⊗◌, neg, zero as 0ᴱ, one as 1ᴱ}

infixl 65 ◌⊕◌
infixl 70 ◌⊗◌
-- ---- lists of numbers

-- δ fl added, number by number
unfoldable pub shift : (ℕ → Element) → Element → List ℕ → List ℕ
shift fl δ [] = []
shift fl δ (x ∷ d) = (element x ⊕ δ ⊗ fl 0).0 ∷ shift (λ m. fl (suc m)) δ d

pub length_shift : (fl : ℕ → Element) (δ : Element) (d : List ℕ) → length (shift fl δ d) ≡ length d
unfolding shift
length_shift fl δ [] = refl
length_shift fl δ (x ∷ d) = ap suc (length_shift (λ m. fl (suc m)) δ d)

pub elements_shift : (fl : ℕ → Element) (δ : Element) (d : List ℕ) → Elements (shift fl δ d)
unfolding shift
elements_shift fl δ [] = tt
elements_shift fl δ (x ∷ d) = ((element x ⊕ δ ⊗ fl 0).1, elements_shift (λ m. fl (suc m)) δ d)

pub shift_at : (fl : ℕ → Element) (δ : Element) (d : List ℕ) (m : ℕ) → m < length d
    → element (get_or (shift fl δ d) m 0) ≡ element (get_or d m 0) ⊕ δ ⊗ fl m
unfolding shift
shift_at fl δ [] m h = absurd (omega arith)
shift_at fl δ (x ∷ d) zero h = element_of_number _
shift_at fl δ (x ∷ d) (suc m) h = shift_at (λ m. fl (suc m)) δ d m (omega arith)

-- an element's number, from an element that is equal to it
number_from : (x : ℕ) (z : Element) → x < p → z ≡ element x → z.0 ≡ x
number_from x z h e = ap (λ (y : Element). y.0) e ∙ number_below x h

pub shift_back : (fl : ℕ → Element) (δ ε : Element) (d : List ℕ) → Elements d → ε ≡ neg δ → shift fl ε (shift fl δ d) ≡ d
unfolding shift Same
shift_back fl δ ε [] low e = refl
shift_back fl δ ε (x ∷ d) low e =
    ap₂ ◌∷◌
    (number_from x _ low.0
    (ap₂ (λ (y z : Element). y ⊕ z ⊗ fl 0) (element_of_number (element x ⊕ δ ⊗ fl 0)) e
    ∙ solve 𝓡 (element x ∷ δ ∷ fl 0 ∷ []) (A :+ B :* C :+ :- B :* C) A refl))
    (shift_back (λ m. fl (suc m)) δ ε d low.1 e)

pub shift_none : (fl : ℕ → Element) (δ : Element) (d : List ℕ) → Elements d → δ ≡ 0ᴱ → shift fl δ d ≡ d
unfolding shift Same
shift_none fl δ [] low e = refl
shift_none fl δ (x ∷ d) low e =
    ap₂ ◌∷◌
    (number_from x _ low.0
    (ap (λ (z : Element). element x ⊕ z ⊗ fl 0) e ∙ solve 𝓡 (element x ∷ fl 0 ∷ []) (A :+ 𝟘 :* B) A refl))
    (shift_none (λ m. fl (suc m)) δ d low.1 e)

-- ---- rows of vectors that agree

numbers_agree : (k : ℕ) (a b : ℕ → Element) → ((i : ℕ) → i < k → a i ≡ b i) → numbers k a ≡ numbers k b
unfolding numbers
numbers_agree zero a b h = refl
numbers_agree (suc k) a b h =
    ap₂ ◌∷◌ (ap (λ (z : Element). z.0) (h 0 (omega arith))) (numbers_agree k _ _ (λ i l. h (suc i) (omega arith)))

value_agree : (k : ℕ) (a b : ℕ → Element) (x : Element) → ((i : ℕ) → i < k → a i ≡ b i) → value_at k a x ≡ value_at k b x
unfolding value_at firsts ev
value_agree zero a b x h = refl
value_agree (suc k) a b x h =
    ap₂ (λ (c y : Element). c ⊕ x ⊗ y) (h 0 (omega arith)) (value_agree k _ _ x (λ i l. h (suc i) (omega arith)))

-- the sender of the x-th check value is a post
post : (s : Shape) (x : ℕ) → x < checks_length s → x / s.points < s.n
post s x l = go (dec_le 1 s.points)
  where
    none : (1 ≤ s.points → ⊥) → s.points ≡ 0
    none n = omega arith

    go : Dec (1 ≤ s.points) → x / s.points < s.n
    go (yes y) = (div-lt_iff_lt-mul y).1 (rw (mul_comm s.points s.n) at l)
    go (no n) = absurd (omega (arith, l, ap (λ (k : ℕ). k * s.n) (none n) ∙ zero-mul s.n))

-- A row looks at so many coefficients and at n posts only.
pub row_agree : (s : Shape) (i : ℕ) (w : Points) (S Z : Vector) → 1 ≤ i → i ≤ s.n → S.c ≡ Z.c
    → ((m : ℕ) → m < f_length s → S.f m ≡ Z.f m) → ((j m : ℕ) → j < s.n → m < v_length s → S.v (suc j) m ≡ Z.v (suc j) m)
    → row_of s i w S ≡ row_of s i w Z
unfolding row_of
row_agree s zero w S Z lo hi c f v = absurd (omega arith)
row_agree s (suc i) w S Z lo hi c f v =
    ap₂ ◌++◌ (numbers_agree (v_length s) _ _ (λ m h. v i m (omega arith) h))
    (ap₂ ◌++◌ (numbers_agree (checks_length s) _ _ (λ x h. value_agree (v_length s) _ _ (element (point_at w (x % s.points))) (λ m g. v (x / s.points) m (post s x h) g)))
    (numbers_agree s.n _ _ (λ j h. ap₂ ◌⊕◌ (ap₂ ◌⊕◌ (v j 0 h (omega arith)) (value_agree (f_length s) _ _ (element (suc j)) f)) c)))

-- ---- draws

-- K laid out as a draw is: f, then v1 to vn
module _ (s : Shape) (K : Vector) where
  abbrev k : ℕ
  k = v_length s

  -- the m-th number behind f
  behind : ℕ → Element
  behind m = K.v (suc (m / k)) (m % k)

  pub flat : ℕ → Element
  flat m = cond (ltb m (f_length s)) (K.f m) (behind (m - f_length s))

  pub flat_f : (m : ℕ) → m < f_length s → flat m ≡ K.f m
  unfolding flat
  flat_f m h = ap (λ (b : Bool). cond b (K.f m) (behind (m - f_length s))) (lt-ltb m (f_length s) h)

  pub flat_rest : (m : ℕ) → flat (f_length s + m) ≡ K.v (suc (m / k)) (m % k)
  unfolding flat behind
  flat_rest m =
      ap (λ (b : Bool). cond b (K.f (f_length s + m)) (behind (f_length s + m - f_length s))) (le-ltb (f_length s + m) (f_length s) (omega arith))
      ∙ ap behind (omega arith)

  pub flat_v : (j m : ℕ) → m < k → flat (f_length s + (suc j - 1) * k + m) ≡ K.v (suc j) m
  unfolding flat behind
  flat_v j m h =
      ap flat (ap (λ (z : ℕ). f_length s + z * k + m) before ∙ omega arith)
      ∙ ap (λ (b : Bool). cond b (K.f (f_length s + (j * k + m))) (behind (f_length s + (j * k + m) - f_length s)))
      (le-ltb (f_length s + (j * k + m)) (f_length s) (omega arith))
      ∙ ap behind (omega arith)
      ∙ ap₂ (λ (x y : ℕ). K.v (suc x) y)
      (mul-add-div_right (omega arith) j m ∙ ap (λ (z : ℕ). j + z) (div-eq_of_lt h) ∙ add-zero j)
      (mul-add-mod_self_right j k m ∙ mod-eq_of_lt h)
    where
      before : suc j - 1 ≡ j
      before = omega arith

  module _ (δ : Element) where
    -- The vector of a draw moved is the draw's vector plus δ K: every post's row ..
    pub shift_row : (i : ℕ) (w : Points) (d : List ℕ) → K.c ≡ 0ᴱ → length d ≡ draw_length s → 1 ≤ i → i ≤ s.n
        → row_of s i w (vector_of s (shift flat δ d)) ≡ row_of s i w (plus_times δ (vector_of s d) K)
    unfolding vector_of Same
    shift_row i w d kc size lo hi =
        row_agree s i w _ _ lo hi
        (solve 𝓡 (δ ∷ []) 𝟘 (𝟘 :+ A :* 𝟘) refl ∙ ap (λ (z : Element). 0ᴱ ⊕ δ ⊗ z) (sym kc))
        (λ m h. shift_at flat δ d m (omega (arith, size)) ∙ ap (λ (z : Element). element (get_or d m 0) ⊕ δ ⊗ z) (flat_f m h))
        (λ j m g h.
        shift_at flat δ d (f_length s + (suc j - 1) * k + m) (omega (arith, room j g))
        ∙ ap (λ (z : Element). element (get_or d (f_length s + (suc j - 1) * k + m) 0) ⊕ δ ⊗ z) (flat_v j m h))
      where
        room : (j : ℕ) → j < s.n → f_length s + (suc j - 1) * k + k ≤ length d
        room j g = drawn_room s d size (suc j) (omega arith)

    -- .. and the number
    pub shift_number : (d : List ℕ) → K.f 0 ≡ 1ᴱ → 1 ≤ length d
        → number (vector_of s (shift flat δ d)) ≡ number (vector_of s d) ⊕ δ
    unfolding vector_of Same
    shift_number d one some =
        ap (λ (z : Element). 0ᴱ ⊕ z)
        (shift_at flat δ d 0 some ∙ ap (λ (z : Element). element (get_or d 0 0) ⊕ δ ⊗ z) (flat_f 0 (omega arith) ∙ one))
        ∙ solve 𝓡 (element (get_or d 0 0) ∷ δ ∷ []) (𝟘 :+ (A :+ B :* 𝟙)) (𝟘 :+ A :+ B) refl

    pub gap_shift : (d : List ℕ) → K.f 0 ≡ 1ᴱ → 1 ≤ length d → gap (vector_of s d) (vector_of s (shift flat δ d)) ≡ δ
    unfolding Same
    gap_shift d one some =
        ap (λ (z : Element). z ⊕ neg (number (vector_of s d))) (shift_number d one some)
        ∙ solve 𝓡 (number (vector_of s d) ∷ δ ∷ []) (A :+ B :- A) B refl

    pub near_shift : (pts : ℕ → Points) (d : List ℕ) → K.c ≡ 0ᴱ → K.f 0 ≡ 1ᴱ → length d ≡ draw_length s
        → Near s pts K (vector_of s d) (vector_of s (shift flat δ d))
    near_shift pts d kc one size i lo hi =
        shift_row i (pts i) d kc size lo hi
        ∙ ap (λ (z : Element). row_of s i (pts i) (plus_times z (vector_of s d) K)) (sym (gap_shift d one some))
      where
        some : 1 ≤ length d
        some = omega (arith, size)

    -- A triple's third draw, whose first number is not drawn: moved by δ itself, before the rest.
    pub shift_cons : (x x' : ℕ) (rest : List ℕ) → K.f 0 ≡ 1ᴱ → x' < p → element x' ≡ element x ⊕ δ
        → x' ∷ shift (λ m. flat (suc m)) δ rest ≡ shift flat δ (x ∷ rest)
    unfolding shift Same
    shift_cons x x' rest one low e =
        ap (λ (y : ℕ). y ∷ shift (λ m. flat (suc m)) δ rest)
        (sym
        (number_from x' _ low
        (ap (λ (z : Element). element x ⊕ δ ⊗ z) (flat_f 0 (omega arith) ∙ one)
        ∙ solve 𝓡 (element x ∷ δ ∷ []) (A :+ B :* 𝟙) (A :+ B) refl ∙ sym e)))
