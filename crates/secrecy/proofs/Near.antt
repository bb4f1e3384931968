-- Two vectors that differ, as far as any post can see, by a multiple of the kernel: the same shared number in two runs. The
-- calls keep them near; where the two numbers agree so do the rows of all posts, and in the group the rows always agree.
use Prim.Native.Nat.{ℕ, zero, suc, ◌+◌, ◌*◌, ◌-◌, ◌/◌, ◌%◌, ◌≤◌, ◌<◌}
use mathlib.Core.Path.{◌≡◌, refl, sym, ◌∙◌, ap, ap₂, fun_ext}
use mathlib.Core.Logic.{◌≢◌}
use mathlib.Core.List.{List, [], ◌∷◌, ◌++◌, map}
use native.Mathlib.Nat.{zero-mul, suc-mul, mul_comm, mul-le-mul_right, mod-lt}
use native.Mathlib.Decide.{dec_le}
use native.Mathlib.Omega.{arith}
use lib.Dec.{lit<}
use lib.ListN.{length, length-map, length-append}
use Rattle.field.specs.Modulus.{p}
use Rattle.field.specs.Element.{Element, element}
use Rattle.field.proofs.Ring.{mul_zero}
use Rattle.field.proofs.Expression.{A, B, C, D, E, F, 𝟘, 𝟙, ◌:+◌, ◌:*◌, ◌:-◌, :-◌, Same}
use Rattle.field.proofs.Solver.{solve}
use Rattle.field.proofs.Elements.{𝓡, element_injective, element_zero}
use Rattle.poly.specs.Counting.{All}
use Rattle.poly.proofs.Lists.{all_zip}
use Rattle.shape.specs.declared.Shape.{Shape}
use Rattle.shape.specs.declared.Points.{Points}
use Rattle.shape.specs.Lengths.{f_length, v_length, checks_length, sums_at_of}
use Rattle.shape.specs.Row.{point_at}
use Rattle.session.specs.Rows.{combined, plus_sums}
use Rattle.vectors.specs.Vector.{Vector, plus_times, raised, number, firsts, numbers, value_at, check_of, sum_at, row_of}
use Rattle.vectors.proofs.Linear.{check_of_plus_times, sum_at_plus_times, row_plus_times, number_plus_times, row_raised}
use Rattle.vectors.proofs.Passing.{all_parts}
use Rattle.secrecy.proofs.Kernel.{kernel, L-at, kernel_own, kernel_sums, kernel_checks}
use Rattle.runs.proofs.Numbers.{less_number}
open 𝓡 use {add as ◌⊕◌, mul as ◌⊗◌, neg, zero as 0ᴱ, one as 1ᴱ, add_zero, add_neg}

infixl 65 ◌⊕◌
infixl 70 ◌⊗◌
-- by how much the number is greater in the second run
abbrev pub gap : Vector → Vector → Element
gap S S' = number S' ⊕ neg (number S)

-- nothing added
pub plus_times_none : (δ : Element) (S K : Vector) → δ ≡ 0ᴱ → plus_times δ S K ≡ S
unfolding Same
plus_times_none δ S K e =
    λ t. record { c = gone S.c K.c t; f = λ m. gone (S.f m) (K.f m) t; v = λ j m. gone (S.v j m) (K.v j m) t }
  where
    gone : (a k : Element) → a ⊕ δ ⊗ k ≡ a
    gone a k = ap (λ (z : Element). a ⊕ z ⊗ k) e ∙ solve 𝓡 (a ∷ k ∷ []) (A :+ 𝟘 :* B) A refl

-- ---- masks

-- The numbers of a - l agree in both runs when a and l differ by the same.
pub mask_number : (a a' l l' : Vector) → gap a a' ≡ gap l l'
    → number (plus_times (element (p - 1)) a l) ≡ number (plus_times (element (p - 1)) a' l')
unfolding Same
mask_number a a' l l' e =
    less_number a l
    ∙ solve 𝓡 (number a ∷ number a' ∷ number l ∷ []) (A :+ :- 𝟙 :* C) (B :- (B :- A) :- C) refl
    ∙ ap (λ (z : Element). number a' ⊕ neg z ⊕ neg (number l)) e
    ∙ solve 𝓡 (number a' ∷ number l ∷ number l' ∷ []) (A :- (C :- B) :- B) (A :+ :- 𝟙 :* C) refl
    ∙ sym (less_number a' l')

-- ---- near

-- posts with the check points pts, and the kernel K
module _ (g : Shape) (pts : ℕ → Points) (K : Vector) where
  row : ℕ → Vector → List ℕ
  row i S = row_of g i (pts i) S

  abbrev pub Near : Vector → Vector → Type 0
  Near S S' =
      (i : ℕ) → 1 ≤ i → i ≤ g.n → row_of g i (pts i) S' ≡ row_of g i (pts i) (plus_times (gap S S') S K)

  -- a vector that is the same in both runs
  pub near_self : (S : Vector) → Near S S
  unfolding row
  near_self S i lo hi = ap (row i) (sym (plus_times_none (gap S S) S K (add_neg (number S))))

  pub near_plus_times : (s : ℕ) (S S' Z Z' : Vector) → Near S S' → Near Z Z'
      → Near (plus_times (element s) S Z) (plus_times (element s) S' Z')
  unfolding row Same
  near_plus_times s S S' Z Z' h h' i lo hi =
      row_plus_times g i s (pts i) S' Z' ∙ ap₂ (combined s) (h i lo hi) (h' i lo hi)
      ∙ sym (row_plus_times g i s (pts i) (plus_times (gap S S') S K) (plus_times (gap Z Z') Z K))
      ∙ ap (row i)
      (λ t. record {
        c = mix S.c Z.c K.c t;
        f = λ m. mix (S.f m) (Z.f m) (K.f m) t;
        v = λ j m. mix (S.v j m) (Z.v j m) (K.v j m) t;
      })
    where
      whole : Element
      whole = gap (plus_times (element s) S Z) (plus_times (element s) S' Z')

      gaps : gap S S' ⊕ element s ⊗ gap Z Z' ≡ whole
      gaps =
          solve 𝓡 (element s ∷ number S ∷ number S' ∷ number Z ∷ number Z' ∷ [])
          (C :- B :+ A :* (E :- D)) (C :+ A :* E :- (B :+ A :* D)) refl
          ∙ sym (ap₂ (λ (x y : Element). x ⊕ neg y) (number_plus_times (element s) S' Z') (number_plus_times (element s) S Z))

      mix : (a b e : Element) → a ⊕ gap S S' ⊗ e ⊕ element s ⊗ (b ⊕ gap Z Z' ⊗ e) ≡ a ⊕ element s ⊗ b ⊕ whole ⊗ e
      mix a b e =
          solve 𝓡 (a ∷ b ∷ e ∷ element s ∷ gap S S' ∷ gap Z Z' ∷ [])
          (A :+ E :* C :+ D :* (B :+ F :* C)) (A :+ D :* B :+ (E :+ D :* F) :* C) refl
          ∙ ap (λ (z : Element). a ⊕ element s ⊗ b ⊕ z ⊗ e) gaps

  pub near_raised : (c : ℕ) (S S' : Vector) → Near S S' → Near (raised (element c) S) (raised (element c) S')
  unfolding row Same
  near_raised c S S' h i lo hi =
      row_raised g i c (pts i) S' ∙ ap (plus_sums (sums_at_of g) c) (h i lo hi)
      ∙ sym (row_raised g i c (pts i) (plus_times (gap S S') S K))
      ∙ ap (row i) (λ t. record { c = mix t; f = λ m. S.f m ⊕ gaps t ⊗ K.f m; v = λ j m. S.v j m ⊕ gaps t ⊗ K.v j m })
    where
      whole : Element
      whole = gap (raised (element c) S) (raised (element c) S')

      gaps : gap S S' ≡ whole
      gaps =
          solve 𝓡 (S.c ∷ S.f 0 ∷ S'.c ∷ S'.f 0 ∷ element c ∷ []) (C :+ D :- (A :+ B)) (C :+ E :+ D :- (A :+ E :+ B)) refl

      mix : S.c ⊕ gap S S' ⊗ K.c ⊕ element c ≡ S.c ⊕ element c ⊕ whole ⊗ K.c
      mix =
          solve 𝓡 (S.c ∷ gap S S' ∷ K.c ∷ element c ∷ []) (A :+ B :* C :+ D) (A :+ D :+ B :* C) refl
          ∙ ap (λ (z : Element). S.c ⊕ element c ⊕ z ⊗ K.c) gaps

  -- with one number, every post has one row
  pub near_same : (S S' : Vector) → Near S S' → number S ≡ number S' → (i : ℕ) → 1 ≤ i → i ≤ g.n
      → row_of g i (pts i) S ≡ row_of g i (pts i) S'
  unfolding row
  near_same S S' h e i lo hi =
      sym
      (h i lo hi
      ∙ ap (row i) (plus_times_none (gap S S') S K (ap (λ (z : Element). number S' ⊕ neg z) e ∙ add_neg (number S'))))

-- ---- the group

-- Nothing of K is in the row of post i, whose check points are w.
pub record Unseen (g : Shape) (i : ℕ) (w : Points) (K : Vector) : Type 0 where
  pub own : (m : ℕ) → K.v i m ≡ 0ᴱ
  pub checks : (m : ℕ) → m < checks_length g → check_of g w K m ≡ 0ᴱ
  pub sums : (j : ℕ) → sum_at g K j ≡ 0ᴱ

numbers_agree : (k : ℕ) (a b : ℕ → Element) → ((m : ℕ) → m < k → a m ≡ b m) → numbers k a ≡ numbers k b
unfolding numbers
numbers_agree zero a b h = refl
numbers_agree (suc k) a b h = ap₂ (λ (x : Element) (l : List ℕ). x.0 ∷ l) (h 0 (omega arith)) (numbers_agree k (λ i. a (suc i)) (λ i. b (suc i)) (λ m low. h (suc m) (omega arith)))

-- What is not in a row cannot change it.
pub blind : (g : Shape) (i : ℕ) (w : Points) (δ : Element) (S K : Vector) → Unseen g i w K → row_of g i w (plus_times δ S K) ≡ row_of g i w S
unfolding row_of
blind g i w δ S K u =
    ap₂ ◌++◌ (ap (numbers (v_length g)) (fun_ext (λ m. gone (S.v i m) (K.v i m) (u.own m))))
    (ap₂ ◌++◌
    (numbers_agree (checks_length g) _ _ (λ m low. check_of_plus_times g δ w S K m ∙ gone _ _ (u.checks m low)))
    (ap (numbers g.n) (fun_ext (λ j. sum_at_plus_times g δ S K j ∙ gone _ _ (u.sums j)))))
  where
    gone : (a e : Element) → e ≡ 0ᴱ → a ⊕ δ ⊗ e ≡ a
    gone a e z = ap (λ (x : Element). a ⊕ δ ⊗ x) z ∙ ap (λ (x : Element). a ⊕ x) (mul_zero 𝓡 δ) ∙ add_zero a

-- near vectors have one row at a post that sees nothing of the kernel
pub near_blind : (g : Shape) (pts : ℕ → Points) (K S S' : Vector) → Near g pts K S S' → (i : ℕ) → 1 ≤ i → i ≤ g.n
    → Unseen g i (pts i) K → row_of g i (pts i) S ≡ row_of g i (pts i) S'
near_blind g pts K S S' h i lo hi u = sym (h i lo hi ∙ blind g i (pts i) (gap S S') S K u)

all_mapped : (P : Element → Type 0) (e : ℕ → Element) (l : List ℕ) → All P (map e l) → All (λ i. P (e i)) l
all_mapped P e [] a = tt
all_mapped P e (i ∷ l) a = (a.0, all_mapped P e l a.1)

-- numbers from 1 to p - 1 are nodes that are not zero
pub nonzero_nodes : (e : ℕ → ℕ) (l : List ℕ) → All (λ i. (1 ≤ e i) × (e i < p)) l → All (λ r. r ≢ 0ᴱ) (map (λ i. element (e i)) l)
nonzero_nodes e [] a = tt
nonzero_nodes e (i ∷ l) a = (
  (λ z. omega (arith, a.0.0, element_injective (e i) 0 a.0.1 (lit< tt) (z ∙ sym element_zero))),
  nonzero_nodes e l a.1,
)

none : (k : ℕ) → (1 ≤ k → ⊥) → k ≡ 0
none k n = omega arith

-- ---- the points of a group: k of each post, one post after the other

module _ (k : ℕ) (pts : ℕ → Points) where
  -- a post's h-th point
  abbrev pub at : ℕ → ℕ → Element
  at i h = element (point_at (pts i) h)

  unfoldable pub points_of_all : List ℕ → List Element
  points_of_all [] = []
  points_of_all (i ∷ l) = firsts k (at i) ++ points_of_all l

  length_firsts : (m : ℕ) (a : ℕ → Element) → length (firsts m a) ≡ m
  unfolding firsts
  length_firsts zero a = refl
  length_firsts (suc m) a = ap suc (length_firsts m (λ i. a (suc i)))

  pub length_points : (l : List ℕ) → length (points_of_all l) ≡ length l * k
  unfolding points_of_all
  length_points [] = sym (zero-mul k)
  length_points (i ∷ l) =
      length-append (firsts k (at i)) (points_of_all l) ∙ ap₂ ◌+◌ (length_firsts k (at i)) (length_points l) ∙ omega (arith, suc-mul (length l) k)

  firsts_at : (P : Element → Type 0) (m : ℕ) (a : ℕ → Element) → All P (firsts m a) → (h : ℕ) → h < m → P (a h)
  unfolding firsts
  firsts_at P zero a al h low = absurd (omega arith)
  firsts_at P (suc m) a al zero low = al.0
  firsts_at P (suc m) a al (suc h) low = firsts_at P m (λ i. a (suc i)) al.1 h (omega arith)

  firsts_all : (P : Element → Type 0) (m : ℕ) (a : ℕ → Element) → ((h : ℕ) → h < m → P (a h)) → All P (firsts m a)
  unfolding firsts
  firsts_all P zero a f = tt
  firsts_all P (suc m) a f = (f 0 (omega arith), firsts_all P m (λ i. a (suc i)) (λ h low. f (suc h) (omega arith)))

  -- what holds at all of them holds at each point of each post
  pub points_each : (P : Element → Type 0) (l : List ℕ) → All P (points_of_all l) → All (λ i. (h : ℕ) → h < k → P (at i h)) l
  unfolding points_of_all
  points_each P [] a = tt
  points_each P (i ∷ l) a = let (here, rest) = all_parts P (firsts k (at i)) (points_of_all l) a in (firsts_at P k (at i) here, points_each P l rest)

  all_join : (P : Element → Type 0) (xs ys : List Element) → All P xs → All P ys → All P (xs ++ ys)
  all_join P [] ys a b = b
  all_join P (x ∷ xs) ys a b = (a.0, all_join P xs ys a.1 b)

  -- points from 1 to p - 1 are nodes that are not zero
  pub nonzero_points : (l : List ℕ) → All (λ i. (h : ℕ) → h < k → (1 ≤ point_at (pts i) h) × (point_at (pts i) h < p)) l
      → All (λ r. r ≢ 0ᴱ) (points_of_all l)
  unfolding points_of_all
  nonzero_points [] a = tt
  nonzero_points (i ∷ l) a =
      all_join _ (firsts k (at i)) (points_of_all l)
      (firsts_all _ k (at i)
      (λ h low z. let w = a.0 h low in omega (arith, w.0, element_injective (point_at (pts i) h) 0 w.1 (lit< tt) (z ∙ sym element_zero))))
      (nonzero_points l a.1)

-- The kernel of a group of posts with the check points pts, and that each of them sees nothing of it.
module _ (k : ℕ) (pts : ℕ → Points) (group : List ℕ) where
  abbrev pub group_posts : List Element
  group_posts = map element group

  abbrev pub group_points : List Element
  group_points = points_of_all k pts group

  abbrev pub group_kernel : Vector
  group_kernel = kernel group_posts group_points

  pub kernel_unseen : (g : Shape) → g.points ≡ k → length group < f_length g → All (λ w. w ≢ 0ᴱ) group_points
      → All (λ i. Unseen g i (pts i) group_kernel) group
  kernel_unseen g ek few nonzero =
      all_zip (λ i e c. record { own = kernel_own group_posts group_points i e; checks = checks i c; sums = sums }) group
      (all_mapped _ element group (L-at group_posts group_points))
      (points_each k pts _ group (kernel_checks group_posts group_points g long))
    where
      -- k points of each of at most t posts
      long : length group_points < v_length g
      long =
          omega
          (arith, length_points k pts group, mul-le-mul_right {m = length group} {n = g.t} k (omega arith), mul_comm k g.t, ap (λ (i : ℕ). i * g.t) ek)

      checks : (i : ℕ) → ((h : ℕ) → h < k → (j : ℕ) → value_at (v_length g) (group_kernel.v j) (at k pts i h) ≡ 0ᴱ) → (m : ℕ) → m < checks_length g
          → check_of g (pts i) group_kernel m ≡ 0ᴱ
      checks i c m low = c (m % g.points) (rw ek (mod-lt m {m = k} some)) (suc (m / g.points))
        where
          some : 0 < k
          some = go (dec_le 1 k)
            where
              go : Dec (1 ≤ k) → 0 < k
              go (yes y) = y
              go (no n) = absurd (omega (arith, low, ap (λ (z : ℕ). z * g.n) (ek ∙ none k n) ∙ zero-mul g.n))

      sums : (j : ℕ) → sum_at g group_kernel j ≡ 0ᴱ
      sums = kernel_sums group_posts group_points g (omega (arith, length-map group element)) nonzero
