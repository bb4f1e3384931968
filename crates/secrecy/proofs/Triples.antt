-- What is drawn for a triple, moved: the numbers of l and of l' each by a multiple of the kernel, and those of l'' so that its
-- number, which is not drawn, stays the product of the other two.
use Prim.Native.Nat.{ℕ, suc, ◌+◌, ◌≤◌}
use mathlib.Core.Path.{◌≡◌, refl, sym, ◌∙◌, ap, ap₂}
use mathlib.Core.List.{List, [], ◌∷◌, ◌++◌}
use native.Mathlib.Nat.{add-zero}
use native.Mathlib.Omega.{arith}
use lib.ListN.{length, take, drop, get_or, length-append, length-drop, take-append-drop}
use lib.Seq.{take_at, drop_at, drop-drop, length-take-le, get_or-take, get_or-drop}
use Rattle.field.specs.Element.{Element, element}
use Rattle.field.proofs.Expression.{A, B, C, D, 𝟙, ◌:+◌, ◌:*◌, :-◌, Same}
use Rattle.field.proofs.Solver.{solve}
use Rattle.field.proofs.Elements.{𝓡}
use Rattle.poly.specs.Counting.{Elements}
use Rattle.parts.proofs.Laws.{elements_append, elements_take, elements_drop}
use Rattle.secrecy.proofs.Shift.{shift, length_shift, elements_shift, shift_at, shift_back}
open 𝓡 use {add as ◌⊕◌, mul as ◌⊗◌, neg, one as 1ᴱ}

infixl 65 ◌⊕◌
infixl 70 ◌⊗◌
-- ---- lists

length_three : (a b c : List ℕ) → length (a ++ (b ++ c)) ≡ length a + (length b + length c)
length_three a b c = length-append a (b ++ c) ∙ ap (λ (z : ℕ). length a + z) (length-append b c)

three_parts : (d : ℕ) (l : List ℕ) → take d l ++ (take d (drop d l) ++ drop (d + d) l) ≡ l
three_parts d l =
    ap (λ (x : List ℕ). take d l ++ x)
    (ap (λ (x : List ℕ). take d (drop d l) ++ x) (sym (drop-drop d d l)) ∙ take-append-drop d (drop d l))
    ∙ take-append-drop d l

pub nothing : (l : List ℕ) → length l ≡ 0 → l ≡ []
nothing [] e = refl
nothing (x ∷ l) e = absurd (omega arith)

pub shift_empty : (fl : ℕ → Element) (δ : Element) → shift fl δ [] ≡ []
shift_empty fl δ = nothing (shift fl δ []) (length_shift fl δ [])

-- the first number, where the layout begins with one
pub shift_constant : (fl : ℕ → Element) (δ : Element) (xs : List ℕ) → fl 0 ≡ 1ᴱ → 1 ≤ length xs
    → element (get_or (shift fl δ xs) 0 0) ≡ element (get_or xs 0 0) ⊕ δ
unfolding Same
shift_constant fl δ xs unit some =
    shift_at fl δ xs 0 some ∙ ap (λ (z : Element). element (get_or xs 0 0) ⊕ δ ⊗ z) unit
    ∙ solve 𝓡 (element (get_or xs 0 0) ∷ δ ∷ []) (A :+ B :* 𝟙) (A :+ B) refl

-- ---- the triple moved

-- by how much the product differs, where the factors l0 and l1 differ by a and b
abbrev pub crossed : Element → Element → Element → Element → Element
crossed l0 l1 a b = l0 ⊗ b ⊕ l1 ⊗ a ⊕ a ⊗ b

abbrev pub cross : ℕ → Element → Element → List ℕ → Element
cross d a b l = crossed (element (get_or l 0 0)) (element (get_or l d 0)) a b

-- d numbers of the first draw, d of the second, and those of the third without its constant; fl is the kernel's layout
module _ (d : ℕ) (fl : ℕ → Element) (a b : Element) where
  abbrev one : List ℕ → List ℕ
  one l = shift fl a (take d l)

  abbrev two : List ℕ → List ℕ
  two l = shift fl b (take d (drop d l))

  abbrev rest : List ℕ → List ℕ
  rest l = shift (λ m. fl (suc m)) (cross d a b l) (drop (d + d) l)

  pub moved_triple : List ℕ → List ℕ
  moved_triple l = one l ++ (two l ++ rest l)

  pub length_triple : (l : List ℕ) → length (moved_triple l) ≡ length l
  unfolding moved_triple
  length_triple l =
      length_three (one l) (two l) (rest l)
      ∙ ap₂ ◌+◌ (length_shift fl a (take d l))
      (ap₂ ◌+◌ (length_shift fl b (take d (drop d l))) (length_shift (λ m. fl (suc m)) (cross d a b l) (drop (d + d) l)))
      ∙ sym (length_three (take d l) (take d (drop d l)) (drop (d + d) l)) ∙ ap length (three_parts d l)

  pub elements_triple : (l : List ℕ) → Elements (moved_triple l)
  unfolding moved_triple
  elements_triple l =
      elements_append (one l) (two l ++ rest l) (elements_shift fl a (take d l))
      (elements_append (two l) (rest l) (elements_shift fl b (take d (drop d l)))
      (elements_shift (λ m. fl (suc m)) (cross d a b l) (drop (d + d) l)))

  pub triple_none : moved_triple [] ≡ []
  triple_none = nothing (moved_triple []) (length_triple [])

  -- its three parts, where the list is long enough
  module _ (l : List ℕ) (long : d + d ≤ length l) where
    one_long : length (one l) ≡ d
    one_long = length_shift fl a (take d l) ∙ length-take-le d l (omega arith)

    two_long : length (two l) ≡ d
    two_long = length_shift fl b (take d (drop d l)) ∙ length-take-le d (drop d l) (omega (arith, length-drop d l))

    pub triple_first : take d (moved_triple l) ≡ shift fl a (take d l)
    unfolding moved_triple
    triple_first = take_at (one l) (two l ++ rest l) d one_long

    behind : drop d (moved_triple l) ≡ two l ++ rest l
    unfolding moved_triple
    behind = drop_at (one l) (two l ++ rest l) d one_long

    pub triple_second : take d (drop d (moved_triple l)) ≡ shift fl b (take d (drop d l))
    triple_second = ap (take d) behind ∙ take_at (two l) (rest l) d two_long

    pub triple_rest : drop (d + d) (moved_triple l) ≡ shift (λ m. fl (suc m)) (cross d a b l) (drop (d + d) l)
    triple_rest = sym (drop-drop d d (moved_triple l)) ∙ ap (drop d) behind ∙ drop_at (two l) (rest l) d two_long

    -- the numbers of the first and of the second
    module _ (some : 1 ≤ d) (unit : fl 0 ≡ 1ᴱ) where
      at_place : (xs : List ℕ) → get_or (take d (drop d xs)) 0 0 ≡ get_or xs d 0
      at_place xs = get_or-take d (drop d xs) 0 0 some ∙ get_or-drop d xs 0 0 ∙ ap (λ (m : ℕ). get_or xs m 0) (add-zero d)

      pub triple_a : element (get_or (moved_triple l) 0 0) ≡ element (get_or l 0 0) ⊕ a
      triple_a =
          ap element (sym (get_or-take d (moved_triple l) 0 0 some) ∙ ap (λ (x : List ℕ). get_or x 0 0) triple_first)
          ∙ shift_constant fl a (take d l) unit (omega (arith, one_long, length_shift fl a (take d l)))
          ∙ ap (λ (x : ℕ). element x ⊕ a) (get_or-take d l 0 0 some)

      pub triple_b : element (get_or (moved_triple l) d 0) ≡ element (get_or l d 0) ⊕ b
      triple_b =
          ap element (sym (at_place (moved_triple l)) ∙ ap (λ (x : List ℕ). get_or x 0 0) triple_second)
          ∙ shift_constant fl b (take d (drop d l)) unit (omega (arith, two_long, length_shift fl b (take d (drop d l))))
          ∙ ap (λ (x : ℕ). element x ⊕ b) (at_place l)

-- ---- there and back

pub triple_back : (d : ℕ) (fl : ℕ → Element) (a b a' b' : Element) (l : List ℕ) → d + d ≤ length l → 1 ≤ d → fl 0 ≡ 1ᴱ
    → Elements l → a' ≡ neg a → b' ≡ neg b → moved_triple d fl a' b' (moved_triple d fl a b l) ≡ l
unfolding moved_triple Same
triple_back d fl a b a' b' l long some unit low ea eb =
    ap₂ ◌++◌ (ap (shift fl a') (triple_first d fl a b l long) ∙ shift_back fl a a' (take d l) (elements_take d l low) ea)
    (ap₂ ◌++◌
    (ap (shift fl b') (triple_second d fl a b l long)
    ∙ shift_back fl b b' (take d (drop d l)) (elements_take d (drop d l) (elements_drop d l low)) eb)
    (ap (shift (λ m. fl (suc m)) (cross d a' b' (moved_triple d fl a b l))) (triple_rest d fl a b l long)
    ∙ shift_back (λ m. fl (suc m)) (cross d a b l) (cross d a' b' (moved_triple d fl a b l)) (drop (d + d) l)
    (elements_drop (d + d) l low) crosses))
    ∙ three_parts d l
  where
    l0 : Element
    l0 = element (get_or l 0 0)

    l1 : Element
    l1 = element (get_or l d 0)

    crosses : cross d a' b' (moved_triple d fl a b l) ≡ neg (cross d a b l)
    crosses =
        ap₂ (λ (x y : Element). crossed x y a' b') (triple_a d fl a b l long some unit) (triple_b d fl a b l long some unit)
        ∙ ap₂ (λ (x y : Element). crossed (l0 ⊕ a) (l1 ⊕ b) x y) ea eb
        ∙ solve 𝓡 (l0 ∷ l1 ∷ a ∷ b ∷ []) ((A :+ C) :* :- D :+ (B :+ D) :* :- C :+ :- C :* :- D)
        (:- (A :* D :+ B :* C :+ C :* D)) refl
