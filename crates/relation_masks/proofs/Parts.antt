-- The lent list of masks: each product term's masks stand in the part of their place, so the whole list is all masks in order.
use Prim.Native.Nat.{ℕ, suc, ◌+◌, ◌*◌, ◌-◌, ◌≤◌, ◌<◌}
use mathlib.Core.Path.{◌≡◌, refl, sym, ◌∙◌, ap, ap₂}
use mathlib.Core.List.{List, [], ◌∷◌, ◌++◌, append_assoc}
use native.Mathlib.Nat.{suc-mul}
use native.Mathlib.Omega.{arith}
use lib.ListN.{length, drop, length-append, length-drop}
use lib.Seq.{take_at, drop_at, length-take-le}
use Rattle.field.specs.Modulus.{p}
use Rattle.shape.specs.declared.Shape.{Shape}
use Rattle.shape.specs.Bounds.{row_count_of}
use Rattle.shape.specs.Lengths.{row_length, v_length, masks_length}
use Rattle.shape.specs.Row.{coefficients}
use Rattle.session.specs.Rows.{row_at, with_row}
use Rattle.session.specs.Between.{Sized, RowIn}
use Rattle.session.proofs.Passed.{row_below}
use Rattle.session.proofs.RowLaws.{next, length_row, length_with_row}
use Rattle.sums.proofs.Writers.{length_combined}
use Rattle.product_masks.specs.Masks.{mask_row, both_masks}
use Rattle.terms.specs.declared.Term.{Term}
use Rattle.relation.specs.Tests.{Every, Factors}
use Rattle.relation.specs.Masks.{term_masks}
use Rattle.relation.proofs.Loops.{walked}

module _ (g : Shape) (rows : List ℕ) where
  abbrev w : ℕ
  w = masks_length g

  abbrev masks_of : Term → List ℕ
  masks_of t = both_masks g rows t.row t.second t.first

  abbrev pub mask_in : ℕ → Term → List ℕ → List ℕ
  mask_in k t out = with_row (masks_length g) k (both_masks g rows t.row t.second t.first) out

  module _ (z : Sized g rows) where
    row_long : (r : ℕ) → RowIn g r → length (row_at (row_length g) rows r) ≡ row_length g
    row_long r h = length_row (row_length g) row_count_of rows r z.length_is (omega (arith, h.row_in))

    mask_long : (a r : ℕ) → RowIn g a → RowIn g r → length (coefficients g (mask_row g rows a r)) ≡ v_length g
    mask_long a r ha hr =
        let e = length_combined (p - 1) (row_at (row_length g) rows a) (row_at (row_length g) rows r) (row_long a ha ∙ sym (row_long r hr)) ∙ row_long a ha in
        length-take-le (v_length g) (mask_row g rows a r) (omega (arith, e))

    masks_long : (t : Term) → Factors g t → length (masks_of t) ≡ masks_length g
    masks_long t h =
        let one = mask_long t.row t.first h.row_in (row_below g t.first (omega (arith, h.triple_in.triple_in))) in
        let two = mask_long t.second (t.first + 1) h.second_in (row_below g (t.first + 1) (omega (arith, h.triple_in.triple_in))) in
        length-append (coefficients g (mask_row g rows t.row t.first)) (coefficients g (mask_row g rows t.second (t.first + 1)))
        ∙ omega (arith, one, two)

    pub part_room : (n i : ℕ) (before out : List ℕ) → i < n → length out ≡ length before → length before ≡ n * masks_length g
        → i * masks_length g + masks_length g ≤ length out
    part_room n i before out h e eb = omega (arith, next i n (masks_length g) h)

    pub part_kept : (n i : ℕ) (t : Term) (before out new : List ℕ) → i < n → Factors g t → length out ≡ length before
        → length before ≡ n * masks_length g → new ≡ mask_in i t out → length new ≡ length before
    part_kept n i t before out new h f e eb en =
        ap length en ∙ length_with_row w n out i (e ∙ eb) h (masks_of t) (masks_long t f) ∙ e

    filled : (k : ℕ) (ts : List Term) → Every (Factors g) ts → (front rest : List ℕ) → length front ≡ k * w → length rest ≡ length ts * w
        → walked mask_in k ts (front ++ rest) ≡ front ++ term_masks g rows ts
    unfolding Every term_masks
    filled k [] f front [] ef er = refl
    filled k [] f front (x ∷ rest) ef er = absurd (omega arith)
    filled k (t ∷ ts) f front rest ef er =
        ap (walked mask_in (suc k) ts)
        (ap₂ (λ (a b : List ℕ). a ++ (masks_of t ++ drop w b)) (take_at front rest (k * w) ef) (drop_at front rest (k * w) ef)
        ∙ sym (append_assoc front (masks_of t) (drop w rest)))
        ∙ filled (suc k) ts f.1 (front ++ masks_of t) (drop w rest)
        (length-append front (masks_of t) ∙ omega (arith, ef, masks_long t f.0, suc-mul k w))
        (length-drop w rest ∙ omega (arith, er, suc-mul (length ts) w))
        ∙ append_assoc front (masks_of t) (term_masks g rows ts)

    pub masks_walk : (ts : List Term) (out : List ℕ) → Every (Factors g) ts → length out ≡ length ts * masks_length g
        → walked mask_in 0 ts out ≡ term_masks g rows ts
    masks_walk ts out f e = filled 0 ts f [] out (omega arith) e
