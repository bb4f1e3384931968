-- What the checks of masks leave, by name, and what the other calls on a triple share with them.
use Prim.Native.Nat.{ℕ, ◌+◌, ◌≤◌}
use mathlib.Core.Path.{◌≡◌, refl, sym}
use mathlib.Core.Bool.{Bool, false}
use mathlib.Core.List.{List, [], ◌∷◌, ◌++◌}
use native.Mathlib.Nat.{mul-le-mul_right}
use borrow.Author.Tests.{ltb-false}
use lib.ListN.{length}
use Rattle.shape.specs.Bounds.{last_row_at, last_triple}
use Rattle.shape.specs.Marks.{held, unused, further}
use Rattle.shape.specs.declared.Shape.{Shape}
use Rattle.shape.specs.Lengths.{row_length, masks_length}
use Rattle.refusal.specs.Refusal.{Test, ◌when◌, AllFail}
use Rattle.refusal.specs.Conditions.{any_beyond}
use Rattle.refusal.proofs.Laws.{equal}
use Rattle.refusal.proofs.Groups.{fail_parts}
use Rattle.session.specs.declared.Session.{Session}
use Rattle.session.specs.Sessions.{shape_of, mark}
use Rattle.session.specs.Rows.{width, row_at}
use Rattle.session.specs.Checks.{no_row, no_triple}
use Rattle.session.specs.Between.{Framed, TripleIn}
use Rattle.session.proofs.Calls.{allowed}
use Rattle.product_masks.specs.Masks.{triple_marks_of, mask_numbers, masks_place_of, masks_refusal_of}

-- The factor rows a and b, and the triple at r, whose first row has the mark m: what 6 and 7 leave of them.
pub record Factored (s : Session) (a b r m : ℕ) : Type 0 where
  pub a_in : a ≤ last_row_at
  pub b_in : b ≤ last_row_at
  pub triple_in : r ≤ last_triple
  pub a_held : mark s a ≡ held
  pub b_held : mark s b ≡ held
  pub first_mark : mark s r ≡ m
  pub second_mark : mark s (r + 1) ≡ further
  pub third_mark : mark s (r + 2) ≡ further

pub factored : (s : Session) (a b r m : ℕ) → no_row a ≡ false → no_row b ≡ false → no_triple r ≡ false → AllFail (triple_marks_of s a b r m)
    → Factored s a b r m
factored s a b r m low-a low-b low h =
    let (is_a, (is_b, (one, (two, (three, _))))) = h in
    record {
      a_in = ltb-false last_row_at a low-a;
      b_in = ltb-false last_row_at b low-b;
      triple_in = ltb-false last_triple r low;
      a_held = equal _ _ is_a;
      b_held = equal _ _ is_b;
      first_mark = equal _ _ one;
      second_mark = equal _ _ two;
      third_mark = equal _ _ three;
    }

pub triple_below : (g : Shape) (r : ℕ) → r ≤ last_triple → TripleIn g r
triple_below g r h = record { triple_in = h; room = mul-le-mul_right (row_length g) h }

-- 8 of the factor rows and of l and l', whether each is high
abbrev pub factor_tests : (a b first second : Bool) → List Test
factor_tests a b first second = 8 when a ∷ 8 when b ∷ 8 when first ∷ 8 when second ∷ []

pub record FactorsLow (s : Session) (rows : List ℕ) (a b r : ℕ) : Type 0 where
  pub a_low : any_beyond (row_at (width s) rows a) ≡ false
  pub b_low : any_beyond (row_at (width s) rows b) ≡ false
  pub first_low : any_beyond (row_at (width s) rows r) ≡ false
  pub second_low : any_beyond (row_at (width s) rows (r + 1)) ≡ false

pub factors_low : (s : Session) (rows : List ℕ) (a b r : ℕ) → AllFail (mask_numbers s rows a b r) → FactorsLow s rows a b r
factors_low s rows a b r h =
    let (low-a, (low-b, (low, (low', _)))) = h in
    record { a_low = low-a; b_low = low-b; first_low = low; second_low = low' }

-- 5 to 7
abbrev pub masks_early : Session → ℕ → ℕ → ℕ → List ℕ → List Test
masks_early s a b r out = masks_place_of s a b r out ++ triple_marks_of s a b r unused

pub record MasksPlaced (s : Session) (a b r : ℕ) (out : List ℕ) : Type 0 where
  pub out_long : length out ≡ masks_length (shape_of s)
  pub factors : Factored s a b r unused

pub masks_placed : (s : Session) (a b r : ℕ) (out : List ℕ) → AllFail (masks_early s a b r out) → MasksPlaced s a b r out
masks_placed s a b r out h =
    let (place, marks) = fail_parts (masks_place_of s a b r out) (triple_marks_of s a b r unused) h in
    let (long, (low-a, (low-b, (low, _)))) = place in
    record { out_long = equal _ _ long; factors = factored s a b r unused low-a low-b low marks }

pub record MasksMade (s : Session) (rows : List ℕ) (a b r : ℕ) (out : List ℕ) : Type 0 where
  pub framed : Framed s rows
  pub placed : MasksPlaced s a b r out
  pub numbers : FactorsLow s rows a b r

pub masks_made : (s : Session) (rows : List ℕ) (a b r : ℕ) (out : List ℕ) → masks_refusal_of s rows a b r out ≡ 0 → MasksMade s rows a b r out
unfolding masks_refusal_of
masks_made s rows a b r out z =
    let (frame, own) = allowed s rows (masks_early s a b r out ++ mask_numbers s rows a b r) tt 0 (sym z) refl in
    let (place, numbers) = fail_parts (masks_early s a b r out) (mask_numbers s rows a b r) own in
    record { framed = frame; placed = masks_placed s a b r out place; numbers = factors_low s rows a b r numbers }
