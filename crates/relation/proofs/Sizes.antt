-- A list of parts that are equally long: the division that tells how many there are, and the part at a place.
use Prim.Native.Nat.{ℕ, ◌+◌, ◌*◌, ◌-◌, ◌/◌, ◌%◌, ◌≤◌, ◌<◌}
use mathlib.Core.Path.{◌≡◌, sym, ◌∙◌, ap}
use mathlib.Core.List.{List, [], ◌∷◌}
use native.Mathlib.Nat.{div-add-mod', add-zero, add-sub_cancel_left}
use native.Mathlib.Omega.{arith}
use lib.Arith.{digits_div}
use lib.ListN.{length, take, drop}
use borrow.Rule.Slice.PartMut.{put_mid}
use borrow.Author.Tests.{ne_eqb}
use mir.Syntax.{w64}
use mir.Val.{Fits}
use Rattle.lists.proofs.Parts.{part_length, put_whole}
use Rattle.refusal.specs.Refusal.{◌when◌, first}
use Rattle.refusal.specs.Conditions.{wrong_length}
use Rattle.session.specs.Rows.{row_at, with_row}

module _ (l : List ℕ) (count size parts : ℕ) (pos : 0 < size) (e : parts ≡ length l / size) where
  pub other_count : (parts ≡ count → ⊥) → 5 ≡ first (5 when wrong_length l (count * size) ∷ [])
  other_count n = rw (ne_eqb (length l) (count * size) other)
    where
      other : length l ≡ count * size → ⊥
      other h = n (e ∙ ap (λ (k : ℕ). k / size) (h ∙ sym (add-zero (count * size))) ∙ digits_div count pos)

  pub parts_fit : length l < 18446744073709551616 → Fits w64 (parts * size)
  parts_fit h =
      let d : length l / size * size + length l % size ≡ length l = div-add-mod' (length l) size in
      let f : length l / size * size < 18446744073709551616 = omega arith in
      rw e (record { fits = f })

  pub same_count : (r : ℕ) → parts ≡ count → r ≡ first (5 when wrong_length l (parts * size) ∷ [])
      → r ≡ first (5 when wrong_length l (count * size) ∷ [])
  same_count r h er = rw h at er

-- the part of w numbers at place i
module _ (w i size : ℕ) (l : List ℕ) (e : size ≡ w) where
  same : i * size ≡ i * w
  same = ap (λ (k : ℕ). i * k) e

  module _ (h : i * w + w ≤ length l) where
    pub end_in : i * size + size ≤ length l
    end_in = omega (arith, same, e)

    pub from_fits : length l < 18446744073709551616 → Fits w64 (i * size)
    from_fits b = record { fits = omega (arith, same) }

    pub end_fits : length l < 18446744073709551616 → Fits w64 (i * size + size)
    end_fits b = record { fits = omega (arith, same, e) }

    pub part_long : length (take (i * size + size - i * size) (drop (i * size) l)) ≡ w
    part_long = rw (e, add-sub_cancel_left (i * w) w) (part_length (i * w) w l h)

  pub part_is : take (i * size + size - i * size) (drop (i * size) l) ≡ row_at w l i
  part_is = rw (e, add-sub_cancel_left (i * w) w)

  pub part_put : (x y : List ℕ) → x ≡ y → put_mid (i * size) (i * size + size - i * size) l x ≡ with_row w i y l
  part_put x y q = rw e (put_whole (i * w) w l x y q)
