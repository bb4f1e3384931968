-- A number of nine or ten digits: ten are written, and the comma stands in front of them or over a leading zero.
use Prim.Native.Nat.{ℕ, suc, ◌+◌, ◌-◌, ◌≤◌, ◌<◌, ◌^◌}
use mathlib.Core.Path.{◌≡◌, refl, ap, sym, ◌∙◌}
use mathlib.Core.List.{List, [], ◌∷◌, ◌++◌, append_assoc}
use mathlib.Core.Bool.{Bool, true, false}
use native.Mathlib.Omega.{arith}
use native.Mathlib.Numerals.{add-one}
use borrow.Author.Tests.{ltb-true, ltb-false}
use borrow.Rule.Slice.PartMut.{put_mid}
use mir.Syntax.{w64}
use mir.Val.{Fits}
use lib.ListN.{length, get_or, set, take, drop, length-drop}
use lib.Seq.{take-suc, length-take-le}
use lib.Dec.{ltb}
use Rattle.decimal.specs.Numeral.{last_digits, size, numeral}
use Rattle.csv_fields.specs.Fields.{field, overwrite}
use Rattle.decimal.proofs.Digits.{length_digits}
use Rattle.decimal.proofs.Joining.{nine_of_ten}
use Rattle.decimal.proofs.Spelling.{nine_places, ten_places}
use Rattle.csv_fields.proofs.Overwriting.{overwrite_part, length_field}

set_behind : (p r : List ℕ) (c v : ℕ) → set (p ++ (c ∷ r)) (length p) v ≡ p ++ (v ∷ r)
set_behind [] r c v = refl
set_behind (a ∷ p) r c v = ap (λ (l : List ℕ). a ∷ l) (set_behind p r c v)

-- the first byte of a text is written over
overwrite_head : (l w : List ℕ) (at c v : ℕ) → at ≤ length l → set (overwrite at (c ∷ w) l) at v ≡ overwrite at (v ∷ w) l
overwrite_head l w at c v h =
    let r : List ℕ = w ++ drop (at + suc (length w)) l in
    ap (λ (i : ℕ). set (take at l ++ (c ∷ r)) i v) (sym (length-take-le at l h)) ∙ set_behind (take at l) r c v

-- the byte in front of a text stays
overwrite_keep : (l w : List ℕ) (at : ℕ) → at < length l → overwrite (at + 1) w l ≡ overwrite at (get_or l at 0 ∷ w) l
overwrite_keep l w at h =
    let e : at + 1 + length w ≡ at + suc (length w) = omega arith in
    rw (e, add-one at, take-suc l at 0 h) (append_assoc (take at l) (get_or l at 0 ∷ []) (w ++ drop (at + suc (length w)) l))

module _ (l : List ℕ) (at k x : ℕ) (h : at + length (field x) ≤ length l) (g : 100000000 ≤ x) (s : x < 4294967296) (e : k ≡ size x) where
  from_nine : 9 ≤ k
  from_nine = by_size (ltb x 1000000000) refl
    where
      by_size : (t : Bool) → ltb x 1000000000 ≡ t → 9 ≤ k
      by_size true q = omega (arith, nine_places x g (ltb-true x 1000000000 q))
      by_size false q = omega (arith, ten_places x (ltb-false x 1000000000 q) s)

  pub long_fits : length l < 2 ^ 64 → Fits w64 (at + 1 + k)
  long_fits b = omega (arith, length_field x)

  pub long_sub : 10 ≤ at + 1 + k
  long_sub = omega (arith, from_nine)

  pub long_room : at + 1 + k ≤ length l
  long_room = omega (arith, length_field x)

  pub long_ten : length (take (at + 1 + k - (at + 1 + k - 10)) (drop (at + 1 + k - 10) l)) ≡ 10
  long_ten =
      let c : at + 1 + k - (at + 1 + k - 10) ≡ 10 = omega (arith, from_nine) in
      rw c (length-take-le 10 (drop (at + 1 + k - 10) l) (omega (arith, from_nine, long_room, length-drop (at + 1 + k - 10) l)))

  pub long_end : at + 1 + k ≡ at + length (field x)
  long_end = omega (arith, length_field x)

  pub long_written : (ys : List ℕ) → ys ≡ last_digits 10 x
      → set (put_mid (at + 1 + k - 10) (at + 1 + k - (at + 1 + k - 10)) l ys) at 44 ≡ overwrite at (field x) l
  long_written ys d = by_size (ltb x 1000000000) refl
    where
      c : at + 1 + k - (at + 1 + k - 10) ≡ 10
      c = omega (arith, from_nine)

      n : length ys ≡ 10
      n = rw d (length_digits 10 x)

      by_size : (t : Bool) → ltb x 1000000000 ≡ t
          → set (put_mid (at + 1 + k - 10) (at + 1 + k - (at + 1 + k - 10)) l ys) at 44 ≡ overwrite at (field x) l
      by_size true q =
          let u = ltb-true x 1000000000 q in
          let m : 9 ≡ size x = nine_places x g u in
          let f : at + 1 + k - 10 ≡ at = omega arith in
          let y : ys ≡ 48 ∷ numeral x = d ∙ nine_of_ten x u ∙ ap (λ (i : ℕ). 48 ∷ last_digits i x) m in
          rw (c, f, overwrite_part l ys at 10 n, y) (overwrite_head l (numeral x) at 48 44 (omega arith))
      by_size false q =
          let m : 10 ≡ size x = ten_places x (ltb-false x 1000000000 q) s in
          let f : at + 1 + k - 10 ≡ at + 1 = omega arith in
          let y : ys ≡ numeral x = d ∙ ap (λ (i : ℕ). last_digits i x) m in
          let b : at < length l = omega (arith, length_field x) in
          rw (c, f, overwrite_part l ys (at + 1) 10 n, y, overwrite_keep l (numeral x) at b) (overwrite_head l (numeral x) at (get_or l at 0) 44 (omega arith))
