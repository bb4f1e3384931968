-- The walk to the end of a line, and bytes put behind those of a line.
use Prim.Native.Nat.{ℕ, zero, suc, ◌+◌, ◌-◌, ◌≤◌, ◌<◌}
use mathlib.Core.Path.{◌≡◌, refl, ap, sym, ◌∙◌}
use mathlib.Core.List.{List, [], ◌∷◌, ◌++◌, append_assoc}
use mathlib.Core.Bool.{Bool, true, false, cond}
use native.Mathlib.Nat.{add-sub_cancel_left}
use native.Mathlib.Numerals.{add-one}
use Rattle.std.specs.Prelude.{min, max}
use native.Mathlib.Omega.{arith}
use borrow.Author.Tests.{ne_eqb, ltb-true, ltb-false}
use borrow.Rule.Slice.PartMut.{put_mid}
use mir.Syntax.{w64}
use mir.Val.{Fits}
use lib.ListN.{length, get_or, take, drop, length-append, length-drop, drop_of_length-le}
use lib.Seq.{drop-cons, take_at, take_all, take-append-add, length-take-le}
use lib.Dec.{ltb, eqb}
use Rattle.csv_fields.specs.Fields.{overwrite}
use Rattle.csv_fields.proofs.Overwriting.{overwrite_part}
use Rattle.street_splitting.specs.Lines.{segment, kept_length, cut, laid}

-- ---- the end of a line
none_here : (s : List ℕ) (from : ℕ) → length s ≤ from → from ≡ from + segment (drop from s)
unfolding segment
none_here s from h = let q : segment (drop from s) ≡ 0 = rw (drop_of_length-le s h) in omega arith

module _ (s : List ℕ) (from i : ℕ) (inv : i + segment (drop i s) ≡ from + segment (drop from s)) where
  pub segment_end : i < length s → get_or s i 0 ≡ 10 → i + 1 ≡ from + segment (drop from s)
  unfolding segment
  segment_end h e = (rw (drop-cons s i 0 h, e) at inv)

  pub segment_more : i < length s → (get_or s i 0 ≡ 10 → ⊥) → i + 1 + segment (drop (i + 1) s) ≡ from + segment (drop from s)
  unfolding segment
  segment_more h n =
      let q : i + suc (segment (drop (suc i) s)) ≡ from + segment (drop from s) = rw (drop-cons s i 0 h, ne_eqb (get_or s i 0) 10 n) at inv in
      rw (add-one i) (omega arith)

  pub segment_none : length s ≤ i → i ≡ from + segment (drop from s)
  unfolding segment
  segment_none h = let q : i + 0 ≡ from + segment (drop from s) = rw (drop_of_length-le s h) at inv in omega arith

  pub segment_last : length s ≤ i → (from ≤ length s → i ≤ length s) → max (length s) from ≡ from + segment (drop from s)
  segment_last h w = go (ltb (length s) from) refl
    where
      go : (b : Bool) → ltb (length s) from ≡ b → max (length s) from ≡ from + segment (drop from s)
      go true e =
          let past = ltb-true (length s) from e in
          let n : from ≡ from + segment (drop from s) = none_here s from (omega arith) in
          omega arith
      go false e =
          let before = ltb-false (length s) from e in
          let n = segment_none h in
          let k = w before in
          omega arith

-- ---- bytes put behind those of a line, as far as there is room
overwritten : (l ys : List ℕ) (at k : ℕ) → at ≤ length l → length ys ≡ k → take (at + k) (put_mid at k l ys) ≡ take at l ++ ys
overwritten l ys at k h e =
    let n : length (take at l ++ ys) ≡ at + k = length-append (take at l) ys ∙ omega (arith, length-take-le at l h) in
    ap (take (at + k)) (sym (append_assoc (take at l) ys (drop k (drop at l)))) ∙ take_at (take at l ++ ys) (drop k (drop at l)) (at + k) n

module _ (l part : List ℕ) (len count : ℕ) (h : len ≤ kept_length) (r : length l ≡ kept_length)
    (c : count ≡ min (length part) (kept_length - len)) where
  c₂ : count ≤ length part
  c₂ = omega arith

  pub appended_fits : Fits w64 (len + count)
  appended_fits = omega arith

  pub appended_room : len + count ≤ length l
  appended_room = omega arith

  pub appended_within : len + count ≤ kept_length
  appended_within = omega arith

  pub appended_size : length (take count part) ≡ length (take (len + count - len) (drop len l))
  appended_size =
      let d : len + count - len ≡ count = add-sub_cancel_left len count in
      rw d (length-take-le count part c₂ ∙ sym (length-take-le count (drop len l) (omega (arith, length-drop len l))))

  size : length (take len l) ≡ len
  size = length-take-le len l (omega arith)

  short : take count part ≡ take (kept_length - len) part
  short = go (ltb (kept_length - len) (length part)) refl
    where
      go : (b : Bool) → ltb (kept_length - len) (length part) ≡ b → take count part ≡ take (kept_length - len) part
      go true e =
          let g = ltb-true (kept_length - len) (length part) e in
          let k : count ≡ kept_length - len = omega arith in
          ap (λ (k : ℕ). take k part) k
      go false e =
          let g : length part ≤ kept_length - len = ltb-false (kept_length - len) (length part) e in
          let k : count ≡ length part = omega arith in
          ap (λ (k : ℕ). take k part) k ∙ take_all (length part) part (omega arith) ∙ sym (take_all (kept_length - len) part g)

  pub appended_laid : (ys : List ℕ) → ys ≡ take count part → put_mid len (len + count - len) l ys ≡ laid len part l
  appended_laid ys q =
      let d : len + count - len ≡ count = add-sub_cancel_left len count in
      let w : length ys ≡ count = ap length q ∙ length-take-le count part c₂ in
      rw d (overwrite_part l ys len count w ∙ ap (λ (z : List ℕ). overwrite len z l) (q ∙ short))

  pub appended : (ys : List ℕ) → ys ≡ take count part → take (len + count) (put_mid len (len + count - len) l ys) ≡ cut (take len l ++ part)
  appended ys q =
      let d : len + count - len ≡ count = add-sub_cancel_left len count in
      let w : length ys ≡ count = ap length q ∙ length-take-le count part c₂ in
      let full : length (take len l) + (kept_length - len) ≡ kept_length = omega (arith, size) in
      rw d
      (overwritten l ys len count (omega arith) w ∙ ap (λ (z : List ℕ). take len l ++ z) (q ∙ short)
      ∙ sym (take-append-add (take len l) part (kept_length - len)) ∙ ap (λ (k : ℕ). take k (take len l ++ part)) full)
