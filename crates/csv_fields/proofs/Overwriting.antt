-- Lists written over from a position on, and the loops that write fields.
use Prim.Native.Nat.{ℕ, ◌+◌, ◌-◌, ◌*◌, ◌≤◌, ◌<◌, ◌^◌}
use mathlib.Core.Path.{◌≡◌, refl, ap, sym, ◌∙◌}
use mathlib.Core.List.{List, [], ◌∷◌, ◌++◌, append_assoc, append-nil}
use native.Mathlib.Omega.{arith}
use native.Mathlib.Numerals.{add-one}
use native.Mathlib.Nat.{add-sub_cancel_left}
use borrow.Rule.Slice.PartMut.{put_mid}
use mir.Syntax.{w64}
use mir.Val.{Fits}
use lib.ListN.{length, get_or, set, take, drop, length-append, length-drop, length-set, take-append-drop}
use lib.Seq.{drop-drop, drop_at, take_at, take-suc, take_all, length-take-le, set_split}
use Rattle.decimal.specs.Numeral.{last_digits, size, numeral}
use Rattle.csv_fields.specs.Fields.{field, fields, overwrite}
use Rattle.decimal.proofs.Sizes.{size_le}
use Rattle.decimal.proofs.Numerals.{length_numeral}

pub overwrite_nothing : (l : List ℕ) (at : ℕ) → l ≡ overwrite at [] l
overwrite_nothing l at = let e : at + 0 ≡ at = omega arith in rw e (sym (take-append-drop at l))

pub overwrite_byte : (l : List ℕ) (at v : ℕ) → at < length l → set l at v ≡ overwrite at (v ∷ []) l
overwrite_byte l at v h = rw (set_split l at v h, add-one at)

pub overwrite_part : (l ys : List ℕ) (at k : ℕ) → length ys ≡ k → put_mid at k l ys ≡ overwrite at ys l
overwrite_part l ys at k e = rw (← e) (ap (λ (r : List ℕ). take at l ++ (ys ++ r)) (drop-drop (length ys) at l))

-- two texts, one behind the other
pub overwrite_twice : (l w v : List ℕ) (at : ℕ) → at ≤ length l → overwrite (at + length w) v (overwrite at w l) ≡ overwrite at (w ++ v) l
overwrite_twice l w v at h =
    let p : List ℕ = take at l ++ w in
    let r : List ℕ = drop (at + length w) l in
    let n : length p ≡ at + length w = length-append (take at l) w ∙ ap (λ (k : ℕ). k + length w) (length-take-le at l h) in
    let a : overwrite at w l ≡ p ++ r = sym (append_assoc (take at l) w r) in
    let m : at + length w + length v ≡ at + length (w ++ v) = omega (arith, length-append w v) in
    let b : drop (at + length w + length v) (p ++ r) ≡ drop (at + length (w ++ v)) l =
    sym (drop-drop (length v) (at + length w) (p ++ r)) ∙ ap (drop (length v)) (drop_at p r (at + length w) n)
    ∙ drop-drop (length v) (at + length w) l ∙ ap (λ (k : ℕ). drop k l) m in
    rw (a, take_at p r (at + length w) n, b)
    (append_assoc (take at l) w _ ∙ ap (λ (m : List ℕ). take at l ++ m) (sym (append_assoc w v _)))

-- ---- one field
pub length_field : (x : ℕ) → length (field x) ≡ 1 + size x
length_field x = omega (arith, length_numeral x)

module _ (l : List ℕ) (at k x : ℕ) (h : at + length (field x) ≤ length l) (e : k ≡ size x) where
  pub field_fits : length l < 2 ^ 64 → Fits w64 (at + 1 + k)
  field_fits b = omega (arith, length_field x)

  pub field_room : at + 1 + k ≤ length (set l at 44)
  field_room = simp length-set (omega (arith, length_field x))

  pub field_end : at + 1 + k ≡ at + length (field x)
  field_end = omega (arith, length_field x)

  pub field_written : (ys : List ℕ) → ys ≡ last_digits (length (take (at + 1 + k - (at + 1)) (drop (at + 1) (set l at 44)))) x
      → put_mid (at + 1) (at + 1 + k - (at + 1)) (set l at 44) ys ≡ overwrite at (field x) l
  field_written ys d =
      let c : at + 1 + k - (at + 1) ≡ k = add-sub_cancel_left (at + 1) k in
      let r : k ≤ length (drop (at + 1) (set l at 44)) =
      omega (arith, length-drop (at + 1) (set l at 44), length-set l at 44, length_field x) in
      let q : ys ≡ numeral x = d ∙ rw (c, length-take-le k (drop (at + 1) (set l at 44)) r, e) in
      let p : at ≤ length l = omega arith in
      let b : at < length l = omega (arith, length_field x) in
      rw (c, q)
      (overwrite_part (set l at 44) (numeral x) (at + 1) k (length_numeral x ∙ sym e)
      ∙ rw (overwrite_byte l at 44 b) (overwrite_twice l (44 ∷ []) (numeral x) at p))

-- ---- the fields of a list
pub fields_append : (xs ys : List ℕ) → fields (xs ++ ys) ≡ fields xs ++ fields ys
unfolding fields
fields_append [] ys = refl
fields_append (x ∷ xs) ys = ap (λ (l : List ℕ). field x ++ l) (fields_append xs ys) ∙ sym (append_assoc (field x) (fields xs) (fields ys))

fields_more : (xs : List ℕ) (i : ℕ) → i < length xs → fields (take (i + 1) xs) ≡ fields (take i xs) ++ field (get_or xs i 0)
unfolding fields
fields_more xs i h =
    rw (add-one i, take-suc xs i 0 h)
    (fields_append (take i xs) (get_or xs i 0 ∷ []) ∙ ap (λ (l : List ℕ). fields (take i xs) ++ l) (append-nil (field (get_or xs i 0))))

length_more : (xs : List ℕ) (i : ℕ) → i < length xs → length (fields (take (i + 1) xs)) ≡ length (fields (take i xs)) + length (field (get_or xs i 0))
length_more xs i h = ap length (fields_more xs i h) ∙ length-append (fields (take i xs)) (field (get_or xs i 0))

length_part : (xs : List ℕ) (i : ℕ) → length (fields (take i xs)) ≤ length (fields xs)
length_part xs i =
    let e : fields xs ≡ fields (take i xs) ++ fields (drop i xs) =
    ap fields (sym (take-append-drop i xs)) ∙ fields_append (take i xs) (drop i xs) in
    omega (arith, ap length e ∙ length-append (fields (take i xs)) (fields (drop i xs)))

-- i fields stand in the list, from `at` up to pos
pub record Put (l : List ℕ) (at : ℕ) (xs out : List ℕ) (pos i : ℕ) : Type 0 where
  pub room : at + length (fields xs) ≤ length l
  pub within : i ≤ length xs
  pub same : length out ≡ length l
  pub place : pos ≡ at + length (fields (take i xs))
  pub list : out ≡ overwrite at (fields (take i xs)) l

pub put_start_lem : (l xs : List ℕ) (at : ℕ) → at + length (fields xs) ≤ length l → Put l at xs l at 0
unfolding fields
put_start_lem l xs at h = record { room = h; within = omega arith; same = refl; place = omega arith; list = overwrite_nothing l at }

module _ (l : List ℕ) (at : ℕ) (xs out : List ℕ) (pos i : ℕ) (inv : Put l at xs out pos i) where
  pub put_room : i < length xs → pos + length (field (get_or xs i 0)) ≤ length out
  put_room h = omega (arith, inv.room, inv.same, inv.place, length_more xs i h, length_part xs (i + 1))

  pub put_more : (out' : List ℕ) (pos' : ℕ) → i < length xs → pos' ≡ pos + length (field (get_or xs i 0))
      → out' ≡ overwrite pos (field (get_or xs i 0)) out → length out' ≡ length out → Put l at xs out' pos' (i + 1)
  put_more out' pos' h p q n =
      let a : at ≤ length l = omega (arith, inv.room) in
      record {
        room = inv.room;
        within = omega arith;
        same = n ∙ inv.same;
        place = omega (arith, inv.place, length_more xs i h);
        list = q ∙ rw (inv.place, inv.list, fields_more xs i h) (overwrite_twice l (fields (take i xs)) (field (get_or xs i 0)) at a);
      }

  pub put_place : length xs ≤ i → pos ≡ at + length (fields xs)
  put_place h = rw (take_all i xs h) at inv.place

  pub put_list : length xs ≤ i → out ≡ overwrite at (fields xs) l
  put_list h = rw (take_all i xs h) at inv.list

-- ---- how many bytes the fields take
pub length_fields_le : (xs : List ℕ) → length (fields xs) ≤ 11 * length xs
unfolding fields
length_fields_le [] = omega arith
length_fields_le (x ∷ xs) = omega (arith, length-append (field x) (fields xs), length_field x, size_le 9 x, length_fields_le xs)

pub record Summed (xs : List ℕ) (sum i : ℕ) : Type 0 where
  pub few : length xs ≤ 4294967296
  pub within : i ≤ length xs
  pub says : sum ≡ length (fields (take i xs))

pub summed_start : (xs : List ℕ) → length xs ≤ 4294967296 → Summed xs 0 0
unfolding fields
summed_start xs h = record { few = h; within = omega arith; says = refl }

module _ (xs : List ℕ) (sum i : ℕ) (inv : Summed xs sum i) where
  summed_small : sum ≤ 11 * 4294967296
  summed_small = omega (arith, inv.says, inv.few, length_part xs i, length_fields_le xs)

  pub summed_fits_comma : Fits w64 (sum + 1)
  summed_fits_comma = omega (arith, summed_small)

  pub summed_fits : (k : ℕ) → k ≡ size (get_or xs i 0) → Fits w64 (sum + 1 + k)
  summed_fits k e = omega (arith, summed_small, size_le 9 (get_or xs i 0))

  pub summed_more : (k : ℕ) → i < length xs → k ≡ size (get_or xs i 0) → Summed xs (sum + 1 + k) (i + 1)
  summed_more k h e =
      record { few = inv.few; within = omega arith; says = omega (arith, inv.says, length_field (get_or xs i 0), length_more xs i h) }

  pub summed_end : length xs ≤ i → sum ≡ length (fields xs)
  summed_end h = rw (take_all i xs h) at inv.says
