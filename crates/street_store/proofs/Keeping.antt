-- A record of the store: emptied or kept, and its place inside the store.
use Prim.Native.Nat.{ℕ, zero, suc, ◌+◌, ◌-◌, ◌≤◌, ◌<◌, ◌^◌}
use mathlib.Core.Path.{◌≡◌, refl, ap, ◌∙◌}
use mathlib.Core.List.{List, ◌∷◌}
use mathlib.Core.Bool.{Bool, true, false}
use native.Mathlib.Nat.{add-sub_cancel_left, mul-le-mul}
use native.Mathlib.Omega.{arith}
use borrow.Rule.Slice.PartMut.{put_mid}
use mir.Syntax.{w64}
use mir.Val.{Fits}
use lib.ListN.{length, take, drop, replicate, length-drop, length-replicate}
use lib.Seq.{length-take-le}
use Rattle.shape.specs.declared.Shape.{Shape}
use Rattle.shape.specs.Lengths.{Valid, v_length, row_length, block_length, record_length}
use Rattle.records.specs.Records.{with_block, block_of}
use Rattle.street_store.specs.Sizes.{street_posts, longest_v, longest_row, record_room, InStreet}
use Rattle.street_store.specs.Records.{record_at, record_if, with_record, kept}

-- ---- the record, emptied or not
pub kept_same : (same : Bool) (l : List ℕ) → same ≡ true → l ≡ record_if same l
kept_same same l e = rw e

pub kept_empty : (same : Bool) (l new : List ℕ) → same ≡ false → new ≡ replicate (length l) 0 → new ≡ record_if same l
kept_empty same l new n q = q ∙ rw n

-- ---- lengths
pub street_valid : (g : Shape) → InStreet g → Valid g
street_valid g i = i.valid

-- no station's are greater than the largest's
module _ (g : Shape) (i : InStreet g) where
  pub v_room : v_length g ≤ longest_v
  v_room = omega (arith, i.few, i.valid.t_in.1, i.valid.reach_in.1)

  pub row_room : row_length g ≤ longest_row
  row_room = omega (arith, i.few, i.valid.t_in.1, i.valid.reach_in.1, i.valid.checks_in.1)

  pub record_room_is : record_length g ≤ record_room
  record_room_is = mul-le-mul {n₁ = g.n} {m₁ = block_length g} {n₂ = street_posts} {m₂ = longest_v + 1} i.few (omega (arith, v_room))

pub block_kept : (g : Shape) (post : ℕ) (l l' xs m : List ℕ) (same : Bool) → l' ≡ record_if same l → m ≡ with_block g post (block_of xs) l'
    → m ≡ with_block g post (block_of xs) (record_if same l)
block_kept g post l l' xs m same a b = b ∙ rw a

-- ---- the record's place in the store
module _ (g : Shape) (store : List ℕ) (at k : ℕ) (i : InStreet g) (h : at + record_room ≤ length store) (e : k ≡ record_length g) where
  pub place_fits : length store < 2 ^ 64 → Fits w64 (at + k)
  place_fits b = omega (arith, record_room_is g i)

  pub place_within : at + k ≤ length store
  place_within = omega (arith, record_room_is g i)

  pub place_length : length (take (at + k - at) (drop at store)) ≡ record_length g
  place_length =
      let c : at + k - at ≡ k = add-sub_cancel_left at k in
      rw c (length-take-le k (drop at store) (omega (arith, length-drop at store, record_room_is g i)) ∙ e)

  pub place_kept : (same : Bool) (post : ℕ) (xs ys : List ℕ)
      → ys ≡ with_block g post (block_of xs) (record_if same (take (at + k - at) (drop at store)))
      → put_mid at (at + k - at) store ys ≡ kept at g same post xs store
  unfolding kept
  place_kept same post xs ys q =
      let c : at + k - at ≡ k = add-sub_cancel_left at k in
      let d : at + k - at ≡ record_length g = c ∙ e in
      let w : ys ≡ with_block g post (block_of xs) (record_if same (record_at at g store)) = rw d at q in
      rw d (ap (λ (z : List ℕ). with_record at g z store) w)

pub take_zeros : (k m : ℕ) → k ≤ m → take k (replicate {A = ℕ} m 0) ≡ replicate k 0
take_zeros zero m h = refl
take_zeros (suc k) zero h = absurd (omega arith)
take_zeros (suc k) (suc m) h = ap (λ (l : List ℕ). 0 ∷ l) (take_zeros k m (omega arith))

-- ---- a record where it stands, or an empty one
module _ (g : Shape) (store empty : List ℕ) (at k : ℕ) (same : Bool) (i : InStreet g) (h : at + record_room ≤ length store)
    (z : empty ≡ replicate record_room 0) (e : k ≡ record_length g) where
  pub record_within : k ≤ length empty
  record_within = omega (arith, record_room_is g i, ap length z, length-replicate {A = ℕ} record_room 0)

  pub record_stands : same ≡ true → take (at + k - at) (drop at store) ≡ record_if same (record_at at g store)
  record_stands q = rw (add-sub_cancel_left at k, e, q)

  pub record_empty : same ≡ false → take k empty ≡ record_if same (record_at at g store)
  record_empty q =
      let l : length (record_at at g store) ≡ record_length g = length-take-le (record_length g) (drop at store) (omega (arith, length-drop at store, record_room_is g i)) in
      rw (z, e, q, l) (take_zeros (record_length g) record_room (record_room_is g i))
