-- The refusal of an answer, the calls on the session's rows in the store, and room for masks.
use Prim.Native.Nat.{ℕ, zero, suc, ◌≤◌}
use mathlib.Core.Path.{◌≡◌, refl, ap, sym, ◌∙◌}
use mathlib.Core.List.{List}
use native.Mathlib.Omega.{arith}
use lib.ListN.{length, take}
use lib.Seq.{length-take-le}
use Rattle.shape.specs.declared.Shape.{Shape}
use Rattle.shape.specs.Lengths.{Valid, rows_length, masks_length}
use Rattle.refusal.specs.Refusal.{outcome}
use Rattle.session.specs.declared.Session.{Session}
use Rattle.session.specs.Sessions.{answer}
use Rattle.street_store.specs.Sizes.{InStreet, store_room, most_masks}
use Rattle.street_store.proofs.Keeping.{street_valid, v_room, row_room}

pub answer_refusal : (x v : ℕ) (new old : Session) → (answer x v new old).refusal ≡ x
unfolding outcome
answer_refusal zero v new old = refl
answer_refusal (suc k) v new old = refl

-- ---- the session's rows in the store
pub shape_valid : (g h : Shape) → InStreet h → g ≡ h → Valid g
shape_valid g h i e = rw e (street_valid h i)

pub rows_end : (g h : Shape) (r : ℕ) → g ≡ h → r ≡ rows_length g → r ≡ rows_length h
rows_end g h r d e = e ∙ ap rows_length d

module _ (g : Shape) (i : InStreet g) (store : List ℕ) (l : length store ≡ store_room) (end : ℕ) (e : end ≡ rows_length g) where
  pub rows_in : end ≤ length store
  rows_in = omega (arith, e, l, row_room g i)

  pub rows_prefix : end ≡ length (take end store)
  rows_prefix = sym (length-take-le end store rows_in)

pub street_shape : (g h : Shape) → InStreet h → g ≡ h → InStreet g
street_shape g h i e = rw e i

-- ---- the list that the numbers go to
module _ (g h : Shape) (i : InStreet h) (d : g ≡ h) (k : ℕ) (e : k ≡ masks_length g) (zeros : List ℕ) (l : length zeros ≡ most_masks) where
  pub masks_in : k ≤ length zeros
  masks_in = let r : k ≡ masks_length h = e ∙ ap masks_length d in omega (arith, r, l, v_room h i)

  pub masks_prefix : k ≡ length (take k zeros)
  masks_prefix = sym (length-take-le k zeros masks_in)

  pub masks_length_is : length (take k zeros) ≡ masks_length h
  masks_length_is = sym masks_prefix ∙ e ∙ ap masks_length d
