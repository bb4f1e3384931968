-- A post's part of a record, as the code takes it: a fact for each place where it returns.
use Prim.Native.Nat.{ℕ, zero, suc, ◌+◌, ◌*◌, ◌-◌, ◌≤◌, ◌<◌}
use mathlib.Core.Path.{◌≡◌, refl, sym, ◌∙◌, ap}
use mathlib.Core.Bool.{Bool, true, false, ◌||◌, cond}
use mathlib.Core.List.{List, [], ◌∷◌}
use native.Mathlib.Nat.{add-sub_cancel_left, mul-le-mul_right, suc-mul, mul_comm}
use native.Mathlib.Numerals.{add-one}
use native.Mathlib.Omega.{arith}
use borrow.Author.Tests.{eq-eqb, ne_eqb, lt-ltb, le-ltb}
use lib.Seq.{length-take-le}
use lib.Dec.{eqb}
use lib.ListN.{length, take, drop, get_or, length-take}
use mir.Syntax.{w64}
use mir.Val.{Fits}
use Rattle.shape.specs.declared.Shape.{Shape}
use Rattle.shape.specs.Marks.{absent, present}
use Rattle.shape.specs.Lengths.{Valid, v_length, row_length, block_length, record_length}
use Rattle.shape.proofs.Small.{block_each}
use Rattle.refusal.specs.Refusal.{◌when◌, first}
use Rattle.refusal.specs.Conditions.{any_beyond}
use Rattle.session.specs.declared.Party.{Party}
use Rattle.blocks.specs.Blocks.{bad_block_of, bad_blocks, sent}
use Rattle.blocks.specs.Between.{PostIn}

-- j - 1 blocks before a block, and the block itself, are j blocks
pub post_in : (s : Shape) (j : ℕ) → 1 ≤ j → j ≤ s.n → PostIn s j
post_in s zero h k = absurd (omega arith)
post_in s (suc i) h k =
    let below : suc i * block_length s ≤ record_length s = mul-le-mul_right (block_length s) k in
    let checks : suc i * s.points ≤ s.n * s.points = mul-le-mul_right s.points k in
    record {
      post_in = (h, k);
      room = rw (suc_sub, ← suc-mul i (block_length s)) below;
      checks_room = rw (suc_sub, ← suc-mul i s.points, mul_comm s.points s.n) checks;
    }
  where
    suc_sub : suc i - 1 ≡ i
    suc_sub = omega arith

module _ (s : Shape) (j k : ℕ) (e : k ≡ block_length s) where
  pub block_start : (j - 1) * k ≡ (j - 1) * block_length s
  block_start = ap (λ (i : ℕ). (j - 1) * i) e

  pub block_fits : Valid s → PostIn s j → Fits w64 ((j - 1) * k)
  block_fits v i = record { fits = omega (arith, block_start, i.room, (block_each s (block_length s) refl v).fits) }

module _ (q : Party) (row blocks : List ℕ) (j : ℕ) where
  abbrev k : ℕ
  k = v_length q.shape

  abbrev at : ℕ
  at = (j - 1) * block_length q.shape

  module _ (count : ℕ) (ec : count ≡ v_length q.shape) where
    pub own_fits : length row ≡ row_length q.shape → count ≡ length (take count row)
    own_fits e = sym (length-take-le count row (omega arith))

    pub sent_own : j ≡ q.post → take count row ≡ sent q row blocks j
    unfolding sent
    sent_own e = rw (ec, eq-eqb j q.post e)

    pub sent_block : (mark : ℕ) → mark ≡ at → (j ≡ q.post → ⊥) → get_or blocks mark 0 ≡ present
        → take (mark + 1 + count - (mark + 1)) (drop (mark + 1) blocks) ≡ sent q row blocks j
    unfolding sent
    sent_block mark em n e =
        rw (em, ec, ne_eqb j q.post n, eq-eqb (get_or blocks at 0) present (rw em at e), add-sub_cancel_left (at + 1) k)

  pub sent_none : (mark : ℕ) → mark ≡ at → (j ≡ q.post → ⊥) → (get_or blocks mark 0 ≡ present → ⊥) → [] ≡ sent q row blocks j
  unfolding sent
  sent_none mark em n e = rw (ne_eqb j q.post n, ne_eqb (get_or blocks at 0) present (rw em at e))

  -- no more coefficients than a v has, so that as many powers of the check point are enough
  pub length_sent : length (sent q row blocks j) ≤ k
  unfolding sent
  length_sent = go (eqb j q.post) (eqb (get_or blocks at 0) present)
    where
      cut : (l : List ℕ) → length (take k l) ≤ k
      cut l = omega (arith, length-take k l)

      go : (a b : Bool) → length (cond a (take k row) (cond b (take k (drop (at + 1) blocks)) [])) ≤ k
      go true b = cut row
      go false true = cut (drop (at + 1) blocks)
      go false false = omega arith

module _ (q : Party) (blocks : List ℕ) (j : ℕ) where
  abbrev own_at : ℕ
  own_at = (j - 1) * block_length q.shape

  pub good_own : j ≡ q.post → false ≡ bad_block_of q blocks j
  unfolding bad_block_of
  good_own e = rw (eq-eqb j q.post e)

  -- 8, of the block
  abbrev found : ℕ
  found = first (8 when bad_block_of q blocks j ∷ [])

  pub own_passed : j ≡ q.post → 0 ≡ found
  own_passed e = rw (← good_own e) refl

  module _ (mark : ℕ) (em : mark ≡ own_at) (n : j ≡ q.post → ⊥) where
    pub absent_passed : get_or blocks mark 0 ≡ absent → 0 ≡ found
    unfolding bad_block_of
    absent_passed e = rw (ne_eqb j q.post n, eq-eqb (get_or blocks own_at 0) absent (rw em at e)) refl

    pub mark_found : (get_or blocks mark 0 ≡ absent → ⊥) → present < get_or blocks mark 0 → 8 ≡ found
    unfolding bad_block_of
    mark_found e h =
        rw (ne_eqb j q.post n, ne_eqb (get_or blocks own_at 0) absent (rw em at e), lt-ltb present (get_or blocks own_at 0) (rw em at h)) refl

    pub numbers_found : (r count : ℕ) → count ≡ v_length q.shape → (get_or blocks mark 0 ≡ absent → ⊥) → get_or blocks mark 0 ≤ present
        → r ≡ first (8 when any_beyond (take (mark + 1 + count - (mark + 1)) (drop (mark + 1) blocks)) ∷ []) → r ≡ found
    unfolding bad_block_of
    numbers_found r count ec e h g =
        rw (ne_eqb j q.post n, ne_eqb (get_or blocks own_at 0) absent (rw em at e), le-ltb present (get_or blocks own_at 0) (rw em at h), g, em, ec, add-sub_cancel_left (own_at + 1) (v_length q.shape)) refl

-- the search through the blocks
module _ (q : Party) (blocks : List ℕ) where
  abbrev n : ℕ
  n = q.shape.n

  pub blocks_start : bad_blocks q blocks 1 (n + 1 - 1) ≡ bad_blocks q blocks 1 n
  blocks_start = ap (bad_blocks q blocks 1) (omega arith)

  module _ (j : ℕ) (b : Bool) (e : bad_blocks q blocks j (n + 1 - j) ≡ b) where
    pub block_bad : (r : ℕ) → j < n + 1 → r ≡ first (8 when bad_block_of q blocks j ∷ []) → (r ≡ 0 → ⊥) → r ≡ first (8 when b ∷ [])
    unfolding bad_blocks
    block_bad r h t z = go (bad_block_of q blocks j) t (sym (ap (bad_blocks q blocks j) more) ∙ e)
      where
        more : n + 1 - j ≡ suc (n + 1 - suc j)
        more = omega arith

        go : (here : Bool) → r ≡ first (8 when here ∷ []) → (here || bad_blocks q blocks (suc j) (n + 1 - suc j)) ≡ b → r ≡ first (8 when b ∷ [])
        go true t f = rw (← f) t
        go false t f = absurd (z t)

    pub block_good : j < n + 1 → 0 ≡ first (8 when bad_block_of q blocks j ∷ []) → bad_blocks q blocks (j + 1) (n + 1 - (j + 1)) ≡ b
    unfolding bad_blocks
    block_good h t = rw (add-one j) (go (bad_block_of q blocks j) t (sym (ap (bad_blocks q blocks j) more) ∙ e))
      where
        more : n + 1 - j ≡ suc (n + 1 - suc j)
        more = omega arith

        go : (here : Bool) → 0 ≡ first (8 when here ∷ []) → (here || bad_blocks q blocks (suc j) (n + 1 - suc j)) ≡ b
            → bad_blocks q blocks (suc j) (n + 1 - suc j) ≡ b
        go true t f = absurd (omega (arith, t))
        go false t f = f

    pub blocks_end : n + 1 ≤ j → 0 ≡ first (8 when b ∷ [])
    unfolding bad_blocks
    blocks_end h = let none : n + 1 - j ≡ 0 = omega arith in rw (← e, none) refl
